-- `chip_blank::search` meets its contract: every byte that the loops have passed is blank, and the index says where the next one lies. Assumes nothing.
use mathlib.Core.Path.{◌≡◌, sym, ◌∙◌}
use Prim.Native.Nat.{◌+◌, ◌*◌, ◌<◌}
use native.Mathlib.Omega.{arith}
use lib.ListN.{length}
use Rattle.rules.specs.Chip.{pages_per_block}
use Rattle.chip_blank.proofs.Used.{before_passed, found_used, found_none}
use Rattle.chip_blank.proofs.Spots.{all_blocks, block_fits, spot}
use Rattle.chip_blank.proofs.search.Goals as goal

pub loop-preserved : goal.loop-preserved
loop-preserved c =
    let i = c.loop in
    let p = c.loop-p in
    let a = c.args in
    let l = c.search in
    let z = block_fits a.first.0 l.b l.at a.f (a.last.0 + 1) l.invariant.0 (omega arith) l.invariant.2 in
    let q : c.pages_per_block-pages.result ≡ pages_per_block a.f = c.pages_per_block-pages.ensures in
    let j : i.at ≡ p.at + i.counter = i.invariant.1 in
    let k : p.at ≡ l.at + p.p * 256 = p.invariant.1 in
    let inside : i.at < length a.part.now = omega arith in
    (omega arith, omega arith, i.invariant.2, before_passed _ i.at inside c.if-part-at.false i.invariant.3)

pub returns-after-search : goal.returns-after-search
returns-after-search c =
    let a = c.args in
    let l = c.search in
    let e : l.b ≡ a.last.0 + 1 = omega arith in
    let z = all_blocks a.first.0 (a.last.0 + 1) l.at a.f (omega arith) (rw (← e) l.invariant.2) in
    l.invariant.3 ∙ sym (found_none a.f a.first a.part.now l.at l.invariant.4 (omega arith))

pub returns-then-part-at : goal.returns-then-part-at
returns-then-part-at c =
    let i = c.loop in
    let p = c.loop-p in
    let a = c.args in
    let l = c.search in
    let z = block_fits a.first.0 l.b l.at a.f (a.last.0 + 1) l.invariant.0 (omega arith) l.invariant.2 in
    let q : c.pages_per_block-pages.result ≡ pages_per_block a.f = c.pages_per_block-pages.ensures in
    let j : i.at ≡ p.at + i.counter = i.invariant.1 in
    let k : p.at ≡ l.at + p.p * 256 = p.invariant.1 in
    let inside : i.at < length a.part.now = omega arith in
    let w = spot a.first.0 l.b l.at a.f p.p i.counter i.at l.invariant.2 (omega arith) (omega arith) (omega arith) in
    sym (found_used a.f a.first a.part.now i.at i.invariant.3 inside c.if-part-at.true l.b p.p w.0 w.1)
