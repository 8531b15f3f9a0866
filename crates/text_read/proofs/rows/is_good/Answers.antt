-- `text_read::rows::is_good` meets its contract: the units that are left decide. Assumes nothing.
use mathlib.Core.Path.{◌≡◌, sym, ◌∙◌}
use Prim.Native.Nat.{◌+◌, ◌-◌, ◌*◌}
use native.Mathlib.Omega.{arith}
use native.Mathlib.Nat.{suc-mul}
use lib.ListN.{drop}
use Rattle.std.specs.Prelude.{is_some, true, false}
use Rattle.text_read.specs.Bytes.{below}
use Rattle.text_read.proofs.Digits.{below_if_some, past_if_none}
use Rattle.text_read.proofs.Units.{good_bad, good_more, good_end}
use Rattle.text_read.proofs.rows.is_good.Goals as goal

pub returns-then-is_none : goal.returns-then-is_none
returns-then-is_none g c =
    let l = c.loop-k in
    let u = g.U.Unit.unit in
    let size = g.U.Unit.SIZE in
    let none : is_some (below 256 (u (drop (l.k * size) c.args.row.now))) ≡ false = rw (c.byte.ensures, c.rest.ensures, c.SIZE-in-loop-k.ensures) at c.if-is_none.ensures in
    sym (l.invariant.1 ∙ good_bad u size (c.count-k-end.result - l.k) _ (omega arith) (past_if_none 256 _ none))

pub loop-k-preserved : goal.loop-k-preserved
loop-k-preserved g c =
    let l = c.loop-k in
    let u = g.U.Unit.unit in
    let size = g.U.Unit.SIZE in
    let n = c.count-k-end.result - l.k in
    let some : is_some (below 256 (u (drop (l.k * size) c.args.row.now))) ≡ true = rw (c.byte.ensures, c.rest.ensures, c.SIZE-in-loop-k.ensures) at c.if-is_none.ensures in
    let e : n - 1 ≡ c.count-k-end.result - (l.k + 1) = omega arith in
    let f : l.k * size + size ≡ (l.k + 1) * size = omega (arith, suc-mul l.k size) in
    (omega arith, l.invariant.1 ∙ good_more u size n (l.k * size) c.args.row.now (omega arith) (below_if_some 256 _ some) ∙ rw (e, f))

pub returns : goal.returns
returns g c =
    let l = c.loop-k in
    sym (l.invariant.1 ∙ good_end g.U.Unit.unit g.U.Unit.SIZE (c.count-k-end.result - l.k) _ (omega arith))
