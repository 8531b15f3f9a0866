-- `text_hex::bodies::put_flash` meets its contract: the blocks that are left, added to what there is, are all. Assumes nothing.
use native.Mathlib.Omega.{arith}
use mathlib.Core.Path.{sym, ap, ◌∙◌}
use mathlib.Core.List.{List, ◌++◌}
use Prim.Native.Nat.{◌+◌, ◌-◌}
use Rattle.text_hex.specs.Gathered.{memory_of}
use Rattle.text_out.specs.Out.{out, add}
use Rattle.text_hex.proofs.NamedBlocks.{from_here_later, from_end}
use Rattle.rules.specs.Hex.{Named, named_from, bodies_of}
use Rattle.text_hex.proofs.bodies.put_flash.Goals as goal

pub loop-i-preserved : goal.loop-i-preserved
loop-i-preserved c =
    let a = c.args in
    let m = memory_of a.cells.now in
    let l = c.loop-i in
    let n = c.count_of-i-end.result in
    let k = c.put_named-next in (
      omega arith,
      l.invariant.1,
      l.invariant.2,
      omega arith,
      λ later.
          k.ensures (named_from m a.f (l.i + 1) (n - (l.i + 1)) ++ later)
          ∙ ap (λ (x : List Named). add (bodies_of m x) (out l.next l.buf)) (from_here_later m a.f l.i n (omega arith) later)
          ∙ l.invariant.4 later,
    )

pub returns : goal.returns
returns c =
    let a = c.args in
    let m = memory_of a.cells.now in
    let l = c.loop-i in
    let n = c.count_of-i-end.result in
    λ later.
    ap (λ (x : List Named). add (bodies_of m (x ++ later)) (out l.next l.buf)) (sym (from_end m a.f l.i n (omega arith)))
    ∙ l.invariant.4 later
