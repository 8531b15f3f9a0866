-- `text_hex::table::put_flash` meets its contract: the blocks that are left, added to what there is, are all. Assumes nothing.
use native.Mathlib.Omega.{arith}
use mathlib.Core.Path.{sym, ap, ◌∙◌}
use mathlib.Core.List.{List, ◌++◌}
use Prim.Native.Nat.{◌+◌, ◌-◌}
use Rattle.text_hex.specs.Gathered.{memory_of}
use Rattle.text_out.specs.Out.{out, add}
use Rattle.text_hex.proofs.NamedBlocks.{from_here_later, from_end}
use Rattle.rules.specs.Hex.{Named, named_from, entries_of}
use Rattle.text_hex.proofs.table.put_flash.Goals as goal

pub loop-i-preserved : goal.loop-i-preserved
loop-i-preserved c =
    let a = c.args in
    let m = memory_of a.cells.now in
    let l = c.loop-i in
    let n = c.count_of-i-end.result in
    let k = c.put_named-next in (
      omega arith,
      l.invariant.1,
      l.invariant.2,
      omega arith,
      omega (arith, k.ensures.offset_bound),
      λ later.
          k.ensures.buf_after (named_from m a.f (l.i + 1) (n - (l.i + 1)) ++ later)
          ∙ ap (λ (x : List Named). add (entries_of l.next.offset x) (out l.next.at l.buf)) (from_here_later m a.f l.i n (omega arith) later)
          ∙ l.invariant.5 later,
    )

pub returns-clause-buf_after : goal.returns-clause-buf_after
returns-clause-buf_after c =
    let a = c.args in
    let m = memory_of a.cells.now in
    let l = c.loop-i in
    let n = c.count_of-i-end.result in
    λ later.
    ap (λ (x : List Named). add (entries_of l.next.offset (x ++ later)) (out l.next.at l.buf)) (sym (from_end m a.f l.i n (omega arith)))
    ∙ l.invariant.5 later
