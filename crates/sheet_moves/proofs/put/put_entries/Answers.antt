-- `sheet_moves::put::put_entries` meets its contract: the entries that are left, added to what there is, are all. Assumes nothing.
use native.Mathlib.Omega.{arith}
use mathlib.Core.Path.{ap, ◌∙◌}
use Prim.Native.Nat.{◌+◌, ◌-◌}
use Rattle.rules.specs.Move.{entries_moved}
use Rattle.text_out.specs.Out.{out, add}
use Rattle.sheet_moves.specs.Way.{is_up, shifted}
use Rattle.sheet_moves.proofs.Entries.{entries_more, entries_end}
use Rattle.sheet_moves.proofs.put.put_entries.Goals as goal

pub loop-i-preserved : goal.loop-i-preserved
loop-i-preserved c =
    let a = c.args in
    let n = c.count-i-end.result in
    let i = c.loop-i.i in
    let to = shifted (is_up a.way) in (
      omega arith,
      omega arith,
      ap (add (entries_moved to a.sheet.now (i + 1) (n - (i + 1)))) c.put_entry-next.ensures
          ∙ entries_more to a.sheet.now i n (out c.loop-i.next c.loop-i.buf) (omega arith)
          ∙ c.loop-i.invariant.2,
    )

pub returns : goal.returns
returns c =
    let a = c.args in
    entries_end (shifted (is_up a.way)) a.sheet.now c.loop-i.i c.count-i-end.result (out c.loop-i.next c.loop-i.buf) (omega arith)
    ∙ c.loop-i.invariant.2
