-- `sheet_moves::put::put_entries` meets its contract: the entries that are left, added to what there is, are all. Assumes nothing.
use mathlib.Core.Path.{◌≡◌}
use Prim.Native.Nat.{◌-◌, ◌≤◌}
use lib.ListN.{length}
use Rattle.rules.specs.Sheet.{count}
use Rattle.rules.specs.Move.{entries_moved}
use Rattle.text_out.specs.Out.{out, add}
use Rattle.sheet_moves.specs.Way.{is_up, shifted}
use Rattle.sheet_moves.proofs.put.put_entries.Given as goal

abbrev pub invariant-loop-i : goal.invariant-loop-i
invariant-loop-i l =
    (l.i ≤ l.i-end)
    × (length l.buf ≡ length l.initial.buf)
    × (add (entries_moved (shifted (is_up l.way)) l.sheet l.i (l.i-end - l.i)) (out l.next l.buf)
    ≡ add (entries_moved (shifted (is_up l.way)) l.sheet 0 (count l.sheet)) (out l.initial.next l.initial.buf))

abbrev pub decreases-loop-i : goal.decreases-loop-i
decreases-loop-i l = l.i-end - l.i
