-- `text_show::map::put_code_rows` meets its contract: the rows that are left, added to what there is, are all. Assumes nothing.
use mathlib.Core.Path.{◌≡◌}
use Prim.Native.Nat.{◌-◌, ◌≤◌}
use lib.ListN.{length}
use Rattle.text_out.specs.Out.{out, add}
use Rattle.text_show.specs.Map.{code_rows}
use Rattle.text_show.proofs.map.put_code_rows.Given as goal

abbrev pub invariant-loop-row : goal.invariant-loop-row
invariant-loop-row l =
    (l.row ≤ l.rows) × (length l.buf ≡ length l.initial.buf)
    × (add (code_rows l.chip l.sheet l.row (l.rows - l.row)) (out l.next l.buf) ≡ add (code_rows l.chip l.sheet 0 l.rows) (out l.at l.initial.buf))

abbrev pub decreases-loop-row : goal.decreases-loop-row
decreases-loop-row l = l.rows - l.row
