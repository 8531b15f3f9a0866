-- `text_told::play::put_lines` meets its contract: the lines that are left, added to what there is, are all. Assumes nothing.
use mathlib.Core.Path.{◌≡◌}
use Prim.Native.Nat.{◌-◌, ◌<◌, ◌≤◌}
use lib.ListN.{length}
use Rattle.rules.specs.Sheet.{count}
use Rattle.rules.specs.Text.{lines_from}
use Rattle.text_out.specs.Out.{out, add}
use Rattle.text_told.proofs.play.put_lines.Given as goal

abbrev pub invariant-loop-i : goal.invariant-loop-i
invariant-loop-i l =
    (l.i ≤ l.i-end) × (l.i-end < 65536) × (length l.buf ≡ length l.initial.buf)
    × (add (lines_from l.chip l.sheet l.report l.sums l.frames l.i (l.i-end - l.i)) (out l.next l.buf)
    ≡ add (lines_from l.chip l.sheet l.report l.sums l.frames 0 (count l.sheet)) (out l.at l.initial.buf))

abbrev pub decreases-loop-i : goal.decreases-loop-i
decreases-loop-i l = l.i-end - l.i
