-- `text_show::steps::put_steps` meets its contract: the lines that are left, added to what there is, are all. Assumes nothing.
use mathlib.Core.Path.{◌≡◌}
use Prim.Native.Nat.{◌-◌, ◌<◌, ◌≤◌}
use lib.ListN.{length}
use Rattle.rules.specs.Sheet.{count}
use Rattle.text_out.specs.Out.{out, add}
use Rattle.text_show.specs.Steps.{steps_from}
use Rattle.text_show.proofs.steps.put_steps.Given as goal

abbrev pub invariant-loop-i : goal.invariant-loop-i
invariant-loop-i l =
    (l.i ≤ l.i-end) × (l.i-end < 65536) × (length l.buf ≡ length l.initial.buf)
    × (add (steps_from l.chip l.sheet l.i (l.i-end - l.i)) (out l.next l.buf) ≡ add (steps_from l.chip l.sheet 0 (count l.sheet)) (out l.at l.initial.buf))

abbrev pub decreases-loop-i : goal.decreases-loop-i
decreases-loop-i l = l.i-end - l.i
