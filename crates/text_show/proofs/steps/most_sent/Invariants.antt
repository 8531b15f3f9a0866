-- `text_show::steps::most_sent` meets its contract: the frames of the steps that are left, with those counted, are all. Assumes nothing.
use mathlib.Core.Path.{◌≡◌}
use Prim.Native.Nat.{◌+◌, ◌-◌, ◌*◌, ◌<◌, ◌≤◌}
use Rattle.rules.specs.Run.{most_from}
use Rattle.rules.specs.Sheet.{count}
use Rattle.text_show.proofs.steps.most_sent.Given as goal

abbrev pub invariant-loop-i : goal.invariant-loop-i
invariant-loop-i l =
    (l.i ≤ l.i-end) × (l.i-end < 65536) × (l.sent ≤ 524289 * l.i)
    × (l.sent + most_from l.chip l.sheet l.i (l.i-end - l.i) ≡ most_from l.chip l.sheet 0 (count l.sheet))

abbrev pub decreases-loop-i : goal.decreases-loop-i
decreases-loop-i l = l.i-end - l.i
