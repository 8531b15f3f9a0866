-- `answers::run::lines` is safe and ends: what is behind is run.
use Rattle.std.proofs.Common.{length, ◌-◌, ◌≤◌}
use Rattle.answers.proofs.run.lines.Given as goal

abbrev pub invariant-loop-at : goal.invariant-loop-at
invariant-loop-at l = (l.number ≤ l.at) × (l.at ≤ length l.text)

abbrev pub decreases-loop-at : goal.decreases-loop-at
decreases-loop-at l = length l.text - l.at
