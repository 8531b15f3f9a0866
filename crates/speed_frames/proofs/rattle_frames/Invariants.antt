-- `speed_frames::rattle_frames` is safe and ends: each frame ends behind its beginning.
use Rattle.std.proofs.Common.{length, ◌-◌, ◌≤◌}
use Rattle.speed_frames.proofs.rattle_frames.Given as goal

abbrev pub invariant-loop-at : goal.invariant-loop-at
invariant-loop-at l = l.at ≤ length l.bytes

abbrev pub decreases-loop-at : goal.decreases-loop-at
decreases-loop-at l = length l.bytes - l.at
