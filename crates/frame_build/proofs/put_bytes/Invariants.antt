-- `frame_build::put_bytes` meets its contract: where there is room the loop has put the first i bytes over the buffer. Assumes nothing.
use Rattle.std.proofs.Common.{◌≡◌, ◌-◌, ◌≤◌, ◌++◌, length, take, drop}
use Rattle.frame_build.proofs.put_bytes.Given as goal

abbrev pub invariant-loop-i : goal.invariant-loop-i
invariant-loop-i l =
    (l.i ≤ l.n) × (length l.buffer ≡ length l.initial.buffer) × (l.buffer ≡ take l.i l.bytes ++ drop l.i l.initial.buffer)

abbrev pub decreases-loop-i : goal.decreases-loop-i
decreases-loop-i l = l.n - l.i
