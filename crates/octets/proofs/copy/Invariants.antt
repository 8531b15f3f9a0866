-- `octets::copy` meets its contract: the bytes passed are those of `src`. Assumes nothing.
use Rattle.std.proofs.Common.{◌≡◌, length, take}
use Rattle.octets.proofs.copy.Given as goal

abbrev pub invariant-loop-i : goal.invariant-loop-i
invariant-loop-i l = (length l.initial.dst ≡ length l.src) × (take l.i l.dst ≡ take l.i l.src)
