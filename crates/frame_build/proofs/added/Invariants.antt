-- `frame_build::added` meets its contract: the loop's sum is that of the bytes passed, modulo 256. Assumes nothing.
use Rattle.std.proofs.Common.{◌≡◌, ◌%◌, take}
use Rattle.rules.specs.Chip.{total}
use Rattle.frame_build.proofs.added.Given as goal

abbrev pub invariant-loop-byte : goal.invariant-loop-byte
invariant-loop-byte l = l.sum ≡ total (take l.byte-index l.line) % 256
