-- `octets::is_blank` meets its contract: what is left to look at decides. Assumes nothing.
use Rattle.std.proofs.Common.{◌≡◌, drop}
use Rattle.rules.specs.Chip.{blank}
use Rattle.octets.proofs.is_blank.Given as goal

abbrev pub invariant-loop-byte : goal.invariant-loop-byte
invariant-loop-byte l = blank l.fn.s ≡ blank (drop l.byte-index l.s)
