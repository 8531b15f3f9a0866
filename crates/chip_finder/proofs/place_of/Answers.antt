-- `chip_finder::place_of` meets its contract: one law for each answer. Assumes nothing.
use Rattle.std.proofs.Common.{sym, arith}
use Rattle.chip_finder.proofs.Places.{place_other_length, place_past, place_turned, place_there}
use Rattle.chip_finder.proofs.place_of.Goals.{then-len-count-via-then-len-count, then-len-count-via-else-len-count+then-count-last, then-len-count-via-else-len-count+else-count-last+then-last-first}
use Rattle.chip_finder.proofs.place_of.Goals as goal

pub returns-then-len-count : goal.returns-then-len-count
returns-then-len-count c =
    elim c.then-len-count.branch [ then-len-count-via-then-len-count w ↦ sym (place_other_length _ _ _ _ _ w.if-len-count.true) | then-len-count-via-else-len-count+then-count-last w ↦ sym (place_past _ _ _ _ _ w.if-len-count.false w.if-count-last.true) | then-len-count-via-else-len-count+else-count-last+then-last-first w ↦ sym (place_turned _ _ _ _ _ w.if-len-count.false w.if-count-last.false w.if-last-first.true) ]

pub returns : goal.returns
returns c = sym (place_there _ _ _ _ _ c.if-len-count.false (omega arith) (omega arith))
