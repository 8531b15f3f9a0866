-- `chip_blank::first_used` meets its contract: an empty part has no byte in use, and any other is a whole range. Assumes nothing.
use mathlib.Core.Path.{sym}
use native.Mathlib.Omega.{arith}
use Rattle.chip_finder.specs.LentFlashes.{memory, range_shown}
use Rattle.chip_blank.proofs.Used.{found_none}
use Rattle.chip_blank.proofs.Spots.{range_there}
use Rattle.chip_blank.proofs.first_used.Goals as goal

pub returns-then-part-eq0 : goal.returns-then-part-eq0
returns-then-part-eq0 c =
    let a = c.args in
    let shown = range_shown a.chip (memory a.code.now a.«data».now) a.f a.first a.last in
    sym (found_none a.f a.first shown 0 (omega arith) (rw (← c.range_part-part.ensures) c.if-part-eq0.true))

pub search-requires : goal.search-requires
search-requires c =
    let a = c.args in
    let r = c.range_part-part.ensures in
    rw r (range_there a.chip (memory a.code.now a.«data».now) a.f a.first a.last (rw (← r) c.if-part-eq0.false))

pub returns : goal.returns
returns c = rw (← c.range_part-part.ensures) c.search.ensures
