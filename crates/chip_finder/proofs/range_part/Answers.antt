-- `chip_finder::range_part` meets its contract: the numbers are those of the flash. Assumes nothing.
use Rattle.chip_finder.specs.LentFlashes.{memory}
use Rattle.chip_finder.proofs.Places.{range_parts}
use Rattle.chip_finder.proofs.range_part.Goals as goal

pub returns : goal.returns
returns c =
    let s = c.args in
    rw (c.parts_of.ensures, c.flash_of-flash.ensures, c.block_size-size.ensures, c.block_count-count.ensures)
    (range_parts s.chip (memory s.code.now s.«data».now) s.f s.first s.last)
