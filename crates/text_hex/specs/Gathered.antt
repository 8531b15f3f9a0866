-- The cells of our flashes, as the memory that a text was read into. Assumes nothing.
use Rattle.rules.specs.Chip.{Memory}
use Rattle.chip_finder.specs.LentFlashes.{memory}
use Rattle.text_hex.specs.declared.named.Cells.{Cells}

abbrev pub memory_of : Cells → Memory
memory_of c = memory c.code c.«data»
