-- What the finder shows of the two lent flashes on all inputs: where a block or page is not there, nothing. Assumes nothing.
use Rattle.std.specs.Prelude.{ℕ, Bool, cond, ◌&&◌, List, [], ltb, leb}
use Rattle.rules.specs.declared.Chip.{Chip}
use Rattle.rules.specs.declared.Flash.{Flash}
use Rattle.rules.specs.declared.Block.{Block}
use Rattle.rules.specs.Chip.{Memory, blocks, pages, fits, bytes_from}

-- both flashes as lent
abbrev pub memory : List ℕ → List ℕ → Memory
memory c d = record { code = c; «data» = d }

abbrev pub block_there : Chip → Memory → Flash → Block → Bool
block_there chip m f b = fits chip m f && ltb b.0 (blocks chip f)

abbrev pub page_there : Chip → Memory → Flash → ℕ → Bool
page_there chip m f k = fits chip m f && ltb k (pages chip f)

-- the bytes from the first to the last block, or none where they are not all there
unfoldable pub range_shown : Chip → Memory → Flash → Block → Block → List ℕ
range_shown chip m f first last =
    cond (block_there chip m f last && leb first.0 last.0) (bytes_from m f first last) []
