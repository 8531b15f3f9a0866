-- The steps of a sheet one after the other over two rows of marks, one byte a block: which blocks stand written, and whether a step writes one that does.
-- Assumes nothing.
use Rattle.std.specs.Prelude.{ℕ, Bool, false, cond, List, eqb}
use Rattle.rules.specs.declared.Block.{Block}
use Rattle.rules.specs.Answers.{Range, Blocks, Invalid}
use Rattle.rules.specs.Chip.{Memory, flash_of, with_flash, blocks_from}
use Rattle.sheet_marks.specs.Marks.{cleared, Marked, marked}

-- an erase (kind 1) or a write over one row
unfoldable pub row_taken : ℕ → Block → Block → List ℕ → Marked
row_taken kind first last row =
    cond (eqb kind 1)
    (record { again = false; row = cleared first.0 (blocks_from first last) row })
    (marked first.0 (blocks_from first last) row)

-- the two rows, as those of code and of data flash
pub record Taken : Type 0 where
  pub again : Bool
  pub rows : Memory

unfoldable pub step_taken : ℕ → Range → Memory → Taken
step_taken kind (Blocks f first last) m =
    let t = row_taken kind first last (flash_of m f) in record { again = t.again; rows = with_flash m f t.row }
step_taken kind Invalid m = record { again = false; rows = m }
