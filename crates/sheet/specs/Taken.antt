-- An entry over two rows of marks. Assumes nothing.
use Rattle.std.specs.Prelude.{false, cond, ltb}
use Rattle.rules.specs.Chip.{Memory}
use Rattle.chip_finder.specs.Held.{blocks_held}
use Rattle.sheet_marks.specs.Taken.{Taken, step_taken}
use Rattle.sheet.specs.declared.table.Entry.{Entry}

-- kinds above 2 do not count
unfoldable pub entry_taken : Entry → Memory → Taken
entry_taken e m =
    cond (ltb 2 e.kind) (record { again = false; rows = m }) (step_taken e.kind (blocks_held e.sad e.ead) m)
