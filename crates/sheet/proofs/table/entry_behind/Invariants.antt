-- `sheet::table::entry_behind` meets its contract: the bytes passed are those of the sheet, and 0 past its end. Assumes nothing.
use Rattle.std.proofs.Common.{◌≡◌, ℕ, ◌<◌, length, get_or}
use Rattle.rules.specs.Chip.{byte_at}
use Rattle.sheet.proofs.table.entry_behind.Given as goal

abbrev pub invariant-loop-k : goal.invariant-loop-k
invariant-loop-k l =
    (length l.byte-items ≡ 12) × ((j : ℕ) → j < l.k → get_or l.byte-items j 0 ≡ byte_at l.rest j)
