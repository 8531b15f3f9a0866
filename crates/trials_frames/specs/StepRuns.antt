-- The run of a step by itself: a page written, and a sum behind it; and the same over lines that lose one answer. Assumes nothing.
use Rattle.std.specs.Prelude.{ℕ, cond, List, [], ◌∷◌, ◌++◌, eqb, replicate}
use Rattle.rules.specs.Chip.{small}
use Rattle.rules.specs.Options.{fresh_options}
use Rattle.rules.specs.Run.{Line, Joined, Ran, joined_at_start, taken_in, step_run}
use Rattle.trials_rows.specs.Rows.{no_sums, opened, blank_flash, filled, entry}

abbrev sheet : List ℕ
sheet = 0x02 ∷ 0x00 ∷ (entry 2 0x10 0x10 26 ++ entry 4 0x10 0x10 282 ++ filled 0xA5)

-- a new player that has read no reply, and a stand-in that was opened
unfoldable pub at_first : Joined
at_first = taken_in small sheet (joined_at_start (opened small fresh_options blank_flash) (replicate 260 0) (replicate 16 0) no_sums)

-- the line that loses the k-th answer
abbrev pub losing : ℕ → Line
losing n k answer = cond (eqb k n) [] answer

-- the first step, and the second where the first ended; so many frames went before
unfoldable pub first_step : Line → Ran
first_step line = step_run line small sheet 0 at_first

unfoldable pub second_step : Line → Ran
unfolding first_step
second_step line = step_run line small sheet 2 (first_step line).reached
