-- 01, Trials 16: "The program plays the sheet from standard input to a fresh chip and prints ..": what is printed, for every list of bytes. No packet
-- is spoken of. Assumes nothing.
use Rattle.std.specs.Prelude.{ℕ, List, replicate}
use Rattle.rules.specs.Chip.{small, fresh_memory}
use Rattle.rules.specs.Options.{fresh_options}
use Rattle.rules.specs.Sheet.{most_steps, verdict}
use Rattle.rules.specs.Meaning.{Ended, meaning, step_frames}
use Rattle.rules.specs.Text.{play_text, verdict_text}

-- lists for the sums and for the frames of each step, with room for the most steps
abbrev pub none : List ℕ
none = replicate most_steps 0

-- the meaning on a fresh chip: "A fresh chip has every one of these bits 1 and all flash blank"
abbrev pub fresh_meaning : List ℕ → Ended
fresh_meaning s = meaning small s fresh_options (fresh_memory small) none

abbrev pub fresh_frames : List ℕ → List ℕ
fresh_frames s = step_frames small s fresh_options (fresh_memory small) none

-- WHAT IS PRINTED: the text of the meaning, or the refused line of the first broken rule
unfoldable pub fresh_text : List ℕ → List ℕ
fresh_text s =
    let play = play_text small s (fresh_meaning s).report (fresh_meaning s).sums (fresh_frames s) in
    verdict_text (verdict small s most_steps) play
