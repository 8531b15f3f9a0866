-- What `show` tells of a sheet, byte for byte: lines of ASCII, each ended by LF. A sheet is judged against the chip that it names. Assumes nothing.
use Rattle.std.specs.Prelude.{ℕ, List, ◌++◌}
use Rattle.rules.specs.Answers.{Verdict, Accepted, Refused}
use Rattle.rules.specs.Sheet.{against, count, sheet_verdict}
use Rattle.text_show.specs.Words.{form_line, chip_line}
use Rattle.text_show.specs.Steps.{steps_from, frames_line}
use Rattle.text_show.specs.Map.{map_text}
use Rattle.text_show.specs.Refused.{refused_text}

-- of an accepted sheet: its chip, its steps, the most frames, the map
unfoldable pub job_text : List ℕ → List ℕ
job_text s =
    let chip = against s in chip_line chip ++ steps_from chip s 0 (count s) ++ frames_line chip s ++ map_text chip s

-- by the verdict
unfoldable pub judged_text : List ℕ → Verdict → List ℕ
judged_text s Accepted = job_text s
judged_text s (Refused n) = refused_text s n

-- THE TEXT OF A SHEET
unfoldable pub show_text : List ℕ → List ℕ
show_text s = form_line s ++ judged_text s (sheet_verdict s)
