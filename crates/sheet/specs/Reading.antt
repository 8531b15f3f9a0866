-- Step i of a sheet for a reader that has not judged it. Assumes nothing.
use Rattle.std.specs.Prelude.{ℕ, cond, List, ltb}
use Rattle.rules.specs.Answers.{Verdict, Accepted, Refused}
use Rattle.rules.specs.Numbers.{kind_number}
use Rattle.rules.specs.Sheet.{against, count, sheet_verdict, step_at}
use Rattle.sheet.specs.Answers.{Reading, Is, NoStep}

abbrev reading : Verdict → Reading → Reading
reading Accepted r = r
reading (Refused n) r = NoStep

-- the step of a sheet that keeps its own rules, or none
unfoldable pub reading_at : List ℕ → ℕ → Reading
reading_at s i = reading (sheet_verdict s) (cond (ltb i (count s)) (Is (step_at (against s) s i)) NoStep)

-- the number of a reading: 01's number of the step's kind, or 0 where there is none
abbrev pub reading_number : Reading → ℕ
reading_number (Is t) = kind_number t.kind
reading_number NoStep = 0
