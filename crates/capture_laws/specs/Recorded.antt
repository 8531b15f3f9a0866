-- 02, M-111: a capture recorded from our chip, of whatever was done to it and what it gave; and THE THEOREM that it is accepted. Assumes nothing.
use Rattle.std.specs.Prelude.{ℕ, ◌≡◌, true, List, [], ◌∷◌, length}
use Rattle.rules.specs.declared.Chip.{Chip}
use Rattle.rules.specs.declared.Options.{Options}
use Rattle.rules.specs.Answers as verdict
use Rattle.rules.specs.CaptureVerdicts.{Accepted}
use Rattle.rules.specs.Chip.{Memory}
use Rattle.rules.specs.Lines.{lines_of, is_row, row_bytes}
use Rattle.rules.specs.StandIn.{State, flash_verdict}
use Rattle.rules.specs.Capture.{power_sign, sent_sign, given_sign, some_pairs, hears, captured}
use Rattle.capture_laws.specs.Conditions.{off}

-- what is done to a chip: a power-on; or a row ` HH HH ..` sent, and written down in the same way what the chip gave to it, nothing where it gave nothing
pub data Act : Type 0 where
  Power : Act
  Sent : (row given : List ℕ) → Act

-- the lines that are recorded: an answer line only where something was given
unfoldable pub recorded : List Act → List (List ℕ)
recorded [] = []
recorded (Power ∷ acts) = (power_sign ∷ []) ∷ recorded acts
recorded (Sent row [] ∷ acts) = (sent_sign ∷ row) ∷ recorded acts
recorded (Sent row (b ∷ given) ∷ acts) = (sent_sign ∷ row) ∷ (given_sign ∷ b ∷ given) ∷ recorded acts

-- our chip gave just that, from that state on
unfoldable pub Gave : Chip → State → List Act → Type 0
Gave chip s [] = Unit {0}
Gave chip s (Power ∷ acts) = Gave chip (hears chip s (power_sign ∷ [])).state acts
Gave chip s (Sent row given ∷ acts) =
    (some_pairs row ≡ true)
    × (is_row given ≡ true)
    × (row_bytes given ≡ (hears chip s (sent_sign ∷ row)).due)
    × Gave chip (hears chip s (sent_sign ∷ row)).state acts

-- THE THEOREM: a text of just these lines, from a power-on, is accepted
abbrev pub RecordedAccepted : Type 0
RecordedAccepted =
    (chip : Chip) (o : Options) (m : Memory) (text : List ℕ) (acts : List Act)
    → flash_verdict chip (length m.code) (length m.«data») ≡ verdict.Accepted
    → (lines_of text).ended ≡ recorded (Power ∷ acts)
    → (lines_of text).rest ≡ []
    → Gave chip (off o m) (Power ∷ acts)
    → (captured chip o m text).verdict ≡ Accepted
