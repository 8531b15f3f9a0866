-- 02, M-111: what a capture has to be, line by line and in 02's words; and THE THEOREM that the verdict asks for just this. Assumes nothing.
use Rattle.std.specs.Prelude.{ℕ, zero, suc, ◌<◌, ◌≤◌, ◌≡◌, true, List, [], ◌∷◌, length, get_or}
use Rattle.rules.specs.declared.Chip.{Chip}
use Rattle.rules.specs.declared.Options.{Options}
use Rattle.rules.specs.declared.Phase.TheVariants.{Silent}
use Rattle.rules.specs.declared.Task.TheVariants.{Idle}
use Rattle.rules.specs.Answers as verdict
use Rattle.rules.specs.CaptureVerdicts.{CaptureVerdict, Accepted, Wrong, BadForm}
use Rattle.rules.specs.Chip.{Memory, byte_at}
use Rattle.rules.specs.Lines.{lines_of, row_bytes}
use Rattle.rules.specs.StandIn.{State, rest, flash_verdict}
use Rattle.rules.specs.Capture.{power_sign, given_sign, behind, is_line, hears, captured}

-- ---- the lines, and our chip beside them ----

-- line i, from 0; past the last there is none
abbrev pub line_at : List (List ℕ) → ℕ → List ℕ
line_at ls i = get_or ls i []

-- "a stated chip, flash and options": the power is off
abbrev pub off : Options → Memory → State
off o m = rest Silent Idle o m

-- our chip after the first i lines
unfoldable pub chip_after : Chip → State → List (List ℕ) → ℕ → State
chip_after chip s ls zero = s
chip_after chip s [] (suc i) = s
chip_after chip s (l ∷ ls) (suc i) = chip_after chip (hears chip s l).state ls i

-- "the bytes our chip gives" to line i
abbrev pub answer_to : Chip → State → List (List ℕ) → ℕ → List ℕ
answer_to chip s ls i = (hears chip (chip_after chip s ls i) (line_at ls i)).due

-- an answer line, and what it holds
abbrev pub IsAnswer : List ℕ → Type 0
IsAnswer l = byte_at l 0 ≡ given_sign

abbrev pub held_by : List ℕ → List ℕ
held_by l = row_bytes (behind l)

-- ---- the conditions at line i, which goes from 0 to one past the last line ----

-- its form; "LF after every line": behind the last LF there is nothing
pub record Formed (ls : List (List ℕ)) (left : List ℕ) (i : ℕ) : Type 0 where
  pub line : i < length ls → is_line (line_at ls i) ≡ true
  pub ended : i ≡ length ls → left ≡ []

-- "the file starts with `!`, each answer line holds exactly the bytes our chip gives to the preceding line, and every non-empty answer is there; no answer
-- line where there is none"
pub record Right (chip : Chip) (s : State) (ls : List (List ℕ)) (i : ℕ) : Type 0 where
  pub starts : i ≡ 0 → line_at ls i ≡ power_sign ∷ []
  pub holds : (k : ℕ) → i ≡ suc k → IsAnswer (line_at ls i) → held_by (line_at ls i) ≡ answer_to chip s ls k
  pub there : (k : ℕ) → i ≡ suc k → (answer_to chip s ls k ≡ [] → ⊥) → IsAnswer (line_at ls i)
  pub none : (k : ℕ) → i ≡ suc k → IsAnswer (line_at ls i) → answer_to chip s ls k ≡ [] → ⊥

-- ---- the theorem ----

-- one exactly when the other
pub record Exactly (A B : Type 0) : Type 0 where
  pub then : A → B
  pub when : B → A

-- for a text from that chip, options and flash
module _ (chip : Chip) (o : Options) (m : Memory) (text : List ℕ) where
  abbrev pub lines : List (List ℕ)
  lines = (lines_of text).ended

  abbrev pub left : List ℕ
  left = (lines_of text).rest

  -- line i is as it should be; and all lines before line i are
  abbrev pub Good : ℕ → Type 0
  Good i = Formed lines left i × Right chip (off o m) lines i

  abbrev pub GoodBefore : ℕ → Type 0
  GoodBefore i = (i ≤ length lines) × ((j : ℕ) → j < i → Good j)

  abbrev pub verdict_on : CaptureVerdict
  verdict_on = (captured chip o m text).verdict

  -- options and flash are as the first i lines left them
  abbrev pub LeftBy : ℕ → Type 0
  LeftBy i =
      ((captured chip o m text).options ≡ (chip_after chip (off o m) lines i).options)
      × ((captured chip o m text).memory ≡ (chip_after chip (off o m) lines i).memory)

  -- accepted exactly when all is as it should be; the line named is the first that is not, its form before its comparison, counted from 1
  pub record Judges : Type 0 where
    pub accepted : Exactly (verdict_on ≡ Accepted) ((i : ℕ) → i ≤ length lines → Good i)
    pub bad_form : (i : ℕ) → Exactly (verdict_on ≡ BadForm (suc i)) (GoodBefore i × (Formed lines left i → ⊥))
    pub wrong : (i : ℕ) → Exactly (verdict_on ≡ Wrong (suc i)) (GoodBefore i × Formed lines left i × (Right chip (off o m) lines i → ⊥))
    pub left_whole : verdict_on ≡ Accepted → LeftBy (length lines)
    pub left_bad : (i : ℕ) → verdict_on ≡ BadForm (suc i) → LeftBy i
    pub left_wrong : (i : ℕ) → verdict_on ≡ Wrong (suc i) → LeftBy i

-- THE THEOREM: on a chip and flashes that are not refused
abbrev pub CaptureJudged : Type 0
CaptureJudged =
    (chip : Chip) (o : Options) (m : Memory) (text : List ℕ)
    → flash_verdict chip (length m.code) (length m.«data») ≡ verdict.Accepted
    → Judges chip o m text
