-- 02, M-111, Other programmers' captures: a line by itself, what our chip gives to it, and the verdict on the lines. Assumes nothing.
use Rattle.std.specs.Prelude.{ℕ, zero, suc, ◌+◌, Bool, true, false, cond, not, ◌&&◌, ◌||◌, List, [], ◌∷◌, eqb, length, drop}
use Rattle.rules.specs.declared.Chip.{Chip}
use Rattle.rules.specs.declared.Options.{Options}
use Rattle.rules.specs.declared.Phase.TheVariants.{Silent}
use Rattle.rules.specs.declared.Task.TheVariants.{Idle}
use Rattle.rules.specs.Answers.{Verdict}
use Rattle.rules.specs.Answers as verdict
use Rattle.rules.specs.CaptureVerdicts.{CaptureVerdict, Accepted, Wrong, BadForm, Refused}
use Rattle.rules.specs.declared.numbers.Number.{Number}
use Rattle.rules.specs.Chip.{Memory, byte_at, same}
use Rattle.rules.specs.StandIn.{State, Fed, rest, powered, feed, flash_verdict}
use Rattle.rules.specs.Run.{all_bytes}
use Rattle.rules.specs.Numbers.{refusal_number}
use Rattle.rules.specs.Lines.{lines_of, is_row, row_bytes}

-- ---- a line by itself ----

-- `!` for power-on, `>` to the chip, `<` from it
abbrev pub power_sign : ℕ
power_sign = 0x21

abbrev pub sent_sign : ℕ
sent_sign = 0x3E

abbrev pub given_sign : ℕ
given_sign = 0x3C

-- what stands behind the sign
abbrev pub behind : List ℕ → List ℕ
behind l = drop 1 l

-- "A `>` or `<` line has at least one pair, in either case of letter", "single spaces": ` HH HH ..`
unfoldable pub some_pairs : List ℕ → Bool
some_pairs r = not (eqb (length r) 0) && is_row r

-- "`!` alone for power-on, `>` and hex pairs to the chip, `<` and hex pairs from it"
unfoldable pub is_line : List ℕ → Bool
is_line l =
    cond (same l (power_sign ∷ []))
    true
    (cond (eqb (byte_at l 0) sent_sign || eqb (byte_at l 0) given_sign) (some_pairs (behind l)) false)

-- the bytes of an answer line; no other line gives any
unfoldable pub given : List ℕ → List ℕ
given l = cond (eqb (byte_at l 0) given_sign) (row_bytes (behind l)) []

-- ---- our chip ----

-- the chip after a line, and the bytes that it gave to it
pub record Heard : Type 0 where
  pub state : State
  pub due : List ℕ

abbrev pub heard : State → List ℕ → Heard
heard s due = record { state = s; due = due }

-- all that it gives to the bytes sent, in a row
abbrev pub fed_with : Fed → Heard
fed_with f = heard f.state (all_bytes f.answers)

-- a power-on, with options and flash as they stand, gives nothing; nor does an answer line, which the chip does not see
unfoldable pub hears : Chip → State → List ℕ → Heard
hears chip s l =
    cond (eqb (byte_at l 0) power_sign)
    (heard (powered s.options s.memory) [])
    (cond (eqb (byte_at l 0) sent_sign) (fed_with (feed chip s (row_bytes (behind l)))) (heard s []))

-- ---- the verdict ----

-- whether a line fits behind so many lines, of which the last was given `due`: "the file starts with `!`"; "each answer line holds exactly the bytes our chip
-- gives to the preceding line, and every non-empty answer is there; no answer line where there is none". The end of the file gives nothing
unfoldable pub fits : ℕ → List ℕ → List ℕ → Bool
fits zero due l = same l (power_sign ∷ [])
fits (suc n) due l = same due (given l)

-- the verdict, and options and flash as the lines before the one that it names left them
pub record Looked : Type 0 where
  pub verdict : CaptureVerdict
  pub options : Options
  pub memory : Memory

abbrev pub looked : CaptureVerdict → State → Looked
looked v s = record { verdict = v; options = s.options; memory = s.memory }

-- the lines, the bytes behind the last LF, how many lines were before, and the chip after them with what it gave to the last. "The verdict names the first
-- wrong line, or one past the end for an answer missing there"; "LF after every line"; "bad line form, before the comparison of that line"
unfoldable pub judged : Chip → List (List ℕ) → List ℕ → ℕ → Heard → Looked
judged chip [] [] n h = cond (fits n h.due []) (looked Accepted h.state) (looked (Wrong (n + 1)) h.state)
judged chip [] (b ∷ left) n h = looked (BadForm (n + 1)) h.state
judged chip (l ∷ ls) left n h =
    cond (is_line l)
    (cond (fits n h.due l) (judged chip ls left (n + 1) (hears chip h.state l)) (looked (Wrong (n + 1)) h.state))
    (looked (BadForm (n + 1)) h.state)

-- "From a stated chip, flash and options", the power off
abbrev pub stated : Options → Memory → Heard
stated o m = heard (rest Silent Idle o m) []

-- D0, D1 and D2 before the first line
unfoldable pub captured_by : Verdict → Chip → Options → Memory → List ℕ → Looked
captured_by verdict.Accepted chip o m text = judged chip (lines_of text).ended (lines_of text).rest 0 (stated o m)
captured_by (verdict.Refused n) chip o m text = record { verdict = Refused n; options = o; memory = m }

-- THE CALL, of a stated chip, options and flash, and a text
unfoldable pub captured : Chip → Options → Memory → List ℕ → Looked
captured chip o m text = captured_by (flash_verdict chip (length m.code) (length m.«data»)) chip o m text

-- ---- numbers: 02 gives none, C1 and C2 are ours ----

abbrev pub capture_number : CaptureVerdict → Number
capture_number Accepted = record { letter = 0; number = 0 }
capture_number (Wrong n) = record { letter = 0x43; number = 1 }
capture_number (BadForm n) = record { letter = 0x43; number = 2 }
capture_number (Refused n) = refusal_number n

-- the line that it names; 0 where it names none
abbrev pub capture_line : CaptureVerdict → ℕ
capture_line Accepted = 0
capture_line (Wrong n) = n
capture_line (BadForm n) = n
capture_line (Refused n) = 0
