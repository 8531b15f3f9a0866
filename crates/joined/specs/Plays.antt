-- The joined calls: which refusal is named, and otherwise the end of the run. Assumes nothing.
use Rattle.std.specs.Prelude.{ℕ, ◌≡◌, Bool, true, false, cond, List, length}
use Rattle.rules.specs.declared.Chip.{Chip}
use Rattle.rules.specs.declared.Stage.{Stage}
use Rattle.rules.specs.declared.Stage.TheVariants.{New, Ready, Block, Commanded, Page, Paged, Over}
use Rattle.rules.specs.Answers.{Verdict}
use Rattle.rules.specs.Answers as verdict
use Rattle.rules.specs.declared.numbers.Number.{Number}
use Rattle.rules.specs.Numbers.{refusal_number}
use Rattle.rules.specs.Meaning.{step_frames}
use Rattle.rules.specs.Player.{new_player}
use Rattle.rules.specs.Run.{Joined, clean, run, step_run, waits}
use Rattle.joined_checks.specs.declared.LentSizes.{LentSizes}
use Rattle.joined_checks.specs.Checks.{joined_verdict, starts_step}
use Rattle.joined.specs.declared.Rig.{Rig}
use Rattle.joined.specs.Answers.{Answer, Refused, NotAtStep, Busy, Played}

-- finished or stopped
abbrev pub is_over : Stage → Bool
is_over New = false
is_over Ready = false
is_over Block = false
is_over (Commanded k) = false
is_over (Page k) = false
is_over (Paged k) = false
is_over Over = true

-- the number of an answer: a refusal's by 01; S1 and S2 for the two that 01 does not number; none where it was played
abbrev pub answer_number : Answer → Number
answer_number (Refused n) = refusal_number n
answer_number NotAtStep = record { letter = 0x53; number = 1 }
answer_number Busy = record { letter = 0x53; number = 2 }
answer_number Played = record { letter = 0; number = 0 }

-- the answer, and player, stand-in and all that is lent after the call
pub record Outcome : Type 0 where
  pub answer : Answer
  pub reached : Joined

abbrev pub outcome : Answer → Joined → Outcome
outcome a j = record { answer = a; reached = j }

-- of a whole sheet: the list for the frames of each step besides
pub record SheetOutcome : Type 0 where
  pub answer : Answer
  pub reached : Joined
  pub each : List ℕ

abbrev pub sheet_outcome : Answer → Joined → List ℕ → SheetOutcome
sheet_outcome a j each = record { answer = a; reached = j; each = each }

abbrev pub lengths : Joined → LentSizes
lengths j =
    record {
      code = length j.state.memory.code;
      «data» = length j.state.memory.«data»;
      reply = length j.reply;
      frame = length j.frame;
      sums = length j.sums;
    }

-- refused, all stands; else by what has to be besides
unfoldable pub judged : {A : Type 0} → Verdict → (Answer → A) → A → A
judged (verdict.Refused n) stands later = stands (Refused n)
judged verdict.Accepted stands later = later

-- whether a call plays: with a player that may start there or not, and a stand-in that waits for a command or not
abbrev pub play_answer : Verdict → Bool → Bool → Answer
play_answer v starting waiting = judged v (λ a. a) (cond starting (cond waiting Played Busy) NotAtStep)

-- ONE STEP
unfoldable pub step_played : Chip → List ℕ → Joined → Outcome
step_played chip s j =
    judged (joined_verdict chip s j.player (lengths j)) (λ a. outcome a j)
    (cond (starts_step chip s j.player)
    (cond (waits chip j.state) (outcome Played (step_run clean chip s 0 j).reached) (outcome Busy j))
    (outcome NotAtStep j))

-- played to there; and all steps: to the end of the run, with the frames of each
abbrev pub played_to : Joined → List ℕ → SheetOutcome
played_to j each = sheet_outcome Played j each

abbrev pub all_played : Chip → List ℕ → Joined → List ℕ → SheetOutcome
all_played chip s j each =
    played_to (run clean chip s j).reached (step_frames chip s j.state.options j.state.memory each)

-- THE WHOLE SHEET, by a new player
unfoldable pub sheet_played : Chip → List ℕ → Joined → List ℕ → SheetOutcome
sheet_played chip s j each =
    judged (joined_verdict chip s new_player (lengths j)) (λ a. sheet_outcome a j each)
    (cond (waits chip j.state) (all_played chip s j each) (sheet_outcome Busy j each))

-- ---- what was not played ----

-- the records as they are in the code, and all that is lent
pub record Given : Type 0 where
  pub rig : Rig
  pub held : List ℕ
  pub code : List ℕ
  pub «data» : List ℕ
  pub reply : List ℕ
  pub frame : List ℕ
  pub sums : List ℕ

abbrev pub given : Rig → List ℕ → List ℕ → List ℕ → List ℕ → List ℕ → List ℕ → Given
given r held code dat reply frame sums =
    record { rig = r; held = held; code = code; «data» = dat; reply = reply; frame = frame; sums = sums }

-- unless it was played, this is as it was, to the byte
abbrev pub Stands : {A : Type 0} → Answer → A → A → Type 0
Stands a before after = (a ≡ Played → ⊥) → after ≡ before
