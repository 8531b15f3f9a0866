-- 02, M-106: "Moving an accepted form 1 sheet up always works, given room, and gives chip 1; moving down works exactly for chip 1 with no kind 5
-- or 6, and the way up and down gives the same bytes". What is said of moves. Assumes nothing.
use Rattle.std.specs.Prelude.{ℕ, ◌+◌, ◌-◌, ◌<◌, ◌≤◌, ◌≡◌, true, false, List, length}
use Rattle.rules.specs.declared.Chip.{Chip}
use Rattle.rules.specs.declared.Options.{Options}
use Rattle.rules.specs.declared.Step.{Step}
use Rattle.rules.specs.Answers.{Sheet, Accepted}
use Rattle.rules.specs.Chip.{Memory, byte_at, small, over}
use Rattle.rules.specs.Sheet.{form_two, chip_number, against, count, kind_at, sheet_verdict, step_at, step_body, body_page}
use Rattle.rules.specs.Meaning.{meaning}
use Rattle.rules.specs.Move.{moved_up, moved_down, is_new, move_up, move_down}

-- ---- the sheets that can be moved ----

-- "an accepted form 1 sheet"
pub record Lower (s : List ℕ) : Type 0 where
  pub accepted : sheet_verdict s ≡ Accepted
  pub form : form_two s ≡ false

-- one of form 2, for "chip 1 with no kind 5 or 6"
pub record Upper (s : List ℕ) : Type 0 where
  pub accepted : sheet_verdict s ≡ Accepted
  pub form : form_two s ≡ true
  pub chip : chip_number s ≡ 1
  pub kinds : (i : ℕ) → i < count s → is_new (kind_at s i) ≡ false

-- ---- what a move gives ----

-- UP, WITH ROOM: what comes can be moved down again, and is for chip 1
pub record WentUp (s out : List ℕ) : Type 0 where
  pub answer : move_up s out ≡ record { moved = Sheet (length s + 4); out = over (moved_up s) out }
  pub upper : Upper (moved_up s)
  pub against : against (moved_up s) ≡ small
  pub steps : count (moved_up s) ≡ count s

abbrev pub UpWorks : Type 0
UpWorks = (s out : List ℕ) → Lower s → length s + 4 ≤ length out → WentUp s out

-- DOWN, WITH ROOM: what comes can be moved up again
pub record WentDown (s out : List ℕ) : Type 0 where
  pub answer : move_down s out ≡ record { moved = Sheet (length s - 4); out = over (moved_down s) out }
  pub lower : Lower (moved_down s)
  pub steps : count (moved_down s) ≡ count s

abbrev pub DownWorks : Type 0
DownWorks = (s out : List ℕ) → Upper s → length s ≤ length out + 4 → WentDown s out

-- "EXACTLY": no other sheet goes either way
abbrev pub UpOnly : Type 0
UpOnly = (s out : List ℕ) (n : ℕ) → (move_up s out).moved ≡ Sheet n → Lower s

abbrev pub DownOnly : Type 0
DownOnly = (s out : List ℕ) (n : ℕ) → (move_down s out).moved ≡ Sheet n → Upper s

-- "THE WAY UP AND DOWN GIVES THE SAME BYTES"
abbrev pub ThereAndBack : Type 0
ThereAndBack = (s : List ℕ) → Lower s → ((i : ℕ) → byte_at s i < 256) → moved_down (moved_up s) ≡ s

-- ---- what a move keeps ----

-- a step that stands elsewhere in its sheet
abbrev pub elsewhere : Step → ℕ → Step
elsewhere t n =
    record { kind = t.kind; flash = t.flash; first = t.first; last = t.last; flags = t.flags; body = n }

-- step i, on a chip: but for the place of its body the same, with the same bytes
pub record SameStep (chip : Chip) (s u : List ℕ) (i : ℕ) : Type 0 where
  pub is : step_at chip u i ≡ elsewhere (step_at chip s i) (step_at chip u i).body
  pub body : step_body u (step_at chip u i) ≡ step_body s (step_at chip s i)
  pub page : (k : ℕ) → body_page u (step_at chip u i) k ≡ body_page s (step_at chip s i) k

-- THE MEANING, on every chip, options, flash and list for sums
pub record Keeps (s u : List ℕ) : Type 0 where
  pub steps : (chip : Chip) (i : ℕ) → i < count s → SameStep chip s u i
  pub means : (chip : Chip) (o : Options) (m : Memory) (sums : List ℕ) → meaning chip u o m sums ≡ meaning chip s o m sums

abbrev pub UpKeeps : Type 0
UpKeeps = (s : List ℕ) → Lower s → Keeps s (moved_up s)

abbrev pub DownKeeps : Type 0
DownKeeps = (s : List ℕ) → Upper s → Keeps s (moved_down s)
