-- 02, M-106: a sheet moved from form 1 up to form 2, and down again. Assumes nothing.
use Rattle.std.specs.Prelude.{ℕ, zero, suc, ◌+◌, ◌-◌, ◌/◌, ◌%◌, Bool, false, not, ◌&&◌, ◌||◌, List, [], ◌∷◌, ◌++◌, ltb, eqb, length, take, drop}
use Rattle.rules.specs.Answers.{Moved, Verdict, Accepted, Refused}
use Rattle.rules.specs.Answers as moved
use Rattle.rules.specs.declared.Refusal.TheVariants as r
use Rattle.rules.specs.declared.numbers.Number.{Number}
use Rattle.rules.specs.First.{refuse, first_broken, and_then}
use Rattle.rules.specs.Chip.{over}
use Rattle.rules.specs.Numbers.{refusal_number}
use Rattle.rules.specs.Sheet.{form_two, chip_number, count, entry_at, table_end, kind_at, offset_at, sheet_verdict}

-- ---- the moved bytes ----

-- four bytes, low byte first
abbrev pub long_bytes : ℕ → List ℕ
long_bytes n = n % 256 ∷ n / 256 % 256 ∷ n / 65536 % 256 ∷ n / 16777216 % 256 ∷ []

-- "entries and bodies as before", but for the offset, which counts the head's bytes: entry i and those behind it, so many
unfoldable pub entries_moved : (ℕ → ℕ) → List ℕ → ℕ → ℕ → List ℕ
entries_moved to s i zero = []
entries_moved to s i (suc left) =
    take 8 (drop (entry_at s i) s) ++ (long_bytes (to (offset_at s i)) ++ entries_moved to s (i + 1) left)

-- the count, the entries and the bodies, without what form 2 has before them
abbrev table_moved : (ℕ → ℕ) → List ℕ → List ℕ
table_moved to s = entries_moved to s 0 (count s) ++ drop (table_end s) s

-- "FEh 02h, chip number 1 or 2, a zero byte, the count": a form 1 sheet "gives chip 1"
unfoldable pub moved_up : List ℕ → List ℕ
moved_up s = 0xFE ∷ 0x02 ∷ 0x01 ∷ 0x00 ∷ (take 2 s ++ table_moved (λ n. n + 4) s)

unfoldable pub moved_down : List ℕ → List ℕ
moved_down s = take 2 (drop 4 s) ++ table_moved (λ n. n - 4) s

-- ---- the way ----

-- a step of "kind 5 or 6", among entry i and those behind it, so many
abbrev pub is_new : ℕ → Bool
is_new kind = eqb kind 5 || eqb kind 6

unfoldable pub any_new : List ℕ → ℕ → ℕ → Bool
any_new s i zero = false
any_new s i (suc left) = let later = any_new s (i + 1) left in is_new (kind_at s i) || later

-- "moving down works exactly for chip 1 with no kind 5 or 6"
abbrev pub down_open : List ℕ → Bool
down_open s = eqb (chip_number s) 1 && not (any_new s 0 (count s))

-- "a way down not open or a sheet already in the form asked for"
abbrev pub up_closed : List ℕ → Bool
up_closed s = form_two s

abbrev pub down_closed : List ℕ → Bool
down_closed s = not (form_two s) || not (down_open s)

-- ---- the call ----

-- "A move names its sheet's J number (J10 and J14 apart), then J15 .., then J16 for a short output buffer"
unfoldable pub move_verdict : List ℕ → Bool → List ℕ → ℕ → Verdict
move_verdict s closed new room =
    and_then (sheet_verdict s) (first_broken (refuse r.J15 closed ∷ refuse r.J16 (ltb room (length new)) ∷ []))

-- what a move answers, and the output buffer after it
pub record Moving : Type 0 where
  pub moved : Moved
  pub out : List ℕ

-- "and writes nothing"; past the moved sheet the bytes stand
unfoldable pub move_by : Verdict → List ℕ → List ℕ → Moving
move_by Accepted new out = record { moved = moved.Sheet (length new); out = over new out }
move_by (Refused n) new out = record { moved = moved.Refused n; out = out }

-- A MOVE UP, and DOWN
unfoldable pub move_up : List ℕ → List ℕ → Moving
unfolding move_by
move_up s out = move_by (move_verdict s (up_closed s) (moved_up s) (length out)) (moved_up s) out

unfoldable pub move_down : List ℕ → List ℕ → Moving
unfolding move_by
move_down s out = move_by (move_verdict s (down_closed s) (moved_down s) (length out)) (moved_down s) out

-- the refusal's number, or the size of the moved sheet
abbrev pub moved_number : Moved → Number
moved_number (moved.Sheet n) = record { letter = 0; number = n }
moved_number (moved.Refused n) = refusal_number n
