-- The value of digits, if they have one; a row of at least one byte, and bytes stored in a buffer. Assumes nothing.
use Rattle.std.specs.Prelude.{ℕ, ◌+◌, ◌/◌, ◌%◌, Bool, false, cond, Option, Some, None, List, ◌++◌, eqb, ltb, leb, length, take, drop}
use Rattle.rules.specs.Lines.{all_good, is_row}

-- a value, where a number from a bound on stands for none
unfoldable pub below : ℕ → ℕ → Option ℕ
below bound n = cond (ltb n bound) (Some n) None

-- nothing but units of a size
abbrev pub is_good : (List ℕ → ℕ) → ℕ → List ℕ → Bool
is_good unit size r = cond (eqb (length r % size) 0) (all_good unit size (length r / size) r) false

-- ` HH HH ..`, at least one time
unfoldable pub is_bytes : List ℕ → Bool
is_bytes r = cond (eqb (length r) 0) false (is_row r)

-- where the next byte would go, and the buffer
pub record Stored : Type 0 where
  pub end : ℕ
  pub bytes : List ℕ

-- bytes put into a buffer from a place on, if it has room for them all
unfoldable pub stored : ℕ → List ℕ → List ℕ → Stored
stored at bs b =
    cond (leb (at + length bs) (length b))
    (record { end = at + length bs; bytes = take at b ++ bs ++ drop (at + length bs) b })
    (record { end = at; bytes = b })
