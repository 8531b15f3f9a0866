-- Text as a list of bytes: its lines, hex digits, and rows of bytes written as pairs of digits (02, M-103 and M-111). Assumes nothing.
use Rattle.std.specs.Prelude.{ℕ, zero, suc, ◌+◌, ◌-◌, ◌*◌, ◌/◌, ◌%◌, Bool, true, false, cond, List, [], ◌∷◌, eqb, ltb, leb, length, take, drop}
use Rattle.rules.specs.Chip.{same}

-- ---- parts of a text ----

-- the bytes from one place up to another; none where the text does not have them all
unfoldable pub between : ℕ → ℕ → List ℕ → List ℕ
between from end t = cond (leb end (length t)) (take (end - from) (drop from t)) []

unfoldable pub starts_with : List ℕ → List ℕ → Bool
starts_with s t = cond (ltb (length t) (length s)) false (same (take (length s) t) s)

-- ---- lines ----

-- the lines that LF ends, without their LF, and what stands behind the last LF
pub record Lines : Type 0 where
  pub ended : List (List ℕ)
  pub rest : List ℕ

-- a byte that is no LF, before such lines
unfoldable pub onto : ℕ → List (List ℕ) → List ℕ → Lines
onto b [] rest = record { ended = []; rest = b ∷ rest }
onto b (l ∷ ls) rest = record { ended = (b ∷ l) ∷ ls; rest = rest }

-- a whole line before such lines
abbrev pub line : List ℕ → Lines → Lines
line l ls = record { ended = l ∷ ls.ended; rest = ls.rest }

unfoldable pub lines_of : List ℕ → Lines
lines_of [] = record { ended = []; rest = [] }
lines_of (b ∷ t) = cond (eqb b 10) (line [] (lines_of t)) (onto b (lines_of t).ended (lines_of t).rest)

-- what stands before the first LF; all, where there is none
unfoldable pub first_line : List ℕ → List ℕ
first_line [] = []
first_line (b ∷ t) = cond (eqb b 10) [] (b ∷ first_line t)

-- ---- digits ----

-- the value of a hex digit in either case; 16 for another byte
unfoldable pub digit : ℕ → ℕ
digit b =
    cond (ltb b 0x30)
    16
    (cond (ltb b 0x3A)
    (b - 0x30)
    (cond (ltb b 0x41) 16 (cond (ltb b 0x47) (b - 0x41 + 10) (cond (ltb b 0x61) 16 (cond (ltb b 0x67) (b - 0x61 + 10) 16)))))

-- the value of two digits; 256 where one of the bytes is none
unfoldable pub two_digits : ℕ → ℕ → ℕ
two_digits h l = cond (ltb (digit h) 16) (cond (ltb (digit l) 16) (digit h * 16 + digit l) 256) 256

-- the pair `HH` that a text begins with; 256 where it begins with none
unfoldable pub pair : List ℕ → ℕ
pair [] = 256
pair (h ∷ []) = 256
pair (h ∷ l ∷ t) = two_digits h l

-- the space and pair ` HH` that a text begins with; 256 where it begins with none
unfoldable pub spaced_pair : List ℕ → ℕ
spaced_pair [] = 256
spaced_pair (s ∷ t) = cond (eqb s 0x20) (pair t) 256

-- ---- rows: so many units of a size, one behind the other ----

-- each is good
unfoldable pub all_good : (List ℕ → ℕ) → ℕ → ℕ → List ℕ → Bool
all_good unit size zero r = true
all_good unit size (suc n) r = cond (ltb (unit r) 256) (all_good unit size n (drop size r)) false

-- their values; of a good row nothing is cut off
unfoldable pub values : (List ℕ → ℕ) → ℕ → ℕ → List ℕ → List ℕ
values unit size zero r = []
values unit size (suc n) r = unit r % 256 ∷ values unit size n (drop size r)

-- ` HH HH ..`, as behind the word or sign of a script's line: nothing but spaced pairs, and their bytes
unfoldable pub is_row : List ℕ → Bool
is_row r = cond (eqb (length r % 3) 0) (all_good spaced_pair 3 (length r / 3) r) false

unfoldable pub row_bytes : List ℕ → List ℕ
row_bytes r = values spaced_pair 3 (length r / 3) r

-- `HHHH..`, as in a HEX record: nothing but pairs, and their bytes
unfoldable pub is_pairs : List ℕ → Bool
is_pairs r = cond (eqb (length r % 2) 0) (all_good pair 2 (length r / 2) r) false

unfoldable pub pair_bytes : List ℕ → List ℕ
pair_bytes r = values pair 2 (length r / 2) r
