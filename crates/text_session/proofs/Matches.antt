-- Laws of answers compared with a row as they come. Assumes nothing.
use mathlib.Core.Path.{◌≡◌, refl, sym}
use mathlib.Core.Bool.{Bool, true, false}
use mathlib.Core.List.{List, [], ◌∷◌, ◌++◌}
use Prim.Native.Nat.{ℕ, ◌+◌, ◌<◌, ◌≤◌}
use native.Mathlib.Numerals.{add-one}
use native.Mathlib.Omega.{arith}
use lib.Dec.{eqb, leb}
use lib.ListN.{length, get_or, drop, drop_of_length-le}
use lib.Seq.{drop-cons}
use borrow.Author.Tests.{eq-eqb, ne_eqb, leb-true, leb-false}
use Rattle.rules.specs.Chip.{same}
use Rattle.std.specs.Prelude.{Some}
use Rattle.text_session.specs.Session.{matches}

-- an answer from its k-th byte on and what is answered later, and a row from a place on
module _ (a row : List ℕ) (k at : ℕ) (later : List ℕ) where
  -- the row ends
  pub row_ends : k < length a → length row ≤ at → same (drop k a ++ later) (drop at row) ≡ false
  unfolding same
  row_ends h g = rw (drop-cons a k 0, drop_of_length-le row g)

  -- another byte
  pub other_byte : k < length a → at < length row → (get_or row at 0 ≡ get_or a k 0 → ⊥) → same (drop k a ++ later) (drop at row) ≡ false
  unfolding same
  other_byte h g n = rw (drop-cons a k 0, drop-cons row at 0) (simp (ne_eqb _ _ (λ (e : get_or a k 0 ≡ get_or row at 0). n (sym e))))

  -- the same byte
  pub same_byte : k < length a → at < length row → get_or row at 0 ≡ get_or a k 0
      → same (drop k a ++ later) (drop at row) ≡ same (drop (k + 1) a ++ later) (drop (at + 1) row)
  unfolding same
  same_byte h g e = rw (drop-cons a k 0, drop-cons row at 0, add-one k, add-one at) (simp (eq-eqb _ _ (sym e)))

-- nothing more is due: the row has no more
pub all_matched : (at : ℕ) (row : List ℕ) (n : ℕ) → n ≡ length row → leb n at ≡ matches (Some at) [] row
unfolding same matches
all_matched at row n e = go (leb n at) refl
  where
    go : (x : Bool) → leb n at ≡ x → x ≡ same [] (drop at row)
    go true q =
        let h : length row ≤ at = rw (← e) (leb-true _ _ q) in
        rw (drop_of_length-le row h)
    go false q =
        let h : at < length row = rw (← e) (leb-false _ _ q) in
        rw (drop-cons row at 0 h)

-- a line that gives nothing, by the count of its row
pub none_due : (n : ℕ) (row g : List ℕ) → n ≡ length row → row ≡ g → eqb n 0 ≡ same [] g
unfolding same
none_due n [] g e f = rw (← f, e)
none_due n (b ∷ row) g e f = rw (← f) (ne_eqb n 0 (λ z. omega (arith, e, z)))
