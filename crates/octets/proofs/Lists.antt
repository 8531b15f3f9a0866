-- Laws of bytes in a row: std's words for a test of each byte and for `==` are 01's `blank` and `same`. Assumes nothing.
use Rattle.std.proofs.Common.{◌≡◌, ℕ, zero, suc, Bool, true, false, cond, ◌&&◌, eqb, List, [], ◌∷◌, replicate, refl, ap, ◌∙◌, eq-eqb, ◌+◌, ◌<◌, ◌≤◌, length, get_or, drop, add-one, drop_of_length-le, drop-cons, ne_eqb}
use Rattle.std.specs.List.{list_all}
use Rattle.std.specs.Cmp.Lexicographic.{pointwise}
use Rattle.rules.specs.Chip.{same, blank, blank_byte}

and_is : (t b : Bool) → (t && b) ≡ cond t b false
and_is true b = refl
and_is false b = refl

-- ---- the same bytes ----

pub same_is : (xs ys : List ℕ) → pointwise eqb xs ys ≡ same xs ys
unfolding same
same_is [] [] = refl
same_is [] (y ∷ ys) = refl
same_is (x ∷ xs) [] = refl
same_is (x ∷ xs) (y ∷ ys) = and_is (eqb x y) _ ∙ ap (λ rest. cond (eqb x y) rest false) (same_is xs ys)

pub same_refl : (xs : List ℕ) → same xs xs ≡ true
unfolding same
same_refl [] = refl
same_refl (x ∷ xs) = rw (eq-eqb x x refl) (same_refl xs)

-- ---- blank ----

pub blank_is : (xs : List ℕ) → list_all (λ x. eqb x blank_byte) xs ≡ blank xs
unfolding blank
blank_is [] = refl
blank_is (x ∷ xs) = and_is (eqb x blank_byte) _ ∙ ap (λ rest. cond (eqb x blank_byte) rest false) (blank_is xs)

pub blank_filled : (n : ℕ) → blank (replicate n blank_byte) ≡ true
unfolding blank
blank_filled zero = refl
blank_filled (suc n) = blank_filled n

-- ---- blank, one byte at a time ----

module _ (xs : List ℕ) (i : ℕ) (h : i < length xs) where
  pub blank_not : (get_or xs i 0 ≡ blank_byte → ⊥) → blank (drop i xs) ≡ false
  unfolding blank
  blank_not n = rw (drop-cons xs i 0) (simp (ne_eqb _ _ n))

  pub blank_more : get_or xs i 0 ≡ blank_byte → blank (drop i xs) ≡ blank (drop (i + 1) xs)
  unfolding blank
  blank_more e = rw (drop-cons xs i 0, add-one) (simp (eq-eqb _ _ e))

pub blank_end : (xs : List ℕ) (i : ℕ) → length xs ≤ i → blank (drop i xs) ≡ true
unfolding blank
blank_end xs i h = rw (drop_of_length-le xs h)
