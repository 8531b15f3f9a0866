-- Laws of numbers of digits, by an index. Assumes nothing.
use mathlib.Core.Path.{◌≡◌}
use mathlib.Core.List.{List}
use Prim.Native.Nat.{ℕ, ◌+◌, ◌*◌, ◌<◌, ◌≤◌}
use native.Mathlib.Nat.{mul-le-mul}
use native.Mathlib.Numerals.{add-one}
use lib.ListN.{length, get_or, drop, drop_of_length-le}
use lib.Seq.{drop-cons}
use borrow.Author.Tests.{eq-eqb, ne_eqb, lt-ltb, le-ltb, le-leb, lt-leb}
use Rattle.rules.specs.Lines.{digit}
use Rattle.text_read.specs.Answers.{Value, Bad}
use Rattle.text_read.specs.Numerals.{numeral, decimal_of, hex_of}

-- ---- the digits from place `i` on, behind a number that was read ----

module _ (base most n : ℕ) (t : List ℕ) (i : ℕ) where
  pub no_digit : i < length t → base ≤ digit (get_or t i 0) → numeral base most n (drop i t) ≡ Bad
  unfolding numeral
  no_digit h d = rw (drop-cons t i 0) (simp (le-ltb _ _ d))

  pub too_much : i < length t → digit (get_or t i 0) < base → most < n * base + digit (get_or t i 0) → numeral base most n (drop i t) ≡ Bad
  unfolding numeral
  too_much h d m = rw (drop-cons t i 0) (simp (lt-ltb _ _ d, lt-leb _ _ m))

  pub one_more : i < length t → digit (get_or t i 0) < base → n * base + digit (get_or t i 0) ≤ most → numeral base most n (drop i t) ≡ numeral base most (n * base + digit (get_or t i 0)) (drop (i + 1) t)
  unfolding numeral
  one_more h d m = rw (drop-cons t i 0, add-one) (simp (lt-ltb _ _ d, le-leb _ _ m))

  pub no_more : length t ≤ i → numeral base most n (drop i t) ≡ Value n
  unfolding numeral
  no_more h = rw (drop_of_length-le t h)

-- ---- decimal and hex ----

module _ (most : ℕ) (t : List ℕ) where
  pub decimal_empty : length t ≡ 0 → decimal_of most t ≡ Bad
  unfolding decimal_of
  decimal_empty e = simp (eq-eqb _ _ e)

  pub decimal_one : length t ≡ 1 → decimal_of most t ≡ numeral 10 most 0 t
  unfolding decimal_of
  decimal_one e = simp e

  pub decimal_zero : (length t ≡ 0 → ⊥) → (length t ≡ 1 → ⊥) → get_or t 0 0 ≡ 0x30 → decimal_of most t ≡ Bad
  unfolding decimal_of
  decimal_zero a b e = simp (ne_eqb _ _ a, ne_eqb _ _ b, eq-eqb _ _ e)

  pub decimal_many : (length t ≡ 0 → ⊥) → (length t ≡ 1 → ⊥) → (get_or t 0 0 ≡ 0x30 → ⊥) → decimal_of most t ≡ numeral 10 most 0 t
  unfolding decimal_of
  decimal_many a b e = simp (ne_eqb _ _ a, ne_eqb _ _ b, ne_eqb _ _ e)

module _ (digits : ℕ) (t : List ℕ) where
  pub hex_other : (length t ≡ digits → ⊥) → hex_of digits t ≡ Bad
  unfolding hex_of
  hex_other n = simp (ne_eqb _ _ n)

  pub hex_so_many : length t ≡ digits → hex_of digits t ≡ numeral 16 0xFFFFFFFF 0 t
  unfolding hex_of
  hex_so_many e = simp (eq-eqb _ _ e)

-- a number of 32 bits times a byte
pub times_small : (n base : ℕ) → n ≤ 4294967295 → base ≤ 255 → n * base ≤ 1095216660225
times_small n base h g = mul-le-mul {n₂ = 4294967295} {m₂ = 255} h g
