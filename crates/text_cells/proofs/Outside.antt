-- Bytes one behind the other: each lies in one of our flashes precisely where all lie in the same flash. Assumes nothing.
use mathlib.Core.Path.{◌≡◌}
use mathlib.Core.Bool.{true}
use mathlib.Core.Logic.{◌⊎◌, inl, inr}
use Prim.Native.Nat.{ℕ, zero, suc, ◌+◌, ◌<◌, ◌≤◌}
use native.Mathlib.Omega.{arith}
use lib.Dec.{leb, ltb}
use borrow.Author.Tests.{leb-true, ltb-true, le-leb, lt-ltb}
use Rattle.rules.specs.declared.Flash.{Flash}
use Rattle.rules.specs.declared.Flash.TheVariants.{Code, Data}
use Rattle.rules.specs.Chip.{small, start, flash_size, within}
use Rattle.rules.specs.Hex.{lies_in}
use Rattle.rules.proofs.Choices.{both}

-- a byte lies in one of our flashes; so many bytes lie all in the same
abbrev pub Somewhere : ℕ → Type 0
Somewhere a = (within small Code (record { 0 = a }) ≡ true) ⊎ (within small Data (record { 0 = a }) ≡ true)

abbrev pub Together : ℕ → ℕ → Type 0
Together a n = (lies_in Code a n ≡ true) ⊎ (lies_in Data a n ≡ true)

module _ (f : Flash) (a : ℕ) where
  within_is : within small f (record { 0 = a }) ≡ true → (start f ≤ a) × (a < start f + flash_size small f)
  within_is e = let p = both (leb (start f) a) (ltb a (start f + flash_size small f)) e in (leb-true _ _ p.0, ltb-true _ _ p.1)

  is_within : start f ≤ a → a < start f + flash_size small f → within small f (record { 0 = a }) ≡ true
  is_within h g = rw (le-leb (start f) a h, lt-ltb a (start f + flash_size small f) g)

  lies_is : (n : ℕ) → lies_in f a n ≡ true → (start f ≤ a) × (a + n ≤ start f + flash_size small f)
  lies_is n e = let p = both (leb (start f) a) (leb (a + n) (start f + flash_size small f)) e in (leb-true _ _ p.0, leb-true _ _ p.1)

  is_lies : (n : ℕ) → start f ≤ a → a + n ≤ start f + flash_size small f → lies_in f a n ≡ true
  is_lies n h g = rw (le-leb (start f) a h, le-leb (a + n) (start f + flash_size small f) g)

pub inside_each : (a n : ℕ) → Together a n → (k : ℕ) → k < n → Somewhere (a + k)
inside_each a n (inl e) k h = let p = lies_is Code a n e in inl (is_within Code (a + k) (omega (arith, p)) (omega (arith, p)))
inside_each a n (inr e) k h = let p = lies_is Data a n e in inr (is_within Data (a + k) (omega (arith, p)) (omega (arith, p)))

-- one byte more
one_more : (a n : ℕ) → 0 < n → Together a n → Somewhere (a + n) → Together a (suc n)
one_more a n h (inl e) (inl g) = let p = lies_is Code a n e in let q = within_is Code (a + n) g in inl (is_lies Code a (suc n) (omega (arith, p, q)) (omega (arith, p, q)))
one_more a n h (inl e) (inr g) = let p = lies_is Code a n e in let q = within_is Data (a + n) g in absurd (omega (arith, p, q))
one_more a n h (inr e) (inl g) = let p = lies_is Data a n e in let q = within_is Code (a + n) g in absurd (omega (arith, p, q))
one_more a n h (inr e) (inr g) = let p = lies_is Data a n e in let q = within_is Data (a + n) g in inr (is_lies Data a (suc n) (omega (arith, p, q)) (omega (arith, p, q)))

one_byte : (a : ℕ) → Somewhere (a + 0) → Together a 1
one_byte a (inl g) = let q = within_is Code (a + 0) g in inl (is_lies Code a 1 (omega (arith, q)) (omega (arith, q)))
one_byte a (inr g) = let q = within_is Data (a + 0) g in inr (is_lies Data a 1 (omega (arith, q)) (omega (arith, q)))

pub each_inside : (a n : ℕ) → 0 < n → ((k : ℕ) → k < n → Somewhere (a + k)) → Together a n
each_inside a zero h s = absurd (omega arith)
each_inside a (suc zero) h s = one_byte a (s 0 (omega arith))
each_inside a (suc (suc n)) h s =
    one_more a (suc n) (omega arith) (each_inside a (suc n) (omega arith) (λ k g. s k (omega arith))) (s (suc n) (omega arith))
