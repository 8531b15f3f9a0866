-- Laws of pairs and of rows of any unit, by an index. Assumes nothing.
use mathlib.Core.Path.{◌≡◌, refl, ap, ◌∙◌}
use mathlib.Core.Bool.{true, false}
use mathlib.Core.List.{List}
use Prim.Native.Nat.{ℕ, zero, suc, ◌+◌, ◌-◌, ◌*◌, ◌%◌, ◌<◌, ◌≤◌}
use native.Mathlib.Nat.{not-suc-le-zero, zero-mul, suc-mul, add_comm}
use native.Mathlib.Omega.{arith}
use lib.ListN.{length, get_or, drop, get_or-eq_default}
use lib.Seq.{drop-drop}
use borrow.Author.Tests.{lt-ltb, le-ltb}
use Rattle.rules.specs.Lines.{all_good, values}

-- ---- rows ----

module _ (u : List ℕ → ℕ) (size : ℕ) where
  pub good_bad : (n : ℕ) (r : List ℕ) → 0 < n → 256 ≤ u r → all_good u size n r ≡ false
  unfolding all_good
  good_bad zero r h g = absurd (omega arith)
  good_bad (suc n) r h g = simp (le-ltb _ _ g)

  pub good_more : (n i : ℕ) (t : List ℕ) → 0 < n → u (drop i t) < 256 → all_good u size n (drop i t) ≡ all_good u size (n - 1) (drop (i + size) t)
  unfolding all_good
  good_more zero i t h g = absurd (omega arith)
  good_more (suc n) i t h g = let e : suc n - 1 ≡ n = omega arith in simp (lt-ltb _ _ g, drop-drop, e)

  pub good_end : (n : ℕ) (r : List ℕ) → n ≤ 0 → all_good u size n r ≡ true
  unfolding all_good
  good_end zero r h = refl
  good_end (suc n) r h = absurd (omega arith)

  pub values_length : (n : ℕ) (r : List ℕ) → length (values u size n r) ≡ n
  unfolding values
  values_length zero r = refl
  values_length (suc n) r = ap suc (values_length n (drop size r))

  pub value_at : (n k : ℕ) (r : List ℕ) → k < n → get_or (values u size n r) k 0 ≡ u (drop (k * size) r) % 256
  unfolding values
  value_at zero k r h = absurd (not-suc-le-zero h)
  value_at (suc n) zero r h = rw zero-mul
  value_at (suc n) (suc k) r h =
      value_at n k (drop size r) (omega arith) ∙ rw (drop-drop, suc-mul, add_comm size (k * size))

  pub value_none : (n k : ℕ) (r : List ℕ) → n ≤ k → get_or (values u size n r) k 0 ≡ 0
  value_none n k r h = get_or-eq_default (values u size n r) 0 {n = k} (omega (arith, values_length n r))
