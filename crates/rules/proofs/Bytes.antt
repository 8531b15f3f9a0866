-- The same bytes are equal; the sum of bytes, one byte more. Assumes nothing.
use mathlib.Core.Path.{◌≡◌, refl, sym}
use mathlib.Core.Bool.{true, false, false≢true}
use Prim.Native.Nat.{ℕ, zero, suc, ◌+◌, ◌<◌}
use mathlib.Core.List.{List, [], ◌∷◌}
use native.Mathlib.Nat.{not-suc-le-zero, le_of_suc-le-suc}
use native.Mathlib.Numerals.{add-one}
use native.Mathlib.Omega.{arith}
use lib.Dec.{eqb}
use lib.ListN.{length, take}
use borrow.Author.Tests.{eqb-true}
use Rattle.rules.specs.Chip.{byte_at, same, total}
use Rattle.rules.proofs.Choices.{picked}

pub same_equal : (xs ys : List ℕ) → same xs ys ≡ true → xs ≡ ys
unfolding same
same_equal [] [] e = refl
same_equal [] (y ∷ ys) e = absurd (false≢true e)
same_equal (x ∷ xs) [] e = absurd (false≢true e)
same_equal (x ∷ xs) (y ∷ ys) e =
    let p = picked (eqb x y) (same xs ys) false true e (λ z. false≢true (sym z)) in
    let h = eqb-true x y p.0 in
    let t = same_equal xs ys p.1 in
    cc

pub total_suc : (s : List ℕ) (i : ℕ) → i < length s → total (take (suc i) s) ≡ total (take i s) + byte_at s i
unfolding total
total_suc [] i h = absurd (not-suc-le-zero h)
total_suc (x ∷ s) zero h = omega arith
total_suc (x ∷ s) (suc i) h = omega (arith, total_suc s i (le_of_suc-le-suc h))

pub total_more : (s : List ℕ) (i : ℕ) → i < length s → total (take (i + 1) s) ≡ total (take i s) + byte_at s i
total_more s i h = rw add-one (total_suc s i h)
