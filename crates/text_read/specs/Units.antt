-- A pair, spaced or not, is a byte or 256 for none. Assumes nothing.
use mathlib.Core.Path.{◌≡◌, refl}
use mathlib.Core.Bool.{Bool, true, false, cond}
use mathlib.Core.List.{List, [], ◌∷◌}
use Prim.Native.Nat.{ℕ, ◌+◌, ◌*◌, ◌≤◌}
use native.Mathlib.Omega.{arith}
use lib.Dec.{eqb, ltb}
use borrow.Author.Tests.{ltb-true}
use Rattle.rules.specs.Lines.{digit, two_digits, pair, spaced_pair}

two_digits_bounded : (h l : ℕ) → two_digits h l ≤ 256
unfolding two_digits
two_digits_bounded h l = go (ltb (digit h) 16) (ltb (digit l) 16) refl refl
  where
    go : (x y : Bool) → ltb (digit h) 16 ≡ x → ltb (digit l) 16 ≡ y → cond x (cond y (digit h * 16 + digit l) 256) 256 ≤ 256
    go true true p q = let a = ltb-true _ _ p in let b = ltb-true _ _ q in omega arith
    go true false p q = omega arith
    go false y p q = omega arith

pub pair_bounded : (r : List ℕ) → pair r ≤ 256
unfolding pair
pair_bounded [] = omega arith
pair_bounded (h ∷ []) = omega arith
pair_bounded (h ∷ l ∷ t) = two_digits_bounded h l

pub spaced_pair_bounded : (r : List ℕ) → spaced_pair r ≤ 256
unfolding spaced_pair
spaced_pair_bounded [] = omega arith
spaced_pair_bounded (s ∷ t) = go (eqb s 0x20)
  where
    go : (x : Bool) → cond x (pair t) 256 ≤ 256
    go true = pair_bounded t
    go false = omega arith
