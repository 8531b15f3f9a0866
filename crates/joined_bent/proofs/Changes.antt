-- One byte moved on: which changes there are, and what of a list moves with it. Assumes nothing.
use mathlib.Core.Path.{◌≡◌, refl, sym, ap, ◌∙◌}
use mathlib.Core.Bool.{Bool, true, false, cond}
use mathlib.Core.List.{List, [], ◌∷◌}
use Prim.Native.Nat.{ℕ, zero, suc, ◌+◌, ◌-◌, ◌%◌, ◌<◌, ◌≤◌}
use native.Mathlib.Omega.{arith}
use lib.Dec.{eqb}
use lib.ListN.{length, take, drop, length-set}
use lib.Seq.{get_or-set_same, get_or-set_other, ext_get_or}
use borrow.Author.Tests.{eqb-true, eqb-false, eq-eqb, ne_eqb}
use Rattle.rules.specs.Chip.{byte_at, total}
use Rattle.joined_bent.specs.Bent.{moved, changed, bent, Change, ByOne, EveryChange, EveryOther, OnlyThere, NothingElse}

-- ---- the statements on the line ----

by_one : (a b : ℕ) → a < 256 → b < 256 → (a ≡ b → ⊥) → ByOne a b
by_one a b h g n =
    record {
      d = (b + 256 - a) % 256;
      change = record { low = omega arith; high = omega arith };
      makes = omega arith;
      only = λ x c e. omega (arith, c.low, c.high);
    }

another : (a d : ℕ) → a < 256 → Change d → (moved a d < 256) × (moved a d ≡ a → ⊥)
another a d h c = (omega arith, λ e. omega (arith, c.low, c.high))

pub every_change : EveryChange
every_change = (by_one, another)

pub every_other : EveryOther
every_other answer other i bytes others long n beside = (by.d, by.change, same)
  where
    by : ByOne (byte_at answer i) (byte_at other i)
    by = by_one (byte_at answer i) (byte_at other i) (bytes i) (others i) n

    byte : (j : ℕ) (t : Bool) → eqb j i ≡ t → j < length answer → byte_at (changed i by.d answer) j ≡ byte_at other j
    byte j true e h =
        let z = eqb-true j i e in
        rw z (get_or-set_same answer i (moved (byte_at answer i) by.d) 0 (omega arith) ∙ by.makes)
    byte j false e h =
        let z = eqb-false j i e in get_or-set_other answer i j (moved (byte_at answer i) by.d) 0 z ∙ sym (beside j z)

    same : changed i by.d answer ≡ other
    same =
        let l = length-set answer i (moved (byte_at answer i) by.d) in
        ext_get_or 0 (changed i by.d answer) other (l ∙ sym long) (λ j h. byte j (eqb j i) refl (omega arith))

module _ (k i d : ℕ) where
  -- the answer that is bent, and any other
  pub bent_there : (answer : List ℕ) → bent k i d k answer ≡ changed i d answer
  bent_there answer = ap (λ (b : Bool). cond b (changed i d answer) answer) (eq-eqb k k refl)

  pub bent_other : (n : ℕ) (answer : List ℕ) → (n ≡ k → ⊥) → bent k i d n answer ≡ answer
  bent_other n answer x = ap (λ (b : Bool). cond b (changed i d answer) answer) (ne_eqb n k x)

  bent_length : (n : ℕ) (answer : List ℕ) → length (bent k i d n answer) ≡ length answer
  bent_length n answer = go (eqb n k)
    where
      go : (b : Bool) → length (cond b (changed i d answer) answer) ≡ length answer
      go true = length-set answer i (moved (byte_at answer i) d)
      go false = refl

  only_there : OnlyThere k i d
  only_there =
      record {
        others = bent_other;
        there = λ answer h. rw (bent_there answer) (get_or-set_same answer i (moved (byte_at answer i) d) 0 h);
        beside = λ answer j n. rw (bent_there answer) (get_or-set_other answer i j (moved (byte_at answer i) d) 0 n);
        long = bent_length;
      }

pub nothing_else : NothingElse
nothing_else = only_there

-- ---- parts of a list of which one byte is moved on, and their total ----

module _ (d : ℕ) where
  pub take_changed : (n : ℕ) (xs : List ℕ) (i : ℕ) → i < n → take n (changed i d xs) ≡ changed i d (take n xs)
  take_changed zero xs i h = absurd (omega arith)
  take_changed (suc n) [] i h = refl
  take_changed (suc n) (x ∷ xs) zero h = refl
  take_changed (suc n) (x ∷ xs) (suc i) h = ap (λ (ys : List ℕ). x ∷ ys) (take_changed n xs i (omega arith))

  pub take_before : (n : ℕ) (xs : List ℕ) (i : ℕ) → n ≤ i → take n (changed i d xs) ≡ take n xs
  take_before zero xs i h = refl
  take_before (suc n) [] i h = refl
  take_before (suc n) (x ∷ xs) zero h = absurd (omega arith)
  take_before (suc n) (x ∷ xs) (suc i) h = ap (λ (ys : List ℕ). x ∷ ys) (take_before n xs i (omega arith))

  pub drop_changed : (n : ℕ) (xs : List ℕ) (i : ℕ) → n ≤ i → drop n (changed i d xs) ≡ changed (i - n) d (drop n xs)
  drop_changed zero xs i h = let z : i - 0 ≡ i = omega arith in rw z
  drop_changed (suc n) [] i h = refl
  drop_changed (suc n) (x ∷ xs) zero h = absurd (omega arith)
  drop_changed (suc n) (x ∷ xs) (suc i) h = let z : suc i - suc n ≡ i - n = omega arith in rw z (drop_changed n xs i (omega arith))

  pub total_changed : (xs : List ℕ) (i : ℕ) → i < length xs → total (changed i d xs) % 256 ≡ (total xs + d) % 256
  unfolding total
  total_changed [] i h = absurd (omega arith)
  total_changed (x ∷ xs) zero h = omega arith
  total_changed (x ∷ xs) (suc i) h = omega (arith, total_changed xs i (omega arith))
