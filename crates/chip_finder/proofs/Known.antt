-- The two chips that are known, and no other. Assumes nothing.
use mathlib.Core.Path.{◌≡◌, refl}
use mathlib.Core.Bool.{Bool, true, false, ◌||◌}
use mathlib.Core.Logic.{◌⊎◌, inl, inr}
use Prim.Native.Nat.{◌+◌, ◌*◌, ◌<◌}
use lib.Dec.{eqb}
use native.Mathlib.Omega.{arith}
use borrow.Author.Tests.{eqb-true, eqb-false, eq-eqb, ne_eqb}
use Rattle.rules.specs.declared.Chip.{Chip}
use Rattle.rules.specs.Chip.{small, large, same_counts, known}
use Rattle.rules.proofs.Choices.{both, or_true}

-- chips with the same counts are one
pub same_chip : (a b : Chip) → same_counts a b ≡ true → a ≡ b
same_chip a b h =
    let t = both (eqb a.code b.code) (eqb a.«data» b.«data») h in
    rw (eqb-true a.code b.code t.0, eqb-true a.«data» b.«data» t.1)

-- both counts in one number tell them apart
pub counts_at_once : (a b : Chip) → a.code < 65536 → b.code < 65536
    → eqb (a.«data» * 65536 + a.code) (b.«data» * 65536 + b.code) ≡ same_counts a b
counts_at_once a b la lb = go (eqb a.code b.code) refl (eqb a.«data» b.«data») refl
  where
    go : (s : Bool) → eqb a.code b.code ≡ s → (t : Bool) → eqb a.«data» b.«data» ≡ t
        → eqb (a.«data» * 65536 + a.code) (b.«data» * 65536 + b.code) ≡ same_counts a b
    go false e t f =
        let n = eqb-false a.code b.code e in
        rw e (ne_eqb (a.«data» * 65536 + a.code) (b.«data» * 65536 + b.code) (omega arith))
    go true e false f =
        let c = eqb-true a.code b.code e in
        let n = eqb-false a.«data» b.«data» f in
        rw (e, f) (ne_eqb (a.«data» * 65536 + a.code) (b.«data» * 65536 + b.code) (omega arith))
    go true e true f =
        let c = eqb-true a.code b.code e in
        let d = eqb-true a.«data» b.«data» f in
        rw (e, f) (eq-eqb (a.«data» * 65536 + a.code) (b.«data» * 65536 + b.code) (omega arith))

module _ (k : Chip) where
  pub is_small : same_counts k small ≡ true → known k ≡ true
  unfolding known
  is_small h = rw h

  pub is_large : same_counts k large ≡ true → known k ≡ true
  unfolding known
  is_large h = rw (h, or_true (same_counts k small))

  pub not_small : same_counts k small ≡ false → known k ≡ same_counts k large
  unfolding known
  not_small h = rw h

  -- A KNOWN CHIP is one of the two
  pub known_chip : known k ≡ true → (k ≡ small) ⊎ (k ≡ large)
  unfolding known
  known_chip h = go (same_counts k small) refl h
    where
      go : (t : Bool) → same_counts k small ≡ t → (t || same_counts k large) ≡ true → (k ≡ small) ⊎ (k ≡ large)
      go true e h = inl (same_chip k small e)
      go false e h = inr (same_chip k large h)
