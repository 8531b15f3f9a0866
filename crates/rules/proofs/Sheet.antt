-- A sheet is accepted precisely when none of the rules D0 and J1 to J14 is broken. Assumes nothing.
use mathlib.Core.Path.{◌≡◌, refl, sym, ap, ◌∙◌}
use mathlib.Core.Bool.{Bool, true, false, cond, not}
use mathlib.Core.List.{List}
use Prim.Native.Nat.{ℕ, zero, suc, ◌+◌, ◌≤◌, ◌<◌}
use native.Mathlib.Omega.{arith}
use lib.Dec.{eqb}
use borrow.Author.Tests.{eqb-true, eqb-false}
use Rattle.rules.specs.declared.Chip.{Chip}
use Rattle.rules.specs.declared.Refusal.{Refusal}
use Rattle.rules.specs.declared.Refusal.TheVariants.{D0}
use Rattle.rules.specs.Answers.{Verdict, Accepted, Refused}
use Rattle.rules.specs.First.{and_then, first}
use Rattle.rules.proofs.Choices.{both as both_true}
use Rattle.rules.specs.Chip.{known, same_counts}
use Rattle.rules.specs.Sheet.{against, count, J1, J2, J3, J4, J5, J6, J7, J8, J9, J10, J11, J12, J13, J14, head_verdict, entry_verdict, entries_verdict, sheet_verdict, verdict}

-- no rule of an entry is broken
pub record EntryAllowed (chip : Chip) (s : List ℕ) (i : ℕ) : Type 0 where
  pub j4 : J4 s i ≡ false
  pub j5 : J5 s i ≡ false
  pub j6 : J6 chip s i ≡ false
  pub j12 : J12 s i ≡ false
  pub j7 : J7 s i ≡ false
  pub j8 : J8 s i ≡ false

-- no rule of the sheet itself is broken
pub record SheetAllowed (s : List ℕ) : Type 0 where
  pub j1 : J1 s ≡ false
  pub j2 : J2 s ≡ false
  pub j11 : J11 s ≡ false
  pub j3 : J3 s ≡ false
  pub entries : (i : ℕ) → i < count s → EntryAllowed (against s) s i
  pub j9 : J9 s ≡ false
  pub j13 : J13 s ≡ false

-- the chip is known, it is the sheet's, and the room for its sums is there
pub record Allowed (chip : Chip) (s : List ℕ) (room : ℕ) : Type 0 where
  pub d0 : not (known chip) ≡ false
  pub sheet : SheetAllowed s
  pub j14 : J14 chip s ≡ false
  pub j10 : J10 s room ≡ false

-- two chips of the same counts
same_chip : (a b : Chip) → a.code ≡ b.code → a.«data» ≡ b.«data» → a ≡ b
same_chip a b e f =
    ap (λ (x : ℕ). record { code = x; «data» = a.«data» }) e ∙ ap (λ (x : ℕ). record { code = b.code; «data» = x }) f

-- a rule and those behind it
pub refused≢accepted : (n : Refusal) → Refused n ≡ Accepted → ⊥
refused≢accepted n e = let z : ◌≡◌ {A = ℕ} 0 1 = cc in omega arith

pub unbroken : (b : Bool) (n : Refusal) (v : Verdict) → cond b (Refused n) v ≡ Accepted → (b ≡ false) × (v ≡ Accepted)
unbroken true n v e = absurd (refused≢accepted n e)
unbroken false n v e = (refl, e)

pub both : (a b : Verdict) → and_then a b ≡ Accepted → (a ≡ Accepted) × (b ≡ Accepted)
both Accepted b e = (refl, e)
both (Refused n) b e = absurd (refused≢accepted n e)

-- an entry
entry_allowed : (chip : Chip) (s : List ℕ) (i : ℕ) → entry_verdict chip s i ≡ Accepted → EntryAllowed chip s i
unfolding entry_verdict first
entry_allowed chip s i e =
    let a = unbroken (J4 s i) _ _ e in
    let b = unbroken (J5 s i) _ _ a.1 in
    let c = unbroken (J6 chip s i) _ _ b.1 in
    let g = unbroken (J12 s i) _ _ c.1 in
    let d = unbroken (J7 s i) _ _ g.1 in
    let f = unbroken (J8 s i) _ _ d.1 in
    record { j4 = a.0; j5 = b.0; j6 = c.0; j12 = g.0; j7 = d.0; j8 = f.0 }

pub entry_accepted : (chip : Chip) (s : List ℕ) (i : ℕ) → EntryAllowed chip s i → entry_verdict chip s i ≡ Accepted
unfolding entry_verdict first
entry_accepted chip s i a = rw (a.j4, a.j5, a.j6, a.j12, a.j7, a.j8)

-- the entries from i on
pub entries_allowed : (chip : Chip) (s : List ℕ) (i left : ℕ)
    → entries_verdict chip s i left ≡ Accepted
    → (k : ℕ) → i ≤ k → k < i + left → EntryAllowed chip s k
unfolding entries_verdict
entries_allowed chip s i zero e k a b = absurd (omega arith)
entries_allowed chip s i (suc left) e k a b = go (entries_allowed chip s (i + 1) left parts.1 k) (eqb i k) refl
  where
    parts : (entry_verdict chip s i ≡ Accepted) × (entries_verdict chip s (i + 1) left ≡ Accepted)
    parts = both (entry_verdict chip s i) (entries_verdict chip s (i + 1) left) e

    go : (i + 1 ≤ k → k < i + 1 + left → EntryAllowed chip s k) → (t : Bool) → eqb i k ≡ t → EntryAllowed chip s k
    go later true h = rw (← eqb-true i k h) (entry_allowed chip s i parts.0)
    go later false h = let n = eqb-false i k h in later (omega arith) (omega arith)

entries_accepted : (chip : Chip) (s : List ℕ) (i left : ℕ)
    → ((k : ℕ) → i ≤ k → k < i + left → EntryAllowed chip s k)
    → entries_verdict chip s i left ≡ Accepted
unfolding entries_verdict
entries_accepted chip s i zero h = refl
entries_accepted chip s i (suc left) h =
    rw (entry_accepted chip s i (h i (omega arith) (omega arith)))
    (entries_accepted chip s (i + 1) left (λ k a b. h k (omega arith) (omega arith)))

-- the sheet itself
module _ (s : List ℕ) where
  pub sheet_allowed : sheet_verdict s ≡ Accepted → SheetAllowed s
  unfolding sheet_verdict head_verdict first
  sheet_allowed e =
      let h = both (head_verdict s) _ e in
      let t = both (entries_verdict (against s) s 0 (count s)) _ h.1 in
      let a = unbroken (J1 s) _ _ h.0 in
      let b = unbroken (J2 s) _ _ a.1 in
      let d = unbroken (J11 s) _ _ b.1 in
      let c = unbroken (J3 s) _ _ d.1 in
      let f = unbroken (J9 s) _ _ t.1 in
      record {
        j1 = a.0;
        j2 = b.0;
        j11 = d.0;
        j3 = c.0;
        entries = λ i l. entries_allowed (against s) s 0 (count s) t.0 i (omega arith) (omega arith);
        j9 = f.0;
        j13 = (unbroken (J13 s) _ _ f.1).0;
      }

  pub allowed_sheet : SheetAllowed s → sheet_verdict s ≡ Accepted
  unfolding sheet_verdict head_verdict first
  allowed_sheet a =
      let l : entries_verdict (against s) s 0 (count s) ≡ Accepted =
      entries_accepted (against s) s 0 (count s) (λ k _ b. a.entries k (omega arith)) in
      rw (a.j1, a.j2, a.j11, a.j3, l, a.j9, a.j13)

-- THE LAW
module _ (chip : Chip) (s : List ℕ) (room : ℕ) where
  -- of a known chip; the sheet's own rules; its chip; and the room
  parts : verdict chip s room ≡ Accepted
      → (not (known chip) ≡ false) × (sheet_verdict s ≡ Accepted) × (J14 chip s ≡ false) × (J10 s room ≡ false)
  unfolding verdict first
  parts e =
      let a = both (cond (not (known chip)) (Refused D0) Accepted) _ e in
      let b = both (sheet_verdict s) _ a.1 in
      let c = unbroken (J14 chip s) _ _ b.1 in
      ((unbroken (not (known chip)) _ _ a.0).0, b.0, c.0, (unbroken (J10 s room) _ _ c.1).0)

  unturned : (b : Bool) → not b ≡ false → b ≡ true
  unturned true h = refl
  unturned false h = sym h

  pub chip_known : verdict chip s room ≡ Accepted → known chip ≡ true
  chip_known e = unturned (known chip) (parts e).0

  -- an accepted sheet is played to the chip that it names
  pub chip_named_lem : verdict chip s room ≡ Accepted → against s ≡ chip
  chip_named_lem e =
      let h = unturned (same_counts chip (against s)) (parts e).2 in
      let p = both_true (eqb chip.code (against s).code) (eqb chip.«data» (against s).«data») h in
      sym (same_chip chip (against s) (eqb-true chip.code (against s).code p.0) (eqb-true chip.«data» (against s).«data» p.1))

  pub sheet_accepted : verdict chip s room ≡ Accepted → sheet_verdict s ≡ Accepted
  sheet_accepted e = (parts e).1

  pub accepted_allowed : verdict chip s room ≡ Accepted → Allowed chip s room
  accepted_allowed e =
      let p = parts e in record { d0 = p.0; sheet = sheet_allowed s p.1; j14 = p.2; j10 = p.3 }

  pub allowed_accepted : Allowed chip s room → verdict chip s room ≡ Accepted
  unfolding verdict first
  allowed_accepted a = rw (a.d0, allowed_sheet s a.sheet, a.j14, a.j10)
