-- Laws of a move: one for each outcome, in the order of the rules; and what an outcome tells of the sheet. Assumes nothing.
use mathlib.Core.Path.{◌≡◌, refl}
use mathlib.Core.Bool.{Bool, true, false, not}
use mathlib.Core.List.{List}
use Prim.Native.Nat.{ℕ, zero, suc, ◌+◌, ◌<◌, ◌≤◌}
use native.Mathlib.Omega.{arith}
use lib.Dec.{eqb}
use lib.ListN.{length}
use borrow.Author.Tests.{lt-ltb, le-ltb, eqb-true, eqb-false, not-true, not-false}
use Rattle.rules.specs.Answers as moved
use Rattle.rules.specs.declared.Refusal.{Refusal}
use Rattle.rules.specs.declared.Refusal.TheVariants as r
use Rattle.rules.specs.Answers.{Verdict, Accepted, Refused}
use Rattle.rules.specs.First.{first}
use Rattle.rules.specs.Chip.{over}
use Rattle.rules.specs.Sheet.{form_two, chip_number, count, kind_at, sheet_verdict}
use Rattle.rules.specs.Move.{is_new, any_new, down_open, down_closed, move_verdict, move_by}
use Rattle.rules.proofs.Choices.{both, neither}
use Rattle.rules.proofs.Sheet.{unbroken, both as accepted-both}

-- ---- the outcomes ----

module _ (s : List ℕ) (closed : Bool) (new out : List ℕ) where
  pub own_refusal : (n : Refusal) → sheet_verdict s ≡ Refused n
      → move_by (move_verdict s closed new (length out)) new out ≡ record { moved = moved.Refused n; out = out }
  unfolding move_by move_verdict
  own_refusal n e = rw e

  module _ (ok : sheet_verdict s ≡ Accepted) where
    pub way_closed : closed ≡ true → move_by (move_verdict s closed new (length out)) new out ≡ record { moved = moved.Refused r.J15; out = out }
    unfolding move_by move_verdict first
    way_closed e = rw (ok, e)

    module _ (way : closed ≡ false) where
      pub no_room : length out < length new → move_by (move_verdict s closed new (length out)) new out ≡ record { moved = moved.Refused r.J16; out = out }
      unfolding move_by move_verdict first
      no_room h = rw (ok, way, lt-ltb (length out) (length new) h)

      pub is_moved : length new ≤ length out
          → move_by (move_verdict s closed new (length out)) new out ≡ record { moved = moved.Sheet (length new); out = over new out }
      unfolding move_by move_verdict first
      is_moved h = rw (ok, way, le-ltb (length out) (length new) h)

  -- a sheet that comes was accepted, and the way was open
  verdict_told_lem : (v : Verdict) (n : ℕ) → (move_by v new out).moved ≡ moved.Sheet n → v ≡ Accepted
  unfolding move_by
  verdict_told_lem Accepted n e = refl
  verdict_told_lem (Refused x) n e = let z : ◌≡◌ {A = ℕ} 0 1 = cc in absurd (omega arith)

  pub told : (n : ℕ) → (move_by (move_verdict s closed new (length out)) new out).moved ≡ moved.Sheet n
      → (sheet_verdict s ≡ Accepted) × (closed ≡ false)
  unfolding move_verdict first
  told n e =
      let p = accepted-both (sheet_verdict s) _ (verdict_told_lem (move_verdict s closed new (length out)) n e) in
      (p.0, (unbroken closed _ _ p.1).0)

-- ---- the way down ----

-- no new kind, entry by entry
none_told : (s : List ℕ) (i left : ℕ) → any_new s i left ≡ false → (k : ℕ) → i ≤ k → k < i + left → is_new (kind_at s k) ≡ false
unfolding any_new
none_told s i zero e k l h = absurd (omega arith)
none_told s i (suc left) e k l h = go (none_told s (i + 1) left n.1 k) (eqb i k) refl
  where
    n : (is_new (kind_at s i) ≡ false) × (any_new s (i + 1) left ≡ false)
    n = neither (is_new (kind_at s i)) (any_new s (i + 1) left) e

    go : (i + 1 ≤ k → k < i + 1 + left → is_new (kind_at s k) ≡ false) → (t : Bool) → eqb i k ≡ t → is_new (kind_at s k) ≡ false
    go later true f = rw (← eqb-true i k f) n.0
    go later false f = let d = eqb-false i k f in later (omega arith) (omega arith)

none_there : (s : List ℕ) (i left : ℕ) → ((k : ℕ) → i ≤ k → k < i + left → is_new (kind_at s k) ≡ false) → any_new s i left ≡ false
unfolding any_new
none_there s i zero h = refl
none_there s i (suc left) h =
    rw (h i (omega arith) (omega arith)) (none_there s (i + 1) left (λ k a b. h k (omega arith) (omega arith)))

pub record DownTold (s : List ℕ) : Type 0 where
  pub form : form_two s ≡ true
  pub chip : chip_number s ≡ 1
  pub kinds : (i : ℕ) → i < count s → is_new (kind_at s i) ≡ false

pub down_told : (s : List ℕ) → down_closed s ≡ false → DownTold s
down_told s e =
    let n = neither (not (form_two s)) (not (down_open s)) e in
    let b = both (eqb (chip_number s) 1) (not (any_new s 0 (count s))) (not-false (down_open s) n.1) in
    record {
      form = not-false (form_two s) n.0;
      chip = eqb-true (chip_number s) 1 b.0;
      kinds = λ i l. none_told s 0 (count s) (not-true (any_new s 0 (count s)) b.1) i (omega arith) (omega arith);
    }

pub down_open_lem : (s : List ℕ) → DownTold s → down_closed s ≡ false
down_open_lem s d =
    rw (d.form, d.chip, none_there s 0 (count s) (λ k _ b. d.kinds k (omega arith)))
