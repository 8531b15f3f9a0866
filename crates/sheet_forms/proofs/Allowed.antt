-- A moved sheet keeps the rules that its sheet keeps. Assumes nothing.
use mathlib.Core.Path.{◌≡◌, refl, sym, ap, subst, ◌∙◌}
use mathlib.Core.Bool.{false, not, ◌&&◌}
use mathlib.Core.List.{List}
use Prim.Native.Nat.{ℕ, ◌+◌, ◌-◌, ◌<◌, ◌≤◌}
use native.Mathlib.Omega.{arith}
use lib.Dec.{eqb, ltb, leb}
use lib.ListN.{length}
use borrow.Author.Tests.{le-ltb, le-leb, leb-true, eq-eqb, ne_eqb, eqb-true, eqb-false, not-false}
use Rattle.rules.specs.declared.Chip.{Chip}
use Rattle.rules.specs.Sheet.{against, count, table_end, last_kind, kind_at, offset_at, offset_due, range_at, body_end, J1, J11}
use Rattle.rules.specs.Move.{is_new}
use Rattle.rules.proofs.Choices.{both, neither}
use Rattle.rules.proofs.Sheet.{EntryAllowed, SheetAllowed}
use Rattle.sheet_forms.proofs.SameWrites.{twice_same}
use Rattle.sheet_forms.proofs.Shifted.{Shift, same, due, ends, table_there, at_due, ends_there, past}

-- ---- kinds ----

pub kind_kept : (s : List ℕ) → SheetAllowed s → (i : ℕ) → i < count s → (1 ≤ kind_at s i) × (kind_at s i ≤ last_kind s)
kind_kept s a i l =
    let k = both (leb 1 (kind_at s i)) (leb (kind_at s i) (last_kind s)) (not-false (leb 1 (kind_at s i) && leb (kind_at s i) (last_kind s)) (a.entries i l).j4) in
    (leb-true 1 (kind_at s i) k.0, leb-true (kind_at s i) (last_kind s) k.1)

pub not_new : (k : ℕ) → k ≤ 4 → is_new k ≡ false
not_new k h = rw (ne_eqb k 5 (λ e. omega arith), ne_eqb k 6 (λ e. omega arith))

pub none_new : (k : ℕ) → k ≤ 6 → is_new k ≡ false → k ≤ 4
none_new k h e =
    let n = neither (eqb k 5) (eqb k 6) e in
    let f = eqb-false k 5 n.0 in
    let g = eqb-false k 6 n.1 in
    omega arith

-- ---- the rules ----

module _ (to : ℕ → ℕ) (s u : List ℕ) (h : Shift to s u) (a : SheetAllowed s) where
  rises : (m n : ℕ) → table_end s ≤ m → m ≤ n → to m ≤ to n
  rises m n p q = let e : m + (n - m) ≡ n = omega arith in omega (arith, h.further m (n - m) p, ap to e)

  module _ (j1 : J1 u ≡ false) (j11 : J11 u ≡ false) (kinds : (i : ℕ) → i < count s → kind_at s i ≤ last_kind u) where
    entry_carried : (i : ℕ) → i < count s → EntryAllowed (against s) u i
    entry_carried i l =
        let x = same to s u h i l in
        let e = a.entries i l in
        let d : offset_at u i ≡ offset_due u i =
        x.offset ∙ ap to (at_due s a i l) ∙ sym (due to s u h a i (omega arith)) in
        let f : body_end u i ≤ length u =
        omega (arith, ends to s u h a i l, h.size, rises (body_end s i) (length s) (omega (arith, past s a i l)) (ends_there s a i l)) in
        record {
          j4 = rw (x.kind, le-leb 1 (kind_at s i) (kind_kept s a i l).0, le-leb (kind_at s i) (last_kind u) (kinds i l));
          j5 = ap (λ (n : ℕ). not (eqb n 0)) x.zero ∙ e.j5;
          j6 = x.pair (against s) ∙ e.j6;
          j12 = x.lock ∙ e.j12;
          j7 = rw (eq-eqb (offset_at u i) (offset_due u i) d);
          j8 = le-ltb (length u) (body_end u i) f;
        }

    pub carried : against u ≡ against s → SheetAllowed u
    carried chip =
        let t = table_there s a in
        let d : length u ≡ offset_due u (count u) =
        h.size
        ∙ ap to (eqb-true (length s) (offset_due s (count s)) (not-false (eqb (length s) (offset_due s (count s))) a.j9))
        ∙ sym (due to s u h a (count s) (omega arith))
        ∙ ap (offset_due u) (sym h.counted) in
        record {
          j1 = j1;
          j2 = ap (ltb 64) h.counted ∙ a.j2;
          j11 = j11;
          j3 = le-ltb (length u) (table_end u) (omega (arith, h.table, h.size, rises (table_end s) (length s) (omega arith) t));
          entries = λ i l. subst (λ (c : Chip). EntryAllowed c u i) (sym chip) (entry_carried i (omega (arith, h.counted)));
          j9 = rw (eq-eqb (length u) (offset_due u (count u)) d);
          j13 =
              twice_same s u (count s) (λ i l. (same to s u h i l).kind)
              (λ i l. ap (λ (c : Chip). range_at c u i) chip ∙ (same to s u h i l).range (against s)) h.counted refl
              ∙ a.j13;
        }
