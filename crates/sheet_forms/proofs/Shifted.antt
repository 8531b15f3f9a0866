-- A sheet that holds what another holds, each place in it moved: the same entries but for their offsets, and the same bodies. Assumes nothing.
use mathlib.Core.Path.{◌≡◌, refl, sym, ap, ◌∙◌}
use mathlib.Core.List.{List, ◌++◌}
use Prim.Native.Nat.{ℕ, zero, suc, ◌+◌, ◌-◌, ◌*◌, ◌<◌, ◌≤◌}
use native.Mathlib.Omega.{arith}
use lib.ListN.{length, take, drop, length-drop}
use borrow.Author.Tests.{ltb-false, eqb-true, not-false}
use lib.Dec.{eqb}
use Rattle.rules.specs.declared.Chip.{Chip}
use Rattle.rules.specs.Chip.{range}
use Rattle.rules.specs.Sheet.{head_size, count, table_end, entry_at, kind_at, zero_at, offset_at, offset_due, range_at, body_length, body_end, J6, J12, is_last}
use Rattle.rules.proofs.Sheet.{SheetAllowed}
use Rattle.sheet.specs.declared.table.Entry.{Entry}
use Rattle.sheet.specs.Entry.{entry_in, fields_of, length_of, pair_wrong, lock_wrong}
use Rattle.sheet.proofs.Fields.{entry_there, says, due_first, due_later}
use Rattle.rules.specs.Move.{long_bytes}
use Rattle.sheet_forms.proofs.OneEntry.{with_offset, fields_moved}
use Rattle.sheet_forms.proofs.Moved.{behind, behind_entry}

-- ---- an allowed sheet: no body begins before the end of the table, and none ends past the sheet's ----

module _ (s : List ℕ) (a : SheetAllowed s) where
  pub table_there : table_end s ≤ length s
  table_there = ltb-false (length s) (table_end s) a.j3

  pub at_due : (i : ℕ) → i < count s → offset_at s i ≡ offset_due s i
  at_due i h = eqb-true (offset_at s i) (offset_due s i) (not-false (eqb (offset_at s i) (offset_due s i)) (a.entries i h).j7)

  pub ends_there : (i : ℕ) → i < count s → body_end s i ≤ length s
  ends_there i h = ltb-false (length s) (body_end s i) (a.entries i h).j8

  due_past : (i : ℕ) → i ≤ count s → table_end s ≤ offset_due s i
  due_past zero h = omega (arith, due_first s 0 refl)
  due_past (suc i) h =
      let e : suc i - 1 ≡ i = omega arith in
      let d = due_later s (suc i) (λ z. omega arith) ∙ ap (body_end s) e in
      omega (arith, d, due_past i (omega arith), at_due i (omega arith))

  pub past : (i : ℕ) → i < count s → table_end s ≤ offset_at s i
  past i h = omega (arith, at_due i h, due_past i (omega arith))

-- ---- moved ----

-- `to` says where a place in the bodies has gone
pub record Shift (to : ℕ → ℕ) (s u : List ℕ) : Type 0 where
  pub counted : count u ≡ count s
  pub table : table_end u ≡ to (table_end s)
  pub size : length u ≡ to (length s)
  pub further : (a b : ℕ) → table_end s ≤ a → to (a + b) ≡ to a + b
  pub entry : (i : ℕ) → i < count s → entry_in u i ≡ with_offset (entry_in s i) (to (offset_at s i))
  pub body : (n : ℕ) → table_end s ≤ n → drop (to n) u ≡ drop n s

-- what entry i of the moved sheet says
pub record Same (to : ℕ → ℕ) (s u : List ℕ) (i : ℕ) : Type 0 where
  pub kind : kind_at u i ≡ kind_at s i
  pub zero : zero_at u i ≡ zero_at s i
  pub pair : (chip : Chip) → J6 chip u i ≡ J6 chip s i
  pub range : (chip : Chip) → range_at chip u i ≡ range_at chip s i
  pub lock : J12 u i ≡ J12 s i
  pub offset : offset_at u i ≡ to (offset_at s i)
  pub length : body_length u i ≡ body_length s i

module _ (to : ℕ → ℕ) (s u : List ℕ) (h : Shift to s u) where
  pub same : (i : ℕ) → i < count s → Same to s u i
  unfolding length_of body_length pair_wrong lock_wrong
  same i l =
      let e = with_offset (entry_in s i) (to (offset_at s i)) in
      let x = says u i e (sym (h.entry i l)) in
      let last : is_last u i ≡ is_last s i = ap (λ (n : ℕ). eqb (i + 1) n) h.counted in
      record {
        kind = sym x.kind;
        zero = sym x.zero;
        pair = λ chip. sym (x.pair chip);
        range = λ chip. ap (λ (y : Entry). range chip y.sad y.ead) (h.entry i l);
        lock = sym x.lock ∙ ap (lock_wrong e) last;
        offset = sym x.offset;
        length = ap (λ (y : Entry). length_of y.kind y.sad y.ead) (h.entry i l);
      }

  module _ (a : SheetAllowed s) where
    pub ends : (i : ℕ) → i < count s → body_end u i ≡ to (body_end s i)
    ends i l =
        let x = same i l in omega (arith, x.offset, x.length, h.further (offset_at s i) (body_length s i) (past s a i l))

    pub due : (i : ℕ) → i ≤ count s → offset_due u i ≡ to (offset_due s i)
    due zero l = due_first u 0 refl ∙ h.table ∙ ap to (sym (due_first s 0 refl))
    due (suc i) l =
        let e : suc i - 1 ≡ i = omega arith in
        due_later u (suc i) (λ z. omega arith)
        ∙ ap (body_end u) e
        ∙ ends i (omega arith)
        ∙ ap to (sym (due_later s (suc i) (λ z. omega arith) ∙ ap (body_end s) e))

-- ---- the entries of a sheet that is put together anew behind another head ----

-- by the places of both heads
pub moved_entry : (to : ℕ → ℕ) (front s u : List ℕ) → u ≡ behind to front s → length front ≡ head_size u → table_end s ≤ length s
    → (i : ℕ) → i < count s → to (offset_at s i) < 4294967296
    → entry_in u i ≡ with_offset (entry_in s i) (to (offset_at s i))
moved_entry to front s u is head table i h small =
    let d = drop (entry_at s i) s in
    let f = behind_entry to front s table i h in
    let n : entry_at u i ≡ length front + 12 * i = omega arith in
    let e : drop (entry_at u i) u ≡ take 8 d ++ (long_bytes (to (offset_at s i)) ++ f.later) =
    ap (λ (k : ℕ). drop k u) n ∙ ap (drop (length front + 12 * i)) is ∙ f.is in
    sym (entry_there u i (drop (entry_at u i) u) refl)
    ∙ ap fields_of e
    ∙ fields_moved d (to (offset_at s i)) f.later (rw length-drop (omega arith)) small
    ∙ ap (λ (x : Entry). with_offset x (to (offset_at s i))) (entry_there s i d refl)
