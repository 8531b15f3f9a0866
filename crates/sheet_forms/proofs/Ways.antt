-- The way up and the way down: where everything of the sheet has gone. Assumes nothing.
use mathlib.Core.Path.{◌≡◌, refl, sym, ap, ◌∙◌}
use mathlib.Core.Bool.{true, false}
use mathlib.Core.List.{List, ◌∷◌, ◌++◌}
use Prim.Native.Nat.{ℕ, ◌+◌, ◌-◌, ◌<◌, ◌≤◌}
use native.Mathlib.Omega.{arith}
use lib.Dec.{ltb}
use lib.ListN.{length, take, drop, length-drop, get_or-append}
use lib.Seq.{length-take-le, get_or-take, get_or-drop}
use borrow.Author.Tests.{ltb-false, le-ltb}
use Rattle.rules.specs.Chip.{byte_at}
use Rattle.rules.specs.Sheet.{form_two, chip_number, head_size, most_bytes, count, table_end, kind_at, J1, J11}
use Rattle.rules.specs.Move.{entries_moved, moved_up, moved_down, is_new}
use Rattle.rules.proofs.Choices.{neither}
use Rattle.rules.proofs.Sheet.{SheetAllowed}
use Rattle.sheet_forms.proofs.Heads.{head_one, count_one, most_one, kinds_one, against_one, head_two, count_two, most_two, kinds_two, against_two, not_two}
use Rattle.sheet_forms.proofs.Moved.{behind_body, front_up, up_length, front_down, down_length}
use Rattle.sheet_forms.proofs.Shifted.{Shift, same, table_there, ends_there, moved_entry}
use Rattle.sheet_forms.proofs.Allowed.{kind_kept, not_new, none_new, carried}

-- the first two bytes of a list, before others
front_byte : (s later : List ℕ) (k : ℕ) → 2 ≤ length s → k < 2 → byte_at (take 2 s ++ later) k ≡ byte_at s k
front_byte s later k h l =
    get_or-append (take 2 s) later 0 k (omega (arith, length-take-le 2 s h)) ∙ get_or-take 2 s k 0 l

-- the size of an allowed sheet
sized : (s : List ℕ) → SheetAllowed s → (head_size s ≤ length s) × (length s ≤ most_bytes s)
sized s a =
    let n = neither (ltb (length s) (head_size s)) (ltb (most_bytes s) (length s)) a.j1 in
    (ltb-false (length s) (head_size s) n.0, ltb-false (most_bytes s) (length s) n.1)

size_kept : (s : List ℕ) → head_size s ≤ length s → length s ≤ most_bytes s → J1 s ≡ false
size_kept s p q = rw (le-ltb (length s) (head_size s) p, le-ltb (most_bytes s) (length s) q)

-- ---- up ----

-- whatever is moved up: form 2, for chip 1
pub up_form : (s : List ℕ) → form_two (moved_up s) ≡ true
unfolding moved_up form_two
up_form s = refl

pub up_chip : (s : List ℕ) → chip_number (moved_up s) ≡ 1
unfolding moved_up
up_chip s = refl

up_named : (s : List ℕ) → J11 (moved_up s) ≡ false
unfolding moved_up form_two
up_named s = refl

module _ (s : List ℕ) (form : form_two s ≡ false) (a : SheetAllowed s) where
  up_count : count (moved_up s) ≡ count s
  unfolding moved_up
  up_count =
      let x = entries_moved (λ n. n + 4) s 0 (count s) ++ drop (table_end s) s in
      let h : 2 ≤ length s = omega (arith, (sized s a).0, head_one s form) in
      count_two (moved_up s) (up_form s)
      ∙ rw (front_byte s x 0 h (omega arith), front_byte s x 1 h (omega arith)) (sym (count_one s form))

  pub up_shift : Shift (λ n. n + 4) s (moved_up s)
  unfolding moved_up
  up_shift =
      let t = table_there s a in
      let one = head_one s form in
      let two = head_two (moved_up s) (up_form s) in
      let front : List ℕ = 0xFE ∷ 0x02 ∷ 0x01 ∷ 0x00 ∷ take 2 s in
      let f = front_up s form t in
      record {
        counted = up_count;
        table = omega (arith, one, two, up_count);
        size = up_length s form t;
        further = λ n m h. omega arith;
        entry =
            λ i l. moved_entry (λ n. n + 4) front s (moved_up s) refl (f ∙ sym two) t i l
            (omega (arith, ends_there s a i l, (sized s a).1, most_one s form));
        body =
            λ n h. let e : n + 4 ≡ length front + n - head_size s = omega (arith, one, f) in
            ap (λ (k : ℕ). drop k (moved_up s)) e ∙ behind_body (λ m. m + 4) front s t n h;
      }

  pub up_allowed : SheetAllowed (moved_up s)
  up_allowed =
      let u = moved_up s in
      let g = up_form s in
      let z = sized s a in
      let n = up_length s form (table_there s a) in
      carried (λ n. n + 4) s u up_shift a
      (size_kept u (omega (arith, head_one s form, head_two u g)) (omega (arith, most_one s form, most_two u g)))
      (up_named s)
      (λ i l. omega (arith, (kind_kept s a i l).1, kinds_one s form, kinds_two u g))
      (against_two u g (up_chip s) ∙ sym (against_one s form))

  pub up_kinds : (i : ℕ) → i < count (moved_up s) → is_new (kind_at (moved_up s) i) ≡ false
  up_kinds i l =
      let h : i < count s = omega (arith, up_count) in
      ap is_new (same (λ n. n + 4) s (moved_up s) up_shift i h).kind
      ∙ not_new (kind_at s i) (omega (arith, (kind_kept s a i h).1, kinds_one s form))

-- ---- down ----

module _ (s : List ℕ) (form : form_two s ≡ true) (a : SheetAllowed s) where
  down_byte : (k : ℕ) → k < 2 → byte_at (moved_down s) k ≡ byte_at s (4 + k)
  unfolding moved_down
  down_byte k h =
      let x = entries_moved (λ n. n - 4) s 0 (count s) ++ drop (table_end s) s in
      front_byte (drop 4 s) x k (rw length-drop (omega (arith, (sized s a).0, head_two s form))) h ∙ get_or-drop 4 s k 0

  pub down_form : form_two (moved_down s) ≡ false
  down_form =
      not_two (moved_down s)
      (omega (arith, down_byte 0 (omega arith), count_two s form, ltb-false 64 (count s) a.j2))

  down_count : count (moved_down s) ≡ count s
  down_count =
      count_one (moved_down s) down_form
      ∙ rw (down_byte 0 (omega arith), down_byte 1 (omega arith)) (sym (count_two s form))

  pub down_shift : Shift (λ n. n - 4) s (moved_down s)
  unfolding moved_down
  down_shift =
      let t = table_there s a in
      let two = head_two s form in
      let one = head_one (moved_down s) down_form in
      let front = take 2 (drop 4 s) in
      let f = front_down s form t in
      record {
        counted = down_count;
        table = omega (arith, one, two, down_count);
        size = down_length s form t;
        further = λ n m h. omega (arith, two);
        entry =
            λ i l. moved_entry (λ n. n - 4) front s (moved_down s) refl (f ∙ sym one) t i l
            (omega (arith, ends_there s a i l, (sized s a).1, most_two s form));
        body =
            λ n h. let e : n - 4 ≡ length front + n - head_size s = omega (arith, two, f) in
            ap (λ (k : ℕ). drop k (moved_down s)) e ∙ behind_body (λ m. m - 4) front s t n h;
      }

  down_named : J11 (moved_down s) ≡ false
  down_named = rw down_form

  pub down_allowed : chip_number s ≡ 1 → ((i : ℕ) → i < count s → is_new (kind_at s i) ≡ false) → SheetAllowed (moved_down s)
  down_allowed chip kinds =
      let u = moved_down s in
      let g = down_form in
      let z = sized s a in
      let n = down_length s form (table_there s a) in
      carried (λ n. n - 4) s u down_shift a
      (size_kept u (omega (arith, head_two s form, head_one u g)) (omega (arith, most_two s form, most_one u g)))
      down_named
      (λ i l. omega (arith, none_new (kind_at s i) (omega (arith, (kind_kept s a i l).1, kinds_two s form)) (kinds i l), kinds_one u g))
      (against_one u g ∙ sym (against_two s form chip))
