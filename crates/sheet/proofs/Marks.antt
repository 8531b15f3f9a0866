-- The steps of an accepted sheet over two rows of marks: after each, a block is marked exactly where it stands written, and a step is told exactly
-- where it writes a block that does. Assumes nothing.
use mathlib.Core.Path.{◌≡◌, refl, sym, ap, subst, ◌∙◌}
use mathlib.Core.Bool.{Bool, true, false, cond, ◌&&◌}
use mathlib.Core.List.{List, []}
use Prim.Native.Nat.{ℕ, ◌+◌, ◌-◌, ◌<◌, ◌≤◌}
use native.Mathlib.Numerals.{add-one}
use native.Mathlib.Omega.{arith}
use lib.Dec.{ltb, leb, eqb}
use lib.ListN.{length, get_or, replicate, length-replicate, get_or-replicate, get_or-eq_default}
use borrow.Author.Tests.{lt-ltb, le-ltb, leb-true, leb-false, ne_eqb, eqb-true, eqb-false, ltb-true, ltb-false, not-false}
use Rattle.rules.specs.declared.Chip.{Chip}
use Rattle.rules.specs.declared.Block.{Block}
use Rattle.rules.specs.declared.Flash.{Flash}
use Rattle.rules.specs.declared.Flash.TheVariants.{Code, Data}
use Rattle.rules.specs.Answers.{Range, Blocks, Accepted}
use Rattle.rules.specs.Chip.{Memory, small, large, same_flash, start, flash_size, blocks, blocks_from, flash_of, with_flash, invalid}
use Rattle.rules.specs.Sheet.{form_two, chip_number, against, count, entries_verdict, kind_at, sad_at, ead_at, range_at, last_kind, covers, written, any_from, any_written, writes_again, J13}
use Rattle.rules.proofs.Sheet.{EntryAllowed, entries_allowed}
use Rattle.rules.proofs.WritesTwice.{once_each}
use Rattle.rules.proofs.Choices.{both}
use Rattle.chip_finder.specs.LentFlashes.{memory}
use Rattle.chip_finder.proofs.Held.{valid_held}
use Rattle.sheet_marks.specs.Marks.{cleared, Marked, marked}
use Rattle.sheet_marks.proofs.Rows.{Stand, among, cleared_stand, cleared_length, marked_again, marked_stand, marked_length}
use Rattle.sheet.specs.declared.table.Entry.{Entry}
use Rattle.sheet.specs.Entry.{entry_in, fields_of, IsTable}
use Rattle.sheet_marks.specs.Taken.{row_taken, Taken, step_taken}
use Rattle.sheet.specs.Taken.{entry_taken}
use Rattle.sheet.proofs.Ranges.{Ranged, ranged}

-- ---- a step more: what stands written after it ----

module _ (s : List ℕ) (i : ℕ) (f : Flash) (b : ℕ) where
  pub next_erase : kind_at s i ≡ 1 → written s f b (i + 1) ≡ cond (covers (range_at (against s) s i) f b) false (written s f b i)
  unfolding written
  next_erase e = rw (add-one i, e)

  pub next_write : kind_at s i ≡ 2 → written s f b (i + 1) ≡ cond (covers (range_at (against s) s i) f b) true (written s f b i)
  unfolding written
  next_write e = rw (add-one i, e)

  pub next_other : 2 < kind_at s i → written s f b (i + 1) ≡ written s f b i
  unfolding written
  next_other h = rw (add-one i, ne_eqb (kind_at s i) 2 (λ e. omega arith), ne_eqb (kind_at s i) 1 (λ e. omega arith))

-- and whether a write writes a block again
again_write : (s : List ℕ) (i : ℕ) → kind_at s i ≡ 2 → writes_again s i ≡ any_written s i (range_at (against s) s i)
again_write s i e = rw e

-- ---- one row ----

-- the blocks from a to z
spanned : (a z x : ℕ) → a ≤ z → among a (z + 1 - a) x ≡ (leb a x && leb x z)
spanned a z x h = ap (λ (t : Bool). leb a x && t) (go (leb x z) refl)
  where
    go : (t : Bool) → leb x z ≡ t → ltb x (a + (z + 1 - a)) ≡ t
    go true e = let l = leb-true x z e in lt-ltb x (a + (z + 1 - a)) (omega arith)
    go false e = let l = leb-false x z e in le-ltb x (a + (z + 1 - a)) (omega arith)

-- what becomes of a row: `to` says whether the blocks then stand written
record RowNext (to : Bool) (first last : Block) (p : ℕ → Bool) (row : List ℕ) (t : Marked) : Type 0 where
  again : t.again ≡ (to && any_from p first.0 (blocks_from first last))
  size : length t.row ≡ length row
  stand : t.again ≡ false → Stand t.row (λ x. cond (leb first.0 x && leb x last.0) to (p x))

module _ (first last : Block) (row : List ℕ) (p : ℕ → Bool) (forward : first.0 ≤ last.0) (there : last.0 < length row) (h : Stand row p) where
  by_ends : (to : Bool) (r : List ℕ) → Stand r (λ x. cond (among first.0 (blocks_from first last) x) to (p x))
      → Stand r (λ x. cond (leb first.0 x && leb x last.0) to (p x))
  by_ends to r g x = g x ∙ ap (λ (t : Bool). cond (cond t to (p x)) 1 0) (spanned first.0 last.0 x forward)

  row_erased : RowNext false first last p row (row_taken 1 first last row)
  unfolding row_taken
  row_erased =
      record {
        again = refl;
        size = cleared_length (blocks_from first last) first.0 row;
        stand = λ n. by_ends false (cleared first.0 (blocks_from first last) row) (cleared_stand (blocks_from first last) first.0 row p (omega arith) h);
      }

  row_written : RowNext true first last p row (row_taken 2 first last row)
  unfolding row_taken
  row_written =
      record {
        again = marked_again (blocks_from first last) first.0 row p (omega arith) h;
        size = marked_length (blocks_from first last) first.0 row;
        stand = λ n. by_ends true (marked first.0 (blocks_from first last) row).row (marked_stand (blocks_from first last) first.0 row p (omega arith) h n);
      }

-- ---- both rows ----

-- before step i every block is marked exactly where it stands written
pub record Marks (s : List ℕ) (i : ℕ) (m : Memory) : Type 0 where
  pub code : length m.code ≡ 64
  pub dat : length m.«data» ≡ 32
  pub stand : (f : Flash) → Stand (flash_of m f) (λ b. written s f b i)

-- step i is told exactly where it writes a block again, and where it is not, the marks are those before the next
pub record Next (s : List ℕ) (i : ℕ) (t : Taken) : Type 0 where
  pub again : t.again ≡ writes_again s i
  pub marks : t.again ≡ false → Marks s (i + 1) t.rows

module _ (s : List ℕ) (i : ℕ) (m : Memory) (before : Marks s i m) (to : Bool) (first last : Block) where
  -- the flash that the step is in, and the other
  rows_stand : (g f : Flash) (r : List ℕ) → Stand r (λ x. cond (leb first.0 x && leb x last.0) to (written s g x i))
      → ((b : ℕ) → written s f b (i + 1) ≡ cond (covers (Blocks g first last) f b) to (written s f b i))
      → Stand (flash_of (with_flash m g r) f) (λ b. written s f b (i + 1))
  unfolding same_flash
  rows_stand Code Code r new next x = new x ∙ ap (λ (t : Bool). cond t 1 0) (sym (next x))
  rows_stand Code Data r new next x = before.stand Data x ∙ ap (λ (t : Bool). cond t 1 0) (sym (next x))
  rows_stand Data Code r new next x = before.stand Code x ∙ ap (λ (t : Bool). cond t 1 0) (sym (next x))
  rows_stand Data Data r new next x = new x ∙ ap (λ (t : Bool). cond t 1 0) (sym (next x))

  code_kept : (g : Flash) (r : List ℕ) → length r ≡ length (flash_of m g) → length (with_flash m g r).code ≡ 64
  code_kept Code r e = e ∙ before.code
  code_kept Data r e = before.code

  data_kept : (g : Flash) (r : List ℕ) → length r ≡ length (flash_of m g) → length (with_flash m g r).«data» ≡ 32
  data_kept Code r e = before.dat
  data_kept Data r e = e ∙ before.dat

  step_next : (kind : ℕ) (g : Flash) → RowNext to first last (λ b. written s g b i) (flash_of m g) (row_taken kind first last (flash_of m g))
      → writes_again s i ≡ (to && any_from (λ b. written s g b i) first.0 (blocks_from first last))
      → ((f : Flash) (b : ℕ) → written s f b (i + 1) ≡ cond (covers (Blocks g first last) f b) to (written s f b i))
      → Next s i (step_taken kind (Blocks g first last) m)
  unfolding step_taken
  step_next kind g row again next =
      record {
        again = row.again ∙ sym again;
        marks = λ n.
            record {
              code = code_kept g (row_taken kind first last (flash_of m g)).row row.size;
              dat = data_kept g (row_taken kind first last (flash_of m g)).row row.size;
              stand = λ f. rows_stand g f (row_taken kind first last (flash_of m g)).row (row.stand n) (next f);
            };
      }

-- ---- the chip that a sheet names ----

record Roomy (chip : Chip) : Type 0 where
  code : flash_size chip Code ≤ start Data
  dat : start Data + flash_size chip Data ≤ 16777216
  code_marks : chip.code ≤ 64
  data_marks : chip.«data» ≤ 32

roomy : (s : List ℕ) → Roomy (against s)
unfolding against
roomy s = go (form_two s && eqb (chip_number s) 2)
  where
    go : (b : Bool) → Roomy (cond b large small)
    go true = record { code = omega arith; dat = omega arith; code_marks = omega arith; data_marks = omega arith }
    go false = record { code = omega arith; dat = omega arith; code_marks = omega arith; data_marks = omega arith }

-- ---- an entry ----

module _ (s : List ℕ) (i : ℕ) (m : Memory) (a : EntryAllowed (against s) s i) (before : Marks s i m) where
  marks_enough : (f : Flash) → blocks (against s) f ≤ length (flash_of m f)
  marks_enough Code = omega (arith, (roomy s).code_marks, before.code)
  marks_enough Data = omega (arith, (roomy s).data_marks, before.dat)

  some_kind : 1 ≤ kind_at s i
  some_kind = leb-true 1 (kind_at s i) (both (leb 1 (kind_at s i)) (leb (kind_at s i) (last_kind s)) (not-false (leb 1 (kind_at s i) && leb (kind_at s i) (last_kind s)) a.j4)).0

  -- an erase and a write name blocks
  named : kind_at s i ≤ 2 → Ranged (against s) (sad_at s i) (ead_at s i)
  named l = ranged (against s) (sad_at s i) (ead_at s i) (rw (ne_eqb (kind_at s i) 6 (λ e. omega arith)) at a.j6)

  taken_as_lem : (r : Ranged (against s) (sad_at s i) (ead_at s i)) (k : ℕ) → k ≤ 2 → kind_at s i ≡ k
      → entry_taken (entry_in s i) m ≡ step_taken k (Blocks r.flash r.first r.last) m
  unfolding entry_taken
  taken_as_lem r k l e =
      let h = valid_held (against s) (sad_at s i) (ead_at s i) (roomy s).code (roomy s).dat (ap invalid r.is) ∙ r.is in
      rw (e, le-ltb 2 k l, h)

  entry_erase : kind_at s i ≡ 1 → Next s i (entry_taken (entry_in s i) m)
  entry_erase e =
      let r = named (omega arith) in
      let there : r.last.0 < length (flash_of m r.flash) = omega (arith, r.there, marks_enough r.flash) in
      subst (Next s i) (sym (taken_as_lem r 1 (omega arith) e))
      (step_next s i m before false r.first r.last 1 r.flash
      (row_erased r.first r.last (flash_of m r.flash) (λ b. written s r.flash b i) r.forward there (before.stand r.flash))
      (rw e)
      (λ f b. next_erase s i f b e ∙ ap (λ (x : Range). cond (covers x f b) false (written s f b i)) r.is))

  entry_write : kind_at s i ≡ 2 → Next s i (entry_taken (entry_in s i) m)
  entry_write e =
      let r = named (omega arith) in
      let there : r.last.0 < length (flash_of m r.flash) = omega (arith, r.there, marks_enough r.flash) in
      subst (Next s i) (sym (taken_as_lem r 2 (omega arith) e))
      (step_next s i m before true r.first r.last 2 r.flash
      (row_written r.first r.last (flash_of m r.flash) (λ b. written s r.flash b i) r.forward there (before.stand r.flash))
      (again_write s i e ∙ ap (any_written s i) r.is)
      (λ f b. next_write s i f b e ∙ ap (λ (x : Range). cond (covers x f b) true (written s f b i)) r.is))

  entry_other : 2 < kind_at s i → Next s i (entry_taken (entry_in s i) m)
  unfolding entry_taken
  entry_other l =
      rw (lt-ltb 2 (kind_at s i) l)
      (record {
        again = sym (rw (ne_eqb (kind_at s i) 2 (λ e. omega arith)));
        marks = λ n.
            record {
              code = before.code;
              dat = before.dat;
              stand = λ f x. before.stand f x ∙ ap (λ (t : Bool). cond t 1 0) (sym (next_other s i f x l));
            };
      })

  pub entry_next : Next s i (entry_taken (entry_in s i) m)
  entry_next = go (eqb (kind_at s i) 1) (eqb (kind_at s i) 2) refl refl
    where
      go : (t u : Bool) → eqb (kind_at s i) 1 ≡ t → eqb (kind_at s i) 2 ≡ u → Next s i (entry_taken (entry_in s i) m)
      go true u p q = entry_erase (eqb-true (kind_at s i) 1 p)
      go false true p q = entry_write (eqb-true (kind_at s i) 2 q)
      go false false p q =
          let x = eqb-false (kind_at s i) 1 p in
          let y = eqb-false (kind_at s i) 2 q in
          entry_other (omega (arith, some_kind))

-- ---- before the first step, and from any step on ----

all_free : (n x : ℕ) → ◌≡◌ {A = ℕ} (get_or (replicate n 0) x 0) 0
all_free n x = go (ltb x n) refl
  where
    go : (t : Bool) → ltb x n ≡ t → ◌≡◌ {A = ℕ} (get_or (replicate n 0) x 0) 0
    go true e = get_or-replicate n x 0 0 (ltb-true x n e)
    go false e = let l = ltb-false x n e in get_or-eq_default (replicate n 0) 0 (rw (length-replicate {A = ℕ} n 0) (omega arith))

pub marks_first : (s : List ℕ) (m : Memory) → m.code ≡ replicate 64 0 → m.«data» ≡ replicate 32 0 → Marks s 0 m
unfolding written
marks_first s m c d =
    record { code = ap length c ∙ length-replicate {A = ℕ} 64 0; dat = ap length d ∙ length-replicate {A = ℕ} 32 0; stand = stand }
  where
    stand : (f : Flash) → Stand (flash_of m f) (λ b. written s f b 0)
    stand Code x = ap (λ (r : List ℕ). get_or r x 0) c ∙ all_free 64 x
    stand Data x = ap (λ (r : List ℕ). get_or r x 0) d ∙ all_free 32 x

module _ (p : ℕ → Bool) (n : ℕ) where
  pub none_again : (left : ℕ) → left ≡ 0 → any_from p n left ≡ false
  unfolding any_from
  none_again left e = rw e

  module _ (left rest : ℕ) (more : left ≡ rest + 1) where
    pub one_again : p n ≡ true → any_from p n left ≡ true
    unfolding any_from
    one_again e = rw (more, add-one rest, e)

    pub one_once : p n ≡ false → any_from p n left ≡ any_from p (n + 1) rest
    unfolding any_from
    one_once e = rw (more, add-one rest, e)

-- one step alone writes no block again
pub too_few : (s : List ℕ) → count s < 2 → J13 s ≡ false
too_few s h = once_each s (λ i j f b l m w v. omega arith)

-- ---- the entries one after another ----

-- what is to be judged: the entries of a sheet, all accepted, and nothing marked yet
pub record Asked (s : List ℕ) (table : List (List ℕ)) (code dat : List ℕ) : Type 0 where
  pub table_is : IsTable s table
  pub accepted : entries_verdict (against s) s 0 (count s) ≡ Accepted
  pub code_free : code ≡ replicate 64 0
  pub data_free : dat ≡ replicate 32 0

-- before entry i: the marks, and that the entries from there on decide
pub record Going (s : List ℕ) (i : ℕ) (m : Memory) : Type 0 where
  pub marks : Marks s i m
  pub rest : J13 s ≡ any_from (writes_again s) i (count s - i)

module _ (s : List ℕ) (table : List (List ℕ)) (code dat : List ℕ) (asked : Asked s table code dat) where
  pub going_first : Going s 0 (memory code dat)
  going_first =
      record {
        marks = marks_first s (memory code dat) asked.code_free asked.data_free;
        rest = ap (any_from (writes_again s) 0) (omega arith);
      }

  module _ (i : ℕ) (m : Memory) (going : Going s i m) (l : i < length table) (t : Taken) where
    some_entry : i < count s
    some_entry = omega (arith, asked.table_is.0)

    -- the entry as it is read
    pub going_next : (e : Entry) → e ≡ fields_of (get_or table i []) → t ≡ entry_taken e m → Next s i t
    going_next e h told =
        let allowed = entries_allowed (against s) s 0 (count s) asked.accepted i (omega arith) (omega (arith, some_entry)) in
        subst (Next s i) (sym (told ∙ ap (λ (x : Entry). entry_taken x m) (h ∙ asked.table_is.1 i [] some_entry))) (entry_next s i m allowed going.marks)

    pub ends_again : Next s i t → t.again ≡ true → J13 s ≡ true
    ends_again x h = going.rest ∙ one_again (writes_again s) i (count s - i) (count s - (i + 1)) (omega (arith, some_entry)) (sym x.again ∙ h)

    pub goes_on_lem : Next s i t → t.again ≡ false → Going s (i + 1) t.rows
    goes_on_lem x h =
        record {
          marks = x.marks h;
          rest = going.rest ∙ one_once (writes_again s) i (count s - i) (count s - (i + 1)) (omega (arith, some_entry)) (sym x.again ∙ h);
        }

  pub ends_once : (i : ℕ) (m : Memory) → Going s i m → length table ≤ i → J13 s ≡ false
  ends_once i m g l = g.rest ∙ none_again (writes_again s) i (count s - i) (omega (arith, asked.table_is.0))
