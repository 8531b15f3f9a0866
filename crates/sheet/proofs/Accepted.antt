-- Laws of an accepted sheet: its steps name blocks that are there, and their bodies lie inside it. Assumes nothing.
use mathlib.Core.Path.{◌≡◌, refl, sym, ap, subst, ◌∙◌}
use mathlib.Core.Bool.{Bool, true, false, cond, not, ◌&&◌, false≢true}
use mathlib.Core.List.{List}
use Prim.Native.Nat.{ℕ, ◌+◌, ◌-◌, ◌*◌, ◌<◌, ◌≤◌}
use native.Mathlib.Omega.{arith}
use lib.Dec.{ltb, leb, eqb}
use lib.ListN.{length, drop, length-drop}
use lib.Seq.{length-take-le}
use borrow.Author.Tests.{ltb-false, leb-true, eqb-true, eqb-false, eq-eqb, ne_eqb, not-false}
use Rattle.chip_finder.proofs.Geometry.{blocks_in_pages}
use Rattle.rules.specs.declared.Chip.{Chip}
use Rattle.rules.specs.declared.Block.{Block}
use Rattle.rules.specs.declared.Flash.{Flash}
use Rattle.rules.specs.declared.Flash.TheVariants.{Code}
use Rattle.rules.specs.declared.Kind.TheVariants.{Erase, Write, Verify, Sum, Blank, Lock}
use Rattle.rules.specs.Answers.{Range, Blocks, Invalid, Accepted}
use Rattle.rules.specs.declared.Step.{Step}
use Rattle.rules.specs.Chip.{small, large, block, blocks, blocks_from, block_size, page_size, invalid}
use Rattle.rules.specs.Sheet.{form_two, chip_number, two, one, against, head_size, count, table_end, most_bytes, last_kind, kind_at, sad_at, ead_at, flags_at, is_lock, filled, clears, is_last, offset_at, offset_due, range_at, J6, J12, body_length, body_end, verdict, kind_of, step_of, step_at, step_blocks, step_pages, body_page}
use Rattle.rules.specs.Numbers.{kind_number}
use Rattle.rules.proofs.Sheet.{EntryAllowed, sheet_accepted, accepted_allowed, chip_named_lem}
use Rattle.rules.proofs.WritesTwice.{Twice, twice_J13}
use Rattle.rules.proofs.Choices.{both, neither}
use Rattle.sheet.specs.Answers.{Is}
use Rattle.sheet.specs.Reading.{reading_at}
use Rattle.sheet.specs.Entry.{length_of}
use Rattle.sheet.proofs.Fields.{one_span}
use Rattle.sheet.proofs.Ranges.{ranged}
use Rattle.sheet.proofs.Verdicts.{step_there}

-- ---- the number of a kind ----

pub kind_number_lem : (k : ℕ) → 1 ≤ k → k ≤ 6 → kind_number (kind_of k) ≡ k
kind_number_lem k low high = go (eqb k 1) (eqb k 2) (eqb k 3) (eqb k 5) (eqb k 6) refl refl refl refl refl
  where
    go : (a b c d e : Bool) → eqb k 1 ≡ a → eqb k 2 ≡ b → eqb k 3 ≡ c → eqb k 5 ≡ d → eqb k 6 ≡ e
        → kind_number (cond a Erase (cond b Write (cond c Verify (cond d Blank (cond e Lock Sum))))) ≡ k
    go true b c d e p q r s t = sym (eqb-true k 1 p)
    go false true c d e p q r s t = sym (eqb-true k 2 q)
    go false false true d e p q r s t = sym (eqb-true k 3 r)
    go false false false true e p q r s t = sym (eqb-true k 5 s)
    go false false false false true p q r s t = sym (eqb-true k 6 t)
    go false false false false false p q r s t =
        omega (arith, eqb-false k 1 p, eqb-false k 2 q, eqb-false k 3 r, eqb-false k 5 s, eqb-false k 6 t)

-- and of a kind that a sheet may have
last_kind_lem : (s : List ℕ) → last_kind s ≤ 6
unfolding last_kind
last_kind_lem s = go (form_two s)
  where
    go : (b : Bool) → (cond b two one).kinds ≤ 6
    go true = omega arith
    go false = omega arith

-- ---- the head ----

-- what is known of the bytes of an accepted sheet
pub record Whole (s : List ℕ) (room : ℕ) : Type 0 where
  pub steps : count s ≤ 64
  pub sums : count s ≤ room
  pub bytes : length s ≤ most_bytes s
  pub table : table_end s ≤ length s
  pub end : length s ≡ offset_due s (count s)

-- ---- a step ----

-- the body of a step lies inside the sheet
abbrev pub Inside : List ℕ → Step → Type 0
Inside s t = t.body + step_blocks t * block_size t.flash ≤ length s

-- what is known of step i, `t`
pub record Sound (chip : Chip) (s : List ℕ) (i : ℕ) (t : Step) : Type 0 where
  pub kind_low : 1 ≤ kind_at s i
  pub kind_high : kind_at s i ≤ last_kind s
  pub kind : t.kind ≡ kind_of (kind_at s i)
  pub body : t.body ≡ offset_at s i
  pub offset : offset_at s i ≡ offset_due s i
  pub forward : t.first.0 ≤ t.last.0
  pub there : t.last.0 < blocks chip t.flash
  pub some : 1 ≤ step_blocks t
  pub starts : t.body ≤ length s
  pub write : t.kind ≡ Write → Inside s t
  pub verify : t.kind ≡ Verify → Inside s t
  pub ends : t.kind ≡ Lock → clears t.flags ≡ true → i + 1 ≡ count s

-- where a step lies: its pair is a range, or it is a lock, which is given the first code block
record Placed (chip : Chip) (s : List ℕ) (i : ℕ) : Type 0 where
  flash : Flash
  first : Block
  last : Block
  is : step_at chip s i ≡ record { kind = kind_of (kind_at s i); flash = flash; first = first; last = last; flags = flags_at s i; body = offset_at s i }
  forward : first.0 ≤ last.0
  there : last.0 < blocks chip flash
  bytes : is_lock s i ≡ false → (ead_at s i).0 - (sad_at s i).0 + 1 ≡ blocks_from first last * block_size flash

none : (r : Range) → invalid r ≡ true → r ≡ Invalid
none (Blocks f a b) e = absurd (false≢true e)
none Invalid e = refl

placed : (chip : Chip) (s : List ℕ) (i : ℕ) → 0 < blocks chip Code → J6 chip s i ≡ false → Placed chip s i
unfolding step_at step_of
placed chip s i some e = go (invalid (range_at chip s i)) refl
  where
    go : (b : Bool) → invalid (range_at chip s i) ≡ b → Placed chip s i
    go false h =
        let r = ranged chip (sad_at s i) (ead_at s i) h in
        record {
          flash = r.flash;
          first = r.first;
          last = r.last;
          is = rw r.is;
          forward = r.forward;
          there = r.there;
          bytes = λ _. r.bytes;
        }
    go true h =
        record {
          flash = Code;
          first = block 0;
          last = block 0;
          is = rw (none (range_at chip s i) h);
          forward = omega arith;
          there = some;
          bytes = λ l. absurd (false≢true (sym (rw (l, h) at e)));
        }

body_length_lem : (s : List ℕ) (i : ℕ) → 2 ≤ kind_at s i → kind_at s i ≤ 3 → body_length s i ≡ (ead_at s i).0 - (sad_at s i).0 + 1
unfolding body_length length_of
body_length_lem s i h g = one_span (kind_at s i) (sad_at s i) (ead_at s i) h g

-- a lock that clears IFPR stands last
lock_ends : (s : List ℕ) (i : ℕ) → J12 s i ≡ false → is_lock s i ≡ true → clears (flags_at s i) ≡ true → i + 1 ≡ count s
lock_ends s i e l c =
    let n = neither (clears (flags_at s i) && not (is_last s i)) (not (filled s i)) (rw l at e) in
    eqb-true (i + 1) (count s) (not-false (is_last s i) (rw c at n.0))

pub entry_sound : (chip : Chip) (s : List ℕ) (i : ℕ) → 0 < blocks chip Code → EntryAllowed chip s i → Sound chip s i (step_at chip s i)
entry_sound chip s i code a =
    let r = placed chip s i code a.j6 in
    let k = both (leb 1 (kind_at s i)) (leb (kind_at s i) (last_kind s)) (not-false (leb 1 (kind_at s i) && leb (kind_at s i) (last_kind s)) a.j4) in
    let low : 1 ≤ kind_at s i = leb-true 1 (kind_at s i) k.0 in
    let high : kind_at s i ≤ last_kind s = leb-true (kind_at s i) (last_kind s) k.1 in
    let numbered = kind_number_lem (kind_at s i) low (omega (arith, last_kind_lem s)) in
    let end : body_end s i ≤ length s = ltb-false (length s) (body_end s i) a.j8 in
    let inside : 2 ≤ kind_at s i → kind_at s i ≤ 3 → offset_at s i + (r.last.0 + 1 - r.first.0) * block_size r.flash ≤ length s =
    λ g h. omega (arith, r.bytes (ne_eqb (kind_at s i) 6 (λ z. omega arith)), body_length_lem s i g h) in
    rw r.is
    (record {
      kind_low = low;
      kind_high = high;
      kind = refl;
      body = refl;
      offset = eqb-true (offset_at s i) (offset_due s i) (not-false (eqb (offset_at s i) (offset_due s i)) a.j7);
      some = omega (arith, r.forward);
      forward = r.forward;
      there = r.there;
      starts = omega arith;
      write = λ w. inside (omega (arith, numbered, ap kind_number w)) (omega (arith, numbered, ap kind_number w));
      verify = λ v. inside (omega (arith, numbered, ap kind_number v)) (omega (arith, numbered, ap kind_number v));
      ends = λ l. lock_ends s i a.j12 (eq-eqb (kind_at s i) 6 (omega (arith, numbered, ap kind_number l)));
    })

-- ---- the sheet ----

-- the chip that a sheet names has code flash
some_code : (s : List ℕ) → 0 < blocks (against s) Code
unfolding against
some_code s = go (form_two s && eqb (chip_number s) 2)
  where
    go : (b : Bool) → 0 < (cond b large small).code
    go true = omega arith
    go false = omega arith

module _ (chip : Chip) (s : List ℕ) (room : ℕ) (ok : verdict chip s room ≡ Accepted) where
  pub whole : Whole s room
  whole =
      let a = accepted_allowed chip s room ok in
      record {
        steps = ltb-false 64 (count s) a.sheet.j2;
        sums = ltb-false room (count s) a.j10;
        bytes = ltb-false (most_bytes s) (length s) (neither (ltb (length s) (head_size s)) (ltb (most_bytes s) (length s)) a.sheet.j1).1;
        table = ltb-false (length s) (table_end s) a.sheet.j3;
        end = eqb-true (length s) (offset_due s (count s)) (not-false (eqb (length s) (offset_due s (count s))) a.sheet.j9);
      }

  -- no two of its write steps cover one page, with no erase of that page's block between them
  pub writes_once : Twice s → ⊥
  writes_once t = false≢true (sym (accepted_allowed chip s room ok).sheet.j13 ∙ twice_J13 s t)

  -- it is judged against the chip that it names, and that is the chip it is for
  pub sound : (i : ℕ) → i < count s → Sound chip s i (step_at chip s i)
  sound i h =
      subst (λ (c : Chip). Sound c s i (step_at c s i)) (chip_named_lem chip s room ok)
      (entry_sound (against s) s i (some_code s) ((accepted_allowed chip s room ok).sheet.entries i h))

  -- each of its steps is read
  pub step_read : (i : ℕ) → i < count s → reading_at s i ≡ Is (step_at chip s i)
  step_read i h =
      step_there s i (sheet_accepted chip s room ok) h ∙ ap (λ (c : Chip). Is (step_at c s i)) (chip_named_lem chip s room ok)

-- ---- the pages of a body ----

module _ (s : List ℕ) (t : Step) (h : Inside s t) (k : ℕ) (l : k < step_pages t) where
  pub page_inside : t.body + k * page_size + page_size ≤ length s
  page_inside = omega (arith, blocks_in_pages t.flash (step_blocks t))

  pub page_length : length (body_page s t k) ≡ page_size
  page_length = length-take-le page_size (drop (t.body + k * page_size) s) (rw length-drop (omega (arith, page_inside)))
