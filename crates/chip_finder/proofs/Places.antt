-- Laws of places: where the parts from first to last lie in a flash, and what is cut out or put in there. Assumes nothing.
use mathlib.Core.Path.{◌≡◌, refl, sym, ap, ◌∙◌}
use mathlib.Core.Bool.{true, false, ◌&&◌, and-true}
use mathlib.Core.List.{List, []}
use Prim.Native.Nat.{ℕ, ◌+◌, ◌-◌, ◌*◌, ◌<◌, ◌≤◌}
use native.Mathlib.Nat.{mul-le-mul, mul-le-mul_right, suc-mul, mul_comm, mul-sub, add-sub_cancel_left, one-mul}
use native.Mathlib.Numerals.{add-one}
use native.Mathlib.Omega.{arith}
use lib.Dec.{ltb, leb, eqb}
use lib.ListN.{length, take, drop}
use borrow.Author.Tests.{eq-eqb, ne_eqb, lt-ltb, le-ltb, le-leb, lt-leb, eqb-true, ltb-true, leb-true}
use borrow.Rule.Slice.PartMut.{put_mid}
use Rattle.rules.proofs.Answers.{pair_parts}
use Rattle.rules.specs.declared.Chip.{Chip}
use Rattle.rules.specs.declared.Flash.{Flash}
use Rattle.rules.specs.declared.Block.{Block}
use Rattle.rules.specs.Chip.{Memory, block_size, blocks, flash_of, part_of, put_part, shown}
use Rattle.chip_finder.specs.Answers.{Bytes, Missing}
use Rattle.chip_finder.specs.LentFlashes.{range_shown}
use Rattle.chip_finder.specs.OneFlash.{is_there, are_there, place_of, parts_shown}
use Rattle.rules.proofs.Choices.{both, picked, passed, nested}
use Rattle.chip_finder.proofs.Parts.{inside, length_part}

-- a flash of so many parts has few enough bytes to be counted
pub small_product : (size count : ℕ) → size ≤ 2048 → count ≤ 524288 → count * size ≤ 1073741824
small_product size count s c = mul-le-mul {n₂ = 524288} {m₂ = 2048} c s

-- no place ends behind the flash
pub fit : (size : ℕ) {count first last : ℕ} → first ≤ last → last < count
    → (first * size ≤ (last + 1) * size) × ((last + 1) * size ≤ count * size)
fit size {count} {first} {last} h g =
    (mul-le-mul_right size (omega arith), mul-le-mul_right size (omega arith))

module _ (len size count first last : ℕ) where
  pub place_other_length : (len ≡ count * size → ⊥) → place_of len size count first last ≡ Missing
  unfolding place_of
  place_other_length n = simp (ne_eqb _ _ n)

  pub place_past : len ≡ count * size → count ≤ last → place_of len size count first last ≡ Missing
  unfolding place_of
  place_past e h = simp (eq-eqb _ _ e, le-ltb _ _ h)

  pub place_turned : len ≡ count * size → last < count → last < first → place_of len size count first last ≡ Missing
  unfolding place_of
  place_turned e h g = simp (eq-eqb _ _ e, lt-ltb _ _ h, lt-leb _ _ g)

  pub place_there : len ≡ count * size → last < count → first ≤ last
      → place_of len size count first last ≡ Bytes (first * size) ((last + 1) * size)
  unfolding place_of
  place_there e h g = simp (eq-eqb _ _ e, lt-ltb _ _ h, le-leb _ _ g)

-- what is known of a place that was found
pub record Placed (len size count first last at end : ℕ) : Type 0 where
  pub whole : len ≡ count * size
  pub below : last < count
  pub order : first ≤ last
  pub begin : at ≡ first * size
  pub stop : end ≡ (last + 1) * size
  pub forward : at ≤ end
  pub room : end ≤ len

bytes_there : (at end : ℕ) → Bytes at end ≡ Missing → ⊥
bytes_there at end e = let z : ◌≡◌ {A = ℕ} 0 1 = cc in omega arith

module _ (len size count first last : ℕ) where
  pub placed : {at end : ℕ} → place_of len size count first last ≡ Bytes at end → Placed len size count first last at end
  unfolding place_of
  placed {at} {end} e =
      let p = picked (are_there len size count first last) (Bytes (first * size) ((last + 1) * size)) Missing (Bytes at end) e (bytes_there at end) in
      let q = both (eqb len (count * size) && ltb last count) (leb first last) p.0 in
      let r = both (eqb len (count * size)) (ltb last count) q.0 in
      let w = eqb-true len (count * size) r.0 in
      let b = ltb-true last count r.1 in
      let o = leb-true first last q.1 in
      let e = pair_parts (first * size) at ((last + 1) * size) end p.1 in
      let x : at ≡ first * size = sym e.0 in
      let y : end ≡ (last + 1) * size = sym e.1 in
      let f = fit size o b in
      record { whole = w; below = b; order = o; begin = x; stop = y; forward = omega arith; room = omega arith }

  pub unplaced : place_of len size count first last ≡ Missing → are_there len size count first last ≡ false
  unfolding place_of
  unplaced e = passed (are_there len size count first last) (Bytes (first * size) ((last + 1) * size)) Missing e (bytes_there _ _)

-- ---- what is cut out at a place, and what is put in there ----

pub there : {len size count first last at end : ℕ} → Placed len size count first last at end → are_there len size count first last ≡ true
there p = simp (eq-eqb _ _ p.whole, lt-ltb _ _ p.below, le-leb _ _ p.order)

times : (n size : ℕ) → (n + 1) * size ≡ n * size + size
times n size = rw (add-one, suc-mul)

minus : (m n size : ℕ) → (m - n) * size ≡ m * size - n * size
minus m n size = rw (mul_comm (m - n) size, mul_comm m size, mul_comm n size) (mul-sub size m n)

-- the place of one part has its size
pub one_size : {len size count n at end : ℕ} → Placed len size count n n at end → end - at ≡ size
one_size {len} {size} {count} {n} p = let e = times n size in omega arith

-- the test of one part
one_there : (len size count n : ℕ) → are_there len size count n n ≡ is_there len size count n
one_there len size count n = rw (le-leb n n (omega arith)) (and-true (is_there len size count n))

pub is_there_lem : {len size count n at end : ℕ} → Placed len size count n n at end → is_there len size count n ≡ true
is_there_lem {len} {size} {count} {n} p = sym (one_there len size count n) ∙ there p

pub not_there : (len size count n : ℕ) → place_of len size count n n ≡ Missing → is_there len size count n ≡ false
not_there len size count n e = sym (one_there len size count n) ∙ unplaced len size count n n e

module _ (size count : ℕ) (flash : List ℕ) where
  pub parts_cut : {first last at end : ℕ} → Placed (length flash) size count first last at end
      → take (end - at) (drop at flash) ≡ parts_shown size count first last flash
  unfolding parts_shown
  parts_cut {first} {last} p = rw (there p, p.begin, p.stop, minus (last + 1) first size)

  pub parts_none : (first last : ℕ) → place_of (length flash) size count first last ≡ Missing → parts_shown size count first last flash ≡ []
  unfolding parts_shown
  parts_none first last e = rw (unplaced (length flash) size count first last e)

  -- one part of them
  pub one_shown : (n : ℕ) → parts_shown size count n n flash ≡ shown size count n flash
  unfolding parts_shown shown part_of
  one_shown n =
      let e : (n + 1 - n) * size ≡ size = rw (add-sub_cancel_left, one-mul) in
      let h : leb n n ≡ true = le-leb n n (omega arith) in
      rw (e, h) (nested (eqb (length flash) (count * size)) (ltb n count) (take size (drop (n * size) flash)) [])

  pub part_cut : {n at end : ℕ} → Placed (length flash) size count n n at end → take (end - at) (drop at flash) ≡ part_of size n flash
  unfolding part_of
  part_cut p = rw (one_size p, p.begin)

  pub part_room : {n at end : ℕ} → Placed (length flash) size count n n at end → n * size + size ≤ length flash
  part_room {n} p = inside size count n p.whole p.below

  pub cut_length : {n at end : ℕ} → Placed (length flash) size count n n at end → length (take (end - at) (drop at flash)) ≡ size
  cut_length {n} p = ap length (part_cut p) ∙ length_part size n flash (part_room p)

  pub part_back : (n : ℕ) (new : List ℕ) {at end : ℕ} → Placed (length flash) size count n n at end
      → put_mid at (end - at) flash new ≡ put_part size n new flash
  unfolding put_part
  part_back n new p = rw (one_size p, p.begin)

-- several blocks of one of the two flashes
pub range_parts : (chip : Chip) (m : Memory) (f : Flash) (first last : Block)
    → parts_shown (block_size f) (blocks chip f) first.0 last.0 (flash_of m f) ≡ range_shown chip m f first last
unfolding parts_shown range_shown
range_parts chip m f first last = refl
