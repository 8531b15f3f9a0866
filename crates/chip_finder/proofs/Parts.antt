-- Laws of a flash's parts, over their size and number: what is put in stands there, and all else stays. Assumes nothing.
use mathlib.Core.Path.{◌≡◌, refl, sym, ap, ◌∙◌}
use mathlib.Core.Bool.{Bool, true, false}
use mathlib.Core.List.{List, [], ◌++◌}
use Prim.Native.Nat.{ℕ, ◌+◌, ◌-◌, ◌*◌, ◌<◌, ◌≤◌}
use native.Mathlib.Nat.{mul-le-mul_right, suc-mul}
use native.Mathlib.Omega.{arith}
use lib.Dec.{ltb, eqb}
use lib.ListN.{length, take, drop, length-append, length-take, length-drop, take-append-drop}
use lib.Seq.{take_at, drop_at, take-append-le, drop-append-le, drop-drop, length-take-le}
use borrow.Author.Tests.{eq-eqb, ne_eqb, lt-ltb, le-ltb, ltb-true, ltb-false}
use borrow.Rule.Slice.PartMut.{put_same}
use Rattle.rules.specs.Chip.{part_of, put_part, shown}
use Rattle.rules.proofs.Choices.{either}

-- ---- where a part lies ----

-- a part below another ends where that begins, or before
pub below : (i j size : ℕ) → i < j → i * size + size ≤ j * size
below i j size h = rw (← suc-mul) (mul-le-mul_right size h)

pub inside : (size count i : ℕ) {n : ℕ} → n ≡ count * size → i < count → i * size + size ≤ n
inside size count i e h = rw e (below i count size h)

-- ---- one part of a flash ----

-- what a part shows does not hang on what stands behind it
front : (xs ys : List ℕ) (a k : ℕ) → a + k ≤ length xs → take k (drop a (xs ++ ys)) ≡ take k (drop a xs)
front xs ys a k h =
    let p : a ≤ length xs = omega arith in
    let q : k ≤ length (drop a xs) = simp length-drop (omega arith) in
    rw (drop-append-le a xs ys p, take-append-le k (drop a xs) ys q)

-- what stands from a later part on stands behind this one
behind : (size i j : ℕ) → i < j → (xs : List ℕ) → drop (j * size - (i * size + size)) (drop size (drop (i * size) xs)) ≡ drop (j * size) xs
behind size i j h xs =
    let b = below i j size h in
    let m = j * size - (i * size + size) in
    let e : i * size + (size + m) ≡ j * size = omega arith in
    rw (drop-drop m size (drop (i * size) xs), drop-drop (size + m) (i * size) xs, e)

-- a part put back as it was changes nothing
pub put_own : (size i : ℕ) (flash : List ℕ) → put_part size i (part_of size i flash) flash ≡ flash
unfolding part_of put_part
put_own size i flash = put_same (i * size) size flash

module _ (size i : ℕ) (flash : List ℕ) (h : i * size + size ≤ length flash) where
  pub length_part : length (part_of size i flash) ≡ size
  unfolding part_of
  length_part = simp (length-take, length-drop) (omega arith)

  module _ (new : List ℕ) (l : length new ≡ size) where
    pub length_put : length (put_part size i new flash) ≡ length flash
    unfolding put_part
    length_put = simp (length-append, length-take, length-drop) (omega arith)

    pub part_put : part_of size i (put_part size i new flash) ≡ new
    unfolding part_of put_part
    part_put =
        let e : length (take (i * size) flash) ≡ i * size = length-take-le (i * size) flash (omega arith) in
        rw (drop_at (take (i * size) flash) (new ++ drop size (drop (i * size) flash)) (i * size) e, take_at new (drop size (drop (i * size) flash)) size l)

    put_before : (j : ℕ) → j < i → part_of size j (put_part size i new flash) ≡ part_of size j flash
    unfolding part_of put_part
    put_before j g =
        let a = i * size in
        let e : length (take a flash) ≡ a = length-take-le a flash (omega arith) in
        let b = below j i size g in
        front (take a flash) (new ++ drop size (drop a flash)) (j * size) size (omega arith)
        ∙ sym (front (take a flash) (drop a flash) (j * size) size (omega arith))
        ∙ ap (λ (xs : List ℕ). take size (drop (j * size) xs)) (take-append-drop a flash)

    put_tail : drop size (drop (i * size) (put_part size i new flash)) ≡ drop size (drop (i * size) flash)
    unfolding put_part
    put_tail =
        let e : length (take (i * size) flash) ≡ i * size = length-take-le (i * size) flash (omega arith) in
        rw (drop_at (take (i * size) flash) (new ++ drop size (drop (i * size) flash)) (i * size) e, drop_at new (drop size (drop (i * size) flash)) size l)

    put_after : (j : ℕ) → i < j → part_of size j (put_part size i new flash) ≡ part_of size j flash
    unfolding part_of
    put_after j g =
        ap (take size)
        (sym (behind size i j g (put_part size i new flash))
        ∙ ap (drop (j * size - (i * size + size))) put_tail
        ∙ behind size i j g flash)

    pub part_put_other : (j : ℕ) → (j ≡ i → ⊥) → part_of size j (put_part size i new flash) ≡ part_of size j flash
    part_put_other j n = go (ltb j i) refl
      where
        go : (t : Bool) → ltb j i ≡ t → part_of size j (put_part size i new flash) ≡ part_of size j flash
        go true e = put_before j (ltb-true j i e)
        go false e = put_after j (let b = ltb-false j i e in omega arith)

-- ---- the part shown ----

module _ (size count i : ℕ) (flash : List ℕ) where
  pub shown_there : length flash ≡ count * size → i < count → shown size count i flash ≡ part_of size i flash
  unfolding shown
  shown_there e h = simp (eq-eqb _ _ e, lt-ltb _ _ h)

  pub shown_past : count ≤ i → shown size count i flash ≡ []
  unfolding shown
  shown_past h = rw (le-ltb i count h) (either (eqb (length flash) (count * size)) [])

  pub shown_other_length : (length flash ≡ count * size → ⊥) → shown size count i flash ≡ []
  unfolding shown
  shown_other_length n = simp (ne_eqb _ _ n)
