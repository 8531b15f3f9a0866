-- Laws of two parts put into a flash, over their size and number: in either order, and one twice. Assumes nothing.
use mathlib.Core.Path.{◌≡◌, refl, sym, ap, ◌∙◌}
use mathlib.Core.Bool.{Bool, true, false}
use mathlib.Core.List.{List, ◌++◌, append_assoc}
use Prim.Native.Nat.{ℕ, ◌+◌, ◌-◌, ◌*◌, ◌<◌, ◌≤◌}
use native.Mathlib.Omega.{arith}
use lib.Dec.{ltb}
use lib.ListN.{length, take, drop, take-append-drop}
use lib.Seq.{take_at, drop_at, take-append-add, drop-append-add, length-take-le}
use borrow.Author.Tests.{ltb-true, ltb-false}
use Rattle.rules.specs.Chip.{part_of, put_part}
use Rattle.chip_finder.proofs.Parts.{below, length_part}

-- a flash seen as what stands before a part, the part, and what stands behind it
module _ (size i : ℕ) (front part back : List ℕ) (l : length front ≡ i * size) (k : length part ≡ size) where
  -- another put in its place
  put_here : (new : List ℕ) → put_part size i new (front ++ (part ++ back)) ≡ front ++ (new ++ back)
  unfolding put_part
  put_here new =
      rw (take_at front (part ++ back) (i * size) l, drop_at front (part ++ back) (i * size) l, drop_at part back size k)

  -- one put in behind it
  put_behind : (j : ℕ) → i < j → (new : List ℕ) → let n = j * size - (i * size + size) in
      put_part size j new (front ++ (part ++ back)) ≡ front ++ (part ++ (take n back ++ (new ++ drop size (drop n back))))
  unfolding put_part
  put_behind j h new =
      let n = j * size - (i * size + size) in
      let whole = front ++ (part ++ back) in
      let b = below i j size h in
      let e : j * size ≡ length front + (length part + n) = omega arith in
      let low : take (j * size) whole ≡ front ++ (part ++ take n back) =
      ap (λ (z : ℕ). take z whole) e ∙ take-append-add front (part ++ back) (length part + n) ∙ ap (λ (z : List ℕ). front ++ z) (take-append-add part back n) in
      let high : drop (j * size) whole ≡ drop n back =
      ap (λ (z : ℕ). drop z whole) e ∙ drop-append-add front (part ++ back) (length part + n) ∙ drop-append-add part back n in
      rw (low, high)
      (append_assoc front (part ++ take n back) (new ++ drop size (drop n back))
      ∙ ap (λ (z : List ℕ). front ++ z) (append_assoc part (take n back) (new ++ drop size (drop n back))))

-- two parts, the first before the second
module _ (size : ℕ) (flash : List ℕ) (x y : List ℕ) (k : length x ≡ size) where
  put_upward : (i j : ℕ) → i < j → i * size + size ≤ length flash
      → put_part size j y (put_part size i x flash) ≡ put_part size i x (put_part size j y flash)
  unfolding put_part part_of
  put_upward i j h fits =
      let front = take (i * size) flash in
      let part = part_of size i flash in
      let back = drop size (drop (i * size) flash) in
      let n = j * size - (i * size + size) in
      let behind = take n back ++ (y ++ drop size (drop n back)) in
      let e : length front ≡ i * size = length-take-le (i * size) flash (omega arith) in
      let p : length part ≡ size = length_part size i flash fits in
      let own : front ++ (part ++ back) ≡ flash =
      ap (λ (z : List ℕ). front ++ z) (take-append-drop size (drop (i * size) flash)) ∙ take-append-drop (i * size) flash in
      put_behind size i front x back e k j h y
      ∙ sym
      (ap (λ (z : List ℕ). put_part size i x (put_part size j y z)) (sym own)
      ∙ ap (put_part size i x) (put_behind size i front part back e p j h y)
      ∙ put_here size i front part behind e p x)

-- the same part twice
pub put_twice : (size i : ℕ) (flash x y : List ℕ) → i * size + size ≤ length flash → length y ≡ size
    → put_part size i x (put_part size i y flash) ≡ put_part size i x flash
unfolding put_part
put_twice size i flash x y fits l =
    put_here size i (take (i * size) flash) y (drop size (drop (i * size) flash)) (length-take-le (i * size) flash (omega arith)) l x

-- two different parts, in either order
pub put_either : (size : ℕ) (flash x y : List ℕ) → length x ≡ size → length y ≡ size → (i j : ℕ) → (i ≡ j → ⊥)
    → i * size + size ≤ length flash → j * size + size ≤ length flash
    → put_part size j y (put_part size i x flash) ≡ put_part size i x (put_part size j y flash)
put_either size flash x y k l i j n p q = go (ltb i j) refl
  where
    go : (t : Bool) → ltb i j ≡ t → put_part size j y (put_part size i x flash) ≡ put_part size i x (put_part size j y flash)
    go true e = put_upward size flash x y k i j (ltb-true i j e) p
    go false e = sym (put_upward size flash y x l j i (let b = ltb-false i j e in omega arith) q)
