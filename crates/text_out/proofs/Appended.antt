-- Laws of texts appended to a buffer: a byte, one text behind another, and a buffer with room for all. Assumes nothing.
use mathlib.Core.Path.{◌≡◌, refl, sym, ap, ◌∙◌}
use Prim.Native.Nat.{ℕ, suc, ◌+◌, ◌<◌, ◌≤◌}
use mathlib.Core.Bool.{Bool, true, false}
use mathlib.Core.List.{List, [], ◌∷◌, ◌++◌}
use native.Mathlib.Omega.{arith}
use native.Mathlib.Numerals.{add-one}
use lib.Dec.{ltb}
use lib.ListN.{length, set, take, drop, get_or, length-set, drop_of_length-le}
use lib.Seq.{drop-cons, sets, sets-eq, take_at, length-take-le}
use borrow.Author.Tests.{lt-ltb, le-ltb, ltb-true}
use Rattle.rules.specs.Chip.{over}
use Rattle.text_out.specs.Out.{Out, out, add_byte, add, Filled}

-- ---- a byte: room for it, or not ----

pub byte_fits : (x at : ℕ) (b : List ℕ) → at < length b → add (x ∷ []) (out at b) ≡ out (at + 1) (set b at x)
unfolding add add_byte
byte_fits x at b h = simp (lt-ltb _ _ h)

pub byte_full : (x at : ℕ) (b : List ℕ) → length b ≤ at → add (x ∷ []) (out at b) ≡ out at b
unfolding add add_byte
byte_full x at b h = simp (le-ltb _ _ h)

-- ---- one text behind another: with room or without ----

pub add_append : (s t : List ℕ) (o : Out) → add (s ++ t) o ≡ add t (add s o)
unfolding add
add_append [] t o = refl
add_append (x ∷ s) t o = add_append s t (add_byte x o)

-- no text
pub add_none : (o : Out) → add [] o ≡ o
unfolding add
add_none o = refl

-- the first of what is left of a list
pub drop_one : (xs : List ℕ) (i : ℕ) → i < length xs → drop i xs ≡ get_or xs i 0 ∷ drop (i + 1) xs
drop_one xs i h = rw add-one (drop-cons xs i 0 h)

-- what is left of a text, a byte at a time
module _ (t : List ℕ) (i : ℕ) (o : Out) where
  pub one_more : i < length t → add (drop i t) o ≡ add (drop (i + 1) t) (add (get_or t i 0 ∷ []) o)
  unfolding add
  one_more h = rw (drop_one t i h)

  pub none_left : length t ≤ i → add (drop i t) o ≡ o
  unfolding add
  none_left h = rw (drop_of_length-le t h)

-- ---- a buffer filled from its first byte on ----

-- with room, a store for each byte
pub stores : (t : List ℕ) (at : ℕ) (b : List ℕ) → at + length t ≤ length b → add t (out at b) ≡ out (at + length t) (sets b at t)
unfolding add add_byte
stores [] at b h = ap (λ (n : ℕ). out n b) (omega arith)
stores (x ∷ t) at b h =
    let l : at < length b = omega arith in
    let g : suc at + length t ≤ length (set b at x) = simp length-set (omega arith) in
    let n : suc at + length t ≡ at + suc (length t) = omega arith in
    rw (lt-ltb _ _ l, add-one, stores t (suc at) (set b at x) g, n)

-- a place within the buffer stays within it
within_byte : (x : ℕ) (o : Out) → o.at ≤ length o.bytes → (add_byte x o).at ≤ length (add_byte x o).bytes
unfolding add_byte
within_byte x o h = go (ltb o.at (length o.bytes)) refl
  where
    go : (w : Bool) → ltb o.at (length o.bytes) ≡ w → (add_byte x o).at ≤ length (add_byte x o).bytes
    go true e = let l : o.at < length o.bytes = ltb-true _ _ e in rw e (simp length-set (omega arith))
    go false e = rw e h

add_within : (t : List ℕ) (o : Out) → o.at ≤ length o.bytes → (add t o).at ≤ length (add t o).bytes
unfolding add
add_within [] o h = h
add_within (x ∷ t) o h = add_within t (add_byte x o) (within_byte x o h)

-- what is filled counts bytes of the buffer, and with room it is the text
module _ (t : List ℕ) (n : ℕ) (b c : List ℕ) (e : out n c ≡ add t (out 0 b)) where
  with_room : length t ≤ length b → take n c ≡ t
  with_room h =
      let f = e ∙ stores t 0 b (omega arith) in
      let m : n ≡ length t = ap (λ (o : Out). o.at) f ∙ omega arith in
      let d : c ≡ t ++ drop (0 + length t) b = ap (λ (o : Out). o.bytes) f ∙ sets-eq t b 0 (omega arith) in
      rw (d, m) (take_at t (drop (0 + length t) b) (length t) refl)

  -- and behind it the buffer is as it was
  pub put_over : length t ≤ length b → c ≡ over t b
  unfolding over
  put_over h =
      let z : 0 + length t ≡ length t = omega arith in
      ap (λ (o : Out). o.bytes) (e ∙ stores t 0 b (omega arith)) ∙ sets-eq t b 0 (omega arith) ∙ ap (λ (k : ℕ). t ++ drop k b) z

  pub filled : Filled t b n c
  filled =
      let h : n ≤ length c = rw (← e) at (add_within t (out 0 b) (omega arith)) in
      (e, (h, sym (length-take-le n c h)), with_room)
