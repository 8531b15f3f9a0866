-- Bytes laid over others: one list behind another, a block that was erased, and a part rewritten. Assumes nothing.
use mathlib.Core.Path.{◌≡◌, refl, sym, ap, ◌∙◌}
use mathlib.Core.Bool.{Bool, true, false, cond, false≢true}
use mathlib.Core.List.{List, [], ◌∷◌, ◌++◌, append_assoc}
use Prim.Native.Nat.{ℕ, zero, suc, ◌+◌, ◌*◌, ◌<◌, ◌≤◌}
use native.Mathlib.Omega.{arith}
use lib.Dec.{eqb}
use lib.ListN.{length, take, drop, replicate, length-append, length-drop, length-replicate, take-append-drop}
use lib.Seq.{take_at, drop_at, drop-drop, take-append-le, drop-append-le, length-take-le}
use borrow.Author.Tests.{eqb-true, eqb-false}
use Rattle.rules.proofs.Choices.{picked}
use Rattle.rules.specs.declared.Flash.{Flash}
use Rattle.rules.specs.Chip.{blank, blank_byte, block_size, page_size, pages_per_block, part_of, put_part}
use Rattle.octets.proofs.Lists.{blank_filled}
use Rattle.chip_finder.proofs.Geometry.{blocks_in_pages}
use Rattle.chip_finder.proofs.Parts.{below, length_put, part_put, part_put_other}

-- ---- bytes laid over others, from a place on ----

abbrev pub laid : ℕ → ℕ → List ℕ → List ℕ → List ℕ
laid x n new xs = take x xs ++ (new ++ drop n (drop x xs))

pub put_laid : (size i : ℕ) (new xs : List ℕ) → put_part size i new xs ≡ laid (i * size) size new xs
unfolding put_part
put_laid size i new xs = refl

pub laid_none : (x : ℕ) (xs : List ℕ) → laid x 0 [] xs ≡ xs
laid_none x xs = take-append-drop x xs

-- one behind the other
pub laid_on : (x n k : ℕ) (p q xs : List ℕ) → x ≤ length xs → length p ≡ n → laid (x + n) k q (laid x n p xs) ≡ laid x (n + k) (p ++ q) xs
laid_on x n k p q xs h l =
    let a = take x xs in
    let r = drop n (drop x xs) in
    let e : length (a ++ p) ≡ x + n = length-append a p ∙ omega (arith, length-take-le x xs h) in
    let c : a ++ (p ++ r) ≡ (a ++ p) ++ r = sym (append_assoc a p r) in
    rw (c, take_at (a ++ p) r (x + n) e, drop_at (a ++ p) r (x + n) e, drop-drop k n (drop x xs))
    (append_assoc a p (q ++ drop (n + k) (drop x xs)) ∙ ap (λ (y : List ℕ). a ++ y) (sym (append_assoc p q (drop (n + k) (drop x xs)))))

-- ---- a block that was erased ----

blank_drop : (n : ℕ) (xs : List ℕ) → blank xs ≡ true → blank (drop n xs) ≡ true
unfolding blank
blank_drop zero xs e = e
blank_drop (suc n) [] e = refl
blank_drop (suc n) (x ∷ xs) e = blank_drop n xs (picked (eqb x blank_byte) (blank xs) false true e (λ z. false≢true (sym z))).1

blank_take : (n : ℕ) (xs : List ℕ) → blank xs ≡ true → blank (take n xs) ≡ true
unfolding blank
blank_take zero xs e = refl
blank_take (suc n) [] e = refl
blank_take (suc n) (x ∷ xs) e =
    let p = picked (eqb x blank_byte) (blank xs) false true e (λ z. false≢true (sym z)) in
    rw p.0 (blank_take n xs p.1)

abbrev pub erased : Flash → ℕ → List ℕ → List ℕ
erased f b xs = put_part (block_size f) b (replicate (block_size f) blank_byte) xs

module _ (f : Flash) (b : ℕ) (xs : List ℕ) (h : b * block_size f + block_size f ≤ length xs) where
  -- its pages are blank
  pub pages_blank : (k : ℕ) → k < pages_per_block f → blank (part_of page_size (b * pages_per_block f + k) (erased f b xs)) ≡ true
  unfolding part_of put_part
  pages_blank k l =
      let size = block_size f in
      let ff = replicate size blank_byte in
      let r = drop size (drop (b * size) xs) in
      let n = length-replicate size blank_byte in
      let w = blocks_in_pages f 1 in
      let u = below k (pages_per_block f) page_size l in
      let e : (b * pages_per_block f + k) * page_size ≡ b * size + k * page_size = omega (arith, blocks_in_pages f b) in
      let c : length (take (b * size) xs) ≡ b * size = length-take-le (b * size) xs (omega arith) in
      let p : k * page_size ≤ length ff = omega arith in
      let q : page_size ≤ length (drop (k * page_size) ff) = rw (length-drop (k * page_size) ff) (omega arith) in
      rw (e, ← drop-drop (k * page_size) (b * size) (take (b * size) xs ++ (ff ++ r)), drop_at (take (b * size) xs) (ff ++ r) (b * size) c, drop-append-le (k * page_size) ff r p, take-append-le page_size (drop (k * page_size) ff) r q)
      (blank_take page_size (drop (k * page_size) ff) (blank_drop (k * page_size) ff (blank_filled size)))

-- ---- a part rewritten ----

-- it holds the body, and every other part what it held
pub part_after : (size b k : ℕ) (body xs : List ℕ) → b * size + size ≤ length xs → length body ≡ size
    → part_of size k (put_part size b body (put_part size b (replicate size blank_byte) xs)) ≡ cond (eqb b k) body (part_of size k xs)
part_after size b k body xs h l = go (eqb b k) refl
  where
    ff : List ℕ
    ff = replicate size blank_byte

    n : length ff ≡ size
    n = length-replicate size blank_byte

    mid : List ℕ
    mid = put_part size b ff xs

    i : b * size + size ≤ length mid
    i = rw (length_put size b xs h ff n) h

    go : (t : Bool) → eqb b k ≡ t → part_of size k (put_part size b body mid) ≡ cond t body (part_of size k xs)
    go true e = rw (← eqb-true b k e) (part_put size b mid i body l)
    go false e =
        let d = eqb-false b k e in
        part_put_other size b mid i body l k (λ z. d (sym z)) ∙ part_put_other size b xs h ff n k (λ z. d (sym z))
