-- Laws of the first byte in use: one byte more of a search; none where all is blank, and only there; the first page that is not blank. Assumes nothing.
use mathlib.Core.Path.{◌≡◌, refl}
use mathlib.Core.Bool.{Bool, true, false, cond, false≢true}
use mathlib.Core.List.{List, [], ◌∷◌}
use Prim.Native.Nat.{ℕ, zero, suc, ◌+◌, ◌-◌, ◌*◌, ◌/◌, ◌%◌, ◌<◌, ◌≤◌}
use native.Mathlib.Nat.{not-suc-le-zero}
use native.Mathlib.Numerals.{add-one}
use native.Mathlib.Omega.{arith}
use lib.Dec.{ltb, eqb}
use lib.ListN.{length, get_or, take, drop, drop_of_length-le, length-drop}
use lib.Seq.{drop-cons}
use borrow.Author.Tests.{eq-eqb, ne_eqb, lt-ltb, le-ltb, ltb-true, ltb-false}
use Rattle.rules.specs.declared.Flash.{Flash}
use Rattle.rules.specs.declared.Flash.TheVariants.{Code, Data}
use Rattle.rules.specs.declared.Block.{Block}
use Rattle.rules.specs.Notes.{Empty, Used}
use Rattle.rules.specs.Chip.{blank_byte, blank, blanks_before, part_of, block_size, page_size, pages_per_block, block}
use Rattle.rules.specs.Command.{used_from}
use Rattle.rules.proofs.Choices.{picked}

-- ---- one byte more ----

module _ (xs : List ℕ) (i : ℕ) (h : i < length xs) where
  before_not : (get_or xs i 0 ≡ blank_byte → ⊥) → blanks_before (drop i xs) ≡ 0
  unfolding blanks_before
  before_not n = rw (drop-cons xs i 0) (simp (ne_eqb _ _ n))

  before_more : get_or xs i 0 ≡ blank_byte → blanks_before (drop i xs) ≡ 1 + blanks_before (drop (i + 1) xs)
  unfolding blanks_before
  before_more e = rw (drop-cons xs i 0, add-one) (simp (eq-eqb _ _ e))

  -- so that a search which has passed i blank bytes has passed one more
  pub before_passed : get_or xs i 0 ≡ blank_byte → blanks_before xs ≡ i + blanks_before (drop i xs) → blanks_before xs ≡ i + 1 + blanks_before (drop (i + 1) xs)
  before_passed e p = let z = before_more e in omega arith

before_end : (xs : List ℕ) (i : ℕ) → length xs ≤ i → blanks_before (drop i xs) ≡ 0
unfolding blanks_before
before_end xs i h = rw (drop_of_length-le xs h)

-- ---- what a search has found, where every byte before i is blank ----

module _ (f : Flash) (a : Block) (xs : List ℕ) (i : ℕ) (e : blanks_before xs ≡ i + blanks_before (drop i xs)) where
  pub found_used : i < length xs → (get_or xs i 0 ≡ blank_byte → ⊥) → (b p : ℕ) → a.0 + i / block_size f ≡ b → i % block_size f / page_size ≡ p
      → used_from f a xs ≡ Used f (block b) p
  unfolding used_from
  found_used h n b p q r =
      let z = before_not xs i h n in
      let k : blanks_before xs ≡ i = omega arith in
      rw (k, lt-ltb i (length xs) h, q, r)

  pub found_none : length xs ≡ i → used_from f a xs ≡ Empty
  unfolding used_from
  found_none l =
      let z = before_end xs i (omega arith) in
      rw (le-ltb (blanks_before xs) (length xs) (omega arith))

-- ---- none is in use exactly where all is blank ----

blank_before : (xs : List ℕ) → blank xs ≡ true → blanks_before xs ≡ length xs
unfolding blank blanks_before
blank_before [] e = refl
blank_before (x ∷ xs) e = go (eqb x blank_byte) (blank_before xs) e
  where
    go : (t : Bool) → (blank xs ≡ true → blanks_before xs ≡ length xs) → cond t (blank xs) false ≡ true
        → cond t (1 + blanks_before xs) 0 ≡ length (x ∷ xs)
    go true later e = let z = later e in omega arith
    go false later e = absurd (false≢true e)

before_blank : (xs : List ℕ) → length xs ≤ blanks_before xs → blank xs ≡ true
unfolding blank blanks_before
before_blank [] h = refl
before_blank (x ∷ xs) h = go (eqb x blank_byte) (before_blank xs) h
  where
    go : (t : Bool) → (length xs ≤ blanks_before xs → blank xs ≡ true) → length (x ∷ xs) ≤ cond t (1 + blanks_before xs) 0
        → cond t (blank xs) false ≡ true
    go true later h = later (omega arith)
    go false later h = absurd (omega arith)

used≢empty : (f : Flash) (b : Block) (p : ℕ) → Used f b p ≡ Empty → ⊥
used≢empty f b p e = let z : ◌≡◌ {A = ℕ} 0 1 = cc in omega arith

module _ (f : Flash) (a : Block) (xs : List ℕ) where
  pub blank_unused : blank xs ≡ true → used_from f a xs ≡ Empty
  unfolding used_from
  blank_unused e =
      let z = blank_before xs e in
      rw (le-ltb (blanks_before xs) (length xs) (omega arith))

  pub unused_blank : used_from f a xs ≡ Empty → blank xs ≡ true
  unfolding used_from
  unused_blank e = go (ltb (blanks_before xs) (length xs)) refl e
    where
      go : (t : Bool) → ltb (blanks_before xs) (length xs) ≡ t
          → cond t (Used f (block (a.0 + blanks_before xs / block_size f)) (blanks_before xs % block_size f / page_size)) Empty ≡ Empty
          → blank xs ≡ true
      go true q e = absurd (used≢empty _ _ _ e)
      go false q e = before_blank xs (ltb-false (blanks_before xs) (length xs) q)

  pub used_not_blank : (used_from f a xs ≡ Empty → ⊥) → blank xs ≡ false
  used_not_blank n = go (blank xs) refl
    where
      go : (t : Bool) → blank xs ≡ t → blank xs ≡ false
      go true e = absurd (n (blank_unused e))
      go false e = e

-- ---- the page named is not blank, and every page of the range before it is ----

take_blank : (n : ℕ) (xs : List ℕ) → n ≤ blanks_before xs → blank (take n xs) ≡ true
unfolding blank blanks_before
take_blank zero xs h = refl
take_blank (suc n) [] h = refl
take_blank (suc n) (x ∷ xs) h = go (eqb x blank_byte) (take_blank n xs) h
  where
    go : (t : Bool) → (n ≤ blanks_before xs → blank (take n xs) ≡ true) → suc n ≤ cond t (1 + blanks_before xs) 0
        → cond t (blank (take n xs)) false ≡ true
    go true later h = later (omega arith)
    go false later h = absurd (not-suc-le-zero h)

take_used : (n : ℕ) (xs : List ℕ) → blanks_before xs < n → blanks_before xs < length xs → blank (take n xs) ≡ false
unfolding blank blanks_before
take_used zero xs h g = absurd (not-suc-le-zero h)
take_used (suc n) [] h g = absurd (not-suc-le-zero g)
take_used (suc n) (x ∷ xs) h g = go (eqb x blank_byte) (take_used n xs) h g
  where
    go : (t : Bool) → (blanks_before xs < n → blanks_before xs < length xs → blank (take n xs) ≡ false)
        → cond t (1 + blanks_before xs) 0 < suc n → cond t (1 + blanks_before xs) 0 < length (x ∷ xs)
        → cond t (blank (take n xs)) false ≡ false
    go true later h g = later (omega arith) (omega arith)
    go false later h g = refl

before_drop : (m : ℕ) (xs : List ℕ) → m ≤ blanks_before xs → blanks_before xs ≡ m + blanks_before (drop m xs)
unfolding blanks_before
before_drop zero xs h = omega arith
before_drop (suc m) [] h = absurd (not-suc-le-zero h)
before_drop (suc m) (x ∷ xs) h = go (eqb x blank_byte) (before_drop m xs) h
  where
    go : (t : Bool) → (m ≤ blanks_before xs → blanks_before xs ≡ m + blanks_before (drop m xs)) → suc m ≤ cond t (1 + blanks_before xs) 0
        → cond t (1 + blanks_before xs) 0 ≡ suc m + blanks_before (drop m xs)
    go true later h = let z = later (omega arith) in omega arith
    go false later h = absurd (not-suc-le-zero h)

module _ (xs : List ℕ) (k : ℕ) (h : k * page_size ≤ blanks_before xs) where
  page_used : blanks_before xs < length xs → blanks_before xs < k * page_size + page_size → blank (part_of page_size k xs) ≡ false
  unfolding part_of
  page_used l g =
      let z = before_drop (k * page_size) xs h in
      let d = length-drop (k * page_size) xs in
      take_used page_size (drop (k * page_size) xs) (omega arith) (omega arith)

  page_before : (j : ℕ) → j < k → blank (part_of page_size j xs) ≡ true
  unfolding part_of
  page_before j g =
      let z = before_drop (j * page_size) xs (omega arith) in
      take_blank page_size (drop (j * page_size) xs) (omega arith)

-- block and page of a byte are those of its page, counted through
page_number : (f : Flash) (a i : ℕ) → (a + i / block_size f - a) * pages_per_block f + i % block_size f / page_size ≡ i / page_size
page_number Code a i = omega arith
page_number Data a i = omega arith

used_page : (f g : Flash) (b c : Block) (p q : ℕ) → Used f b p ≡ Used g c q → (b.0 ≡ c.0) × (p ≡ q)
used_page f g b c p q e = (cc, cc)

module _ (f : Flash) (a : Block) (xs : List ℕ) (g : Flash) (b : Block) (p : ℕ) (e : used_from f a xs ≡ Used g b p) where
  -- the page named, counted from the first of the range
  abbrev page_named : ℕ
  page_named = (b.0 - a.0) * pages_per_block f + p

  named : (blanks_before xs < length xs) × (page_named ≡ blanks_before xs / page_size)
  unfolding used_from
  named =
      let i = blanks_before xs in
      let s = picked (ltb i (length xs)) (Used f (block (a.0 + i / block_size f)) (i % block_size f / page_size)) Empty (Used g b p) e (used≢empty g b p) in
      let u = used_page f g (block (a.0 + i / block_size f)) b (i % block_size f / page_size) p s.1 in
      (ltb-true i (length xs) s.0, rw (← u.0, ← u.1) (page_number f a.0 i))

  pub page_not_blank : blank (part_of page_size page_named xs) ≡ false
  page_not_blank = let n = named in page_used xs page_named (omega arith) n.0 (omega arith)

  pub pages_before_blank : (j : ℕ) → j < page_named → blank (part_of page_size j xs) ≡ true
  pages_before_blank j h = let n = named in page_before xs page_named (omega arith) j h
