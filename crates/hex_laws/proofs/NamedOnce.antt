-- Laws of the blocks named: precisely those that hold a given byte, each is there, and their addresses rise. Assumes nothing.
use mathlib.Core.Path.{◌≡◌, refl, sym, ap, ◌∙◌}
use mathlib.Core.Bool.{Bool, true, false, cond, ◌&&◌, ◌||◌}
use mathlib.Core.List.{List, [], ◌∷◌, ◌++◌, append-nil}
use Prim.Native.Nat.{ℕ, zero, suc, ◌+◌, ◌*◌, ◌<◌, ◌≤◌}
use native.Mathlib.Omega.{arith}
use lib.Dec.{ltb, leb, eqb}
use borrow.Author.Tests.{eqb-true, eqb-false, eq-eqb, ne_eqb, lt-ltb, le-leb, leb-true}
use Rattle.rules.specs.declared.Flash.{Flash}
use Rattle.rules.specs.declared.Flash.TheVariants.{Code, Data}
use Rattle.rules.specs.Chip.{same_flash, Memory, small, start, blocks, block_size, first_byte}
use Rattle.rules.proofs.WritesTwice.{same_flash_lem, own_flash}
use Rattle.rules.proofs.Choices.{both}
use Rattle.chip_finder.proofs.Geometry.{size_bounds}
use Rattle.chip_finder.proofs.Parts.{below}
use Rattle.rules.specs.Hex.{any_given, Named, named, block_cells, named_from, blocks_named}

-- ---- one of them ----

-- it is block i of that flash; one of these is
abbrev pub is_block : Named → Flash → ℕ → Bool
is_block b f i = same_flash b.flash f && eqb b.block.0 i

unfoldable pub names : List Named → Flash → ℕ → Bool
names [] f i = false
names (b ∷ bs) f i = is_block b f i || names bs f i

names_append : (xs ys : List Named) (f : Flash) (i : ℕ) → names (xs ++ ys) f i ≡ (names xs f i || names ys f i)
unfolding names
names_append [] ys f i = refl
names_append (b ∷ xs) ys f i = go (is_block b f i) (names_append xs ys f i)
  where
    go : (x : Bool) → names (xs ++ ys) f i ≡ (names xs f i || names ys f i) → (x || names (xs ++ ys) f i) ≡ ((x || names xs f i) || names ys f i)
    go true e = refl
    go false e = e

-- ---- of one flash ----

module _ (m : Memory) (f : Flash) where
  -- none before the first
  named_before : (n i j : ℕ) → j < i → names (named_from m f i n) f j ≡ false
  unfolding names named_from
  named_before zero i j h = refl
  named_before (suc n) i j h = go (any_given (block_cells m f i)) (named_from m f (i + 1) n) (named_before n (i + 1) j (omega arith))
    where
      go : (x : Bool) (l : List Named) → names l f j ≡ false → names (cond x (named f i ∷ l) l) f j ≡ false
      go true l e = rw (own_flash f, ne_eqb i j (λ z. omega arith), e)
      go false l e = e

  -- none of the other flash
  named_other : (g : Flash) → same_flash f g ≡ false → (n i j : ℕ) → names (named_from m f i n) g j ≡ false
  unfolding names named_from
  named_other g o zero i j = refl
  named_other g o (suc n) i j = go (any_given (block_cells m f i)) (named_from m f (i + 1) n) (named_other g o n (i + 1) j)
    where
      go : (x : Bool) (l : List Named) → names l g j ≡ false → names (cond x (named f i ∷ l) l) g j ≡ false
      go true l e = rw (o, e)
      go false l e = e

  named_there : (n i j : ℕ) → i ≤ j → j < i + n → names (named_from m f i n) f j ≡ any_given (block_cells m f j)
  unfolding names named_from
  named_there zero i j h g = absurd (omega arith)
  named_there (suc n) i j h g = go (eqb i j) refl (named_there n (i + 1) j)
    where
      here : (x : Bool) (l : List Named) → names l f j ≡ false → i ≡ j → names (cond x (named f i ∷ l) l) f j ≡ x
      here true l e q = rw (own_flash f, eq-eqb i j q)
      here false l e q = e

      later : (x : Bool) (l : List Named) → (i ≡ j → ⊥) → names (cond x (named f i ∷ l) l) f j ≡ names l f j
      later true l q = rw (own_flash f, ne_eqb i j q)
      later false l q = refl

      go : (t : Bool) → eqb i j ≡ t → (i + 1 ≤ j → j < i + 1 + n → names (named_from m f (i + 1) n) f j ≡ any_given (block_cells m f j))
          → names (named_from m f i (suc n)) f j ≡ any_given (block_cells m f j)
      go true t on =
          let e = eqb-true i j t in
          here (any_given (block_cells m f i)) (named_from m f (i + 1) n) (named_before n (i + 1) j (omega arith)) e ∙ ap (λ (k : ℕ). any_given (block_cells m f k)) e
      go false t on =
          let e = eqb-false i j t in
          later (any_given (block_cells m f i)) (named_from m f (i + 1) n) e ∙ on (omega arith) (omega arith)

-- ---- of both ----

or_false : (b : Bool) → (b || false) ≡ b
or_false true = refl
or_false false = refl

-- A BLOCK IS NAMED precisely where it holds a given byte
pub blocks_named_lem : (m : Memory) (f : Flash) (i : ℕ) → i < blocks small f → names (blocks_named m) f i ≡ any_given (block_cells m f i)
unfolding blocks_named same_flash
blocks_named_lem m Code i h =
    names_append (named_from m Code 0 16) (named_from m Data 0 8) Code i
    ∙ rw (named_there m Code 16 0 i (omega arith) (omega arith), named_other m Data Code refl 8 0 i) (or_false _)
blocks_named_lem m Data i h =
    names_append (named_from m Code 0 16) (named_from m Data 0 8) Data i
    ∙ rw (named_other m Code Data refl 16 0 i, named_there m Data 8 0 i (omega arith) (omega arith))

-- ---- each is there ----

unfoldable pub all_there : List Named → Bool
all_there [] = true
all_there (b ∷ bs) = ltb b.block.0 (blocks small b.flash) && all_there bs

append_there : (xs ys : List Named) → all_there xs ≡ true → all_there ys ≡ true → all_there (xs ++ ys) ≡ true
unfolding all_there
append_there [] ys p q = q
append_there (b ∷ xs) ys p q = go (ltb b.block.0 (blocks small b.flash)) p (λ e. append_there xs ys e q)
  where
    go : (x : Bool) {y z : Bool} → (x && y) ≡ true → (y ≡ true → z ≡ true) → (x && z) ≡ true
    go true e k = k e
    go false e k = e

from_there : (m : Memory) (f : Flash) (n i : ℕ) → i + n ≤ blocks small f → all_there (named_from m f i n) ≡ true
unfolding all_there named_from
from_there m f zero i h = refl
from_there m f (suc n) i h = go (any_given (block_cells m f i)) (named_from m f (i + 1) n) (from_there m f n (i + 1) (omega arith))
  where
    go : (x : Bool) (l : List Named) → all_there l ≡ true → all_there (cond x (named f i ∷ l) l) ≡ true
    go true l e = rw (lt-ltb i (blocks small f) (omega arith)) e
    go false l e = e

pub named_all_there : (m : Memory) → all_there (blocks_named m) ≡ true
unfolding blocks_named
named_all_there m =
    append_there (named_from m Code 0 16) (named_from m Data 0 8) (from_there m Code 16 0 (omega arith)) (from_there m Data 8 0 (omega arith))

-- ---- "in rising address order": so no block is named twice ----

-- each begins at that address or behind it, and behind the one before it
unfoldable pub rises : ℕ → List Named → Bool
rises a [] = true
rises a (b ∷ bs) = leb a (first_byte b.flash b.block).0 && rises ((first_byte b.flash b.block).0 + 1) bs

rises_from : (a c : ℕ) (bs : List Named) → a ≤ c → rises c bs ≡ true → rises a bs ≡ true
unfolding rises
rises_from a c [] h e = refl
rises_from a c (b ∷ bs) h e =
    let at = (first_byte b.flash b.block).0 in
    let p = both (leb c at) (rises (at + 1) bs) e in
    let l = leb-true c at p.0 in
    rw (le-leb a at (omega arith)) p.1

-- those of a flash from block i on, before others that rise
from_rises : (m : Memory) (f : Flash) (later : List Named) (n i : ℕ) → rises (start f + (i + n) * block_size f) later ≡ true
    → rises (start f + i * block_size f) (named_from m f i n ++ later) ≡ true
unfolding rises named_from
from_rises m f later zero i e = let k : i + 0 ≡ i = omega arith in rw k at e
from_rises m f later (suc n) i e =
    go (any_given (block_cells m f i)) (named_from m f (i + 1) n) (from_rises m f later n (i + 1) (let k : i + suc n ≡ i + 1 + n = omega arith in rw k at e))
  where
    here : ℕ
    here = start f + i * block_size f

    next : here + 1 ≤ start f + (i + 1) * block_size f
    next = omega (arith, below i (i + 1) (block_size f) (omega arith), (size_bounds f).0)

    go : (x : Bool) (l : List Named) → rises (start f + (i + 1) * block_size f) (l ++ later) ≡ true → rises here (cond x (named f i ∷ l) l ++ later) ≡ true
    go true l h = rw (le-leb here here (omega arith)) (rises_from (here + 1) (start f + (i + 1) * block_size f) (l ++ later) next h)
    go false l h = rises_from here (start f + (i + 1) * block_size f) (l ++ later) (omega (arith, next)) h

-- THEY RISE
pub named_rise : (m : Memory) → rises 0 (blocks_named m) ≡ true
unfolding blocks_named rises
named_rise m =
    let d : rises (start Data + 0 * block_size Data) (named_from m Data 0 8 ++ []) ≡ true = from_rises m Data [] 8 0 refl in
    let e : rises (start Data) (named_from m Data 0 8) ≡ true = ap (λ (l : List Named). rises (start Data) l) (sym (append-nil (named_from m Data 0 8))) ∙ d in
    from_rises m Code (named_from m Data 0 8) 16 0 (rises_from 32768 (start Data) (named_from m Data 0 8) (omega arith) e)

-- a block before them is none of them, so of blocks that rise each differs from all behind it
pub rising_apart : (bs : List Named) (b : Named) → rises ((first_byte b.flash b.block).0 + 1) bs ≡ true → names bs b.flash b.block.0 ≡ false
unfolding rises names
rising_apart [] b e = refl
rising_apart (c ∷ bs) b e = go (is_block c b.flash b.block.0) refl (rising_apart bs b)
  where
    at : ℕ
    at = (first_byte b.flash b.block).0

    other : ℕ
    other = (first_byte c.flash c.block).0

    p : (leb (at + 1) other ≡ true) × (rises (other + 1) bs ≡ true)
    p = both (leb (at + 1) other) (rises (other + 1) bs) e

    go : (x : Bool) → is_block c b.flash b.block.0 ≡ x → (rises (at + 1) bs ≡ true → names bs b.flash b.block.0 ≡ false)
        → (x || names bs b.flash b.block.0) ≡ false
    go true q on =
        let s = both (same_flash c.flash b.flash) (eqb c.block.0 b.block.0) q in
        let f = same_flash_lem c.flash b.flash s.0 in
        let i = eqb-true c.block.0 b.block.0 s.1 in
        let same : other ≡ at = ap (λ (g : Flash). start g + c.block.0 * block_size g) f ∙ ap (λ (k : ℕ). start b.flash + k * block_size b.flash) i in
        absurd (omega (arith, same, leb-true (at + 1) other p.0))
    go false q on = on (rises_from (at + 1) (other + 1) bs (omega (arith, leb-true (at + 1) other p.0)) p.1)
