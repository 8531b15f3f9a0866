-- Where the byte at an index of a range lies: its block, its page and the range's end, once for both flashes. Assumes nothing.
use mathlib.Core.Path.{◌≡◌, refl}
use mathlib.Core.Bool.{Bool, true, false, cond, ◌&&◌}
use mathlib.Core.List.{List, []}
use Prim.Native.Nat.{ℕ, ◌+◌, ◌-◌, ◌*◌, ◌/◌, ◌%◌, ◌<◌, ◌≤◌}
use native.Mathlib.Omega.{arith}
use lib.Dec.{ltb, leb}
use lib.ListN.{length, take, drop, length-take, length-drop}
use borrow.Author.Tests.{eqb-true, ltb-true, leb-true}
use Rattle.rules.specs.declared.Chip.{Chip}
use Rattle.rules.specs.declared.Flash.{Flash}
use Rattle.rules.specs.declared.Flash.TheVariants.{Code, Data}
use Rattle.rules.specs.declared.Block.{Block}
use Rattle.rules.specs.Chip.{Memory, flash_of, fits, block_size, blocks, blocks_from, bytes_from, page_size, pages_per_block}
use Rattle.rules.proofs.Choices.{both}
use Rattle.chip_finder.specs.LentFlashes.{range_shown}

-- `at` is the index of block b's first byte in a range from block a on
module _ (a b at : ℕ) where
  pub next_block : (f : Flash) → at + a * block_size f ≡ b * block_size f
      → at + pages_per_block f * page_size + a * block_size f ≡ (b + 1) * block_size f
  next_block Code e = omega arith
  next_block Data e = omega arith

  pub all_blocks : (f : Flash) → a ≤ b → at + a * block_size f ≡ b * block_size f → at ≡ (b - a) * block_size f
  all_blocks Code h e = omega arith
  all_blocks Data h e = omega arith

  pub block_fits : (f : Flash) (n : ℕ) → a ≤ b → b < n → at + a * block_size f ≡ b * block_size f
      → at + pages_per_block f * page_size ≤ (n - a) * block_size f
  block_fits Code n h g e = omega arith
  block_fits Data n h g e = omega arith

  pub spot : (f : Flash) (p i k : ℕ) → at + a * block_size f ≡ b * block_size f → p < pages_per_block f → i < page_size → k ≡ at + p * page_size + i
      → (a + k / block_size f ≡ b) × (k % block_size f / page_size ≡ p)
  spot Code p i k e h g q = (omega arith, omega arith)
  spot Data p i k e h g q = (omega arith, omega arith)

-- ---- a range that is shown is all there ----

module _ (a b count : ℕ) (xs : List ℕ) where
  long : (f : Flash) → a ≤ b → b < count → length xs ≡ count * block_size f
      → length (take ((b + 1 - a) * block_size f) (drop (a * block_size f) xs)) ≡ (b + 1 - a) * block_size f
  long Code h g e = simp (length-take, length-drop) (omega arith)
  long Data h g e = simp (length-take, length-drop) (omega arith)

pub range_there : (chip : Chip) (m : Memory) (f : Flash) (a b : Block) → (length (range_shown chip m f a b) ≡ 0 → ⊥)
    → (a.0 ≤ b.0) × (length (range_shown chip m f a b) ≡ blocks_from a b * block_size f)
unfolding range_shown
range_there chip m f a b n = go (fits chip m f && ltb b.0 (blocks chip f) && leb a.0 b.0) refl n
  where
    go : (t : Bool) → (fits chip m f && ltb b.0 (blocks chip f) && leb a.0 b.0) ≡ t → (length (cond t (bytes_from m f a b) []) ≡ 0 → ⊥)
        → (a.0 ≤ b.0) × (length (cond t (bytes_from m f a b) []) ≡ blocks_from a b * block_size f)
    go true e n =
        let p = both (fits chip m f && ltb b.0 (blocks chip f)) (leb a.0 b.0) e in
        let q = both (fits chip m f) (ltb b.0 (blocks chip f)) p.0 in
        let o = leb-true a.0 b.0 p.1 in
        (o, long a.0 b.0 (blocks chip f) (flash_of m f) f o (ltb-true b.0 (blocks chip f) q.1) (eqb-true (length (flash_of m f)) (blocks chip f * block_size f) q.0))
    go false e n = absurd (n refl)
