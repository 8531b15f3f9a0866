-- What the finder finds is there, in flashes of the chip's lengths. Assumes nothing.
use mathlib.Core.Path.{◌≡◌}
use mathlib.Core.Bool.{true}
use Prim.Native.Nat.{◌<◌, ◌≤◌}
use lib.ListN.{length}
use borrow.Author.Tests.{lt-ltb, le-leb, eq-eqb}
use Rattle.rules.specs.declared.Chip.{Chip}
use Rattle.rules.specs.declared.Flash.{Flash}
use Rattle.rules.specs.declared.Flash.TheVariants.{Code, Data}
use Rattle.rules.specs.declared.Block.{Block}
use Rattle.rules.specs.Chip.{Memory, flash_size, fits, blocks, erase_block, bytes_from}
use Rattle.chip_finder.specs.LentFlashes.{range_shown}
use Rattle.chip_flash.specs.Writing.{erased_at}

module _ (chip : Chip) (m : Memory) (in_code : length m.code ≡ flash_size chip Code) (in_data : length m.«data» ≡ flash_size chip Data) where
  pub fits_both : (f : Flash) → fits chip m f ≡ true
  fits_both Code = eq-eqb _ _ in_code
  fits_both Data = eq-eqb _ _ in_data

  -- the block found is erased, the range found is summed
  pub erased_found : (f : Flash) (b : Block) → b.0 < blocks chip f → erased_at chip m f b ≡ erase_block m f b
  unfolding erased_at
  erased_found f b h = rw (fits_both f, lt-ltb b.0 (blocks chip f) h)

  pub shown_found : (f : Flash) (a b : Block) → a.0 ≤ b.0 → b.0 < blocks chip f → range_shown chip m f a b ≡ bytes_from m f a b
  unfolding range_shown
  shown_found f a b o h = rw (fits_both f, lt-ltb b.0 (blocks chip f) h, le-leb a.0 b.0 o)
