-- Laws of the chip's two flashes: bounds of their numbers, and a flash counted in blocks or in pages. Assumes nothing.
use mathlib.Core.Path.{◌≡◌}
use Prim.Native.Nat.{ℕ, ◌*◌, ◌<◌, ◌≤◌}
use native.Mathlib.Omega.{arith}
use Rattle.rules.specs.declared.Chip.{Chip}
use Rattle.rules.specs.declared.Flash.{Flash}
use Rattle.rules.specs.declared.Flash.TheVariants.{Code, Data}
use Rattle.rules.specs.Chip.{block_size, start, flash_size, page_size, pages_per_block, blocks, pages}

pub size_bounds : (f : Flash) → (0 < block_size f) × (block_size f ≤ 2048)
size_bounds Code = omega arith
size_bounds Data = omega arith

pub start_bound : (f : Flash) → start f ≤ 0xF1000
start_bound Code = omega arith
start_bound Data = omega arith

-- the same bytes, counted in pages: of so many blocks, and of a flash
pub blocks_in_pages : (f : Flash) (n : ℕ) → n * pages_per_block f * page_size ≡ n * block_size f
blocks_in_pages Code n = omega arith
blocks_in_pages Data n = omega arith

pub in_pages : (chip : Chip) (f : Flash) → pages chip f * page_size ≡ flash_size chip f
in_pages chip f = blocks_in_pages f (blocks chip f)

-- so many blocks have few enough pages to be counted
pub few_pages : (f : Flash) (n : ℕ) → n ≤ 65536 → n * pages_per_block f ≤ 524288
few_pages Code n h = omega arith
few_pages Data n h = omega arith

pub pages_bound : (chip : Chip) (f : Flash) → chip.code < 65536 → chip.«data» < 65536 → pages chip f ≤ 524288
pages_bound chip Code g h = omega arith
pages_bound chip Data g h = omega arith
