-- Laws of an address pair that is a range: its blocks are there, and its bytes are theirs. Assumes nothing.
use mathlib.Core.Path.{◌≡◌, refl, sym, ◌∙◌}
use mathlib.Core.Bool.{Bool, true, false, false≢true}
use Prim.Native.Nat.{ℕ, ◌+◌, ◌-◌, ◌*◌, ◌/◌, ◌%◌, ◌<◌, ◌≤◌}
use native.Mathlib.Nat.{div-add-mod', div-lt_iff_lt-mul, mul-sub, mul_comm, add-mul}
use native.Mathlib.Omega.{arith}
use lib.Dec.{ltb, leb}
use borrow.Author.Tests.{ltb-true, leb-true, eqb-true}
use Rattle.rules.specs.declared.Chip.{Chip}
use Rattle.rules.specs.declared.Flash.{Flash}
use Rattle.rules.specs.declared.Flash.TheVariants.{Code, Data}
use Rattle.rules.specs.declared.Address.{Address}
use Rattle.rules.specs.declared.Block.{Block}
use Rattle.rules.specs.Answers.{Blocks}
use Rattle.rules.specs.Chip.{start, blocks, block_size, block_at, blocks_from, flash_size, within, begins, ends, pair_in, range, invalid}
use Rattle.rules.proofs.Choices.{both, each_of_five}
use Rattle.chip_finder.proofs.Geometry.{size_bounds}

-- ---- from the first byte of a part to the last byte of a part, over their size ----

module _ (size x y : ℕ) (some : 0 < size) (low : x % size ≡ 0) (high : y % size ≡ size - 1) where
  from_start : x / size * size ≡ x
  from_start = omega (arith, div-add-mod' x size)

  to_end : (y / size + 1) * size ≡ y + 1
  to_end = omega (arith, div-add-mod' y size, add-mul (y / size) 1 size)

  pub forward : x ≤ y → x / size < y / size + 1
  forward o = (div-lt_iff_lt-mul some).1 (omega (arith, to_end))

  pub span : x ≤ y → (y / size + 1 - x / size) * size ≡ y - x + 1
  span o =
      let d : (y / size + 1 - x / size) * size ≡ (y / size + 1) * size - x / size * size =
      mul_comm _ size ∙ mul-sub size (y / size + 1) (x / size) ∙ rw (mul_comm size (y / size + 1), mul_comm size (x / size)) in
      omega (arith, d, from_start, to_end)

-- ---- of the chip ----

pub record Ranged (chip : Chip) (sad ead : Address) : Type 0 where
  pub flash : Flash
  pub first : Block
  pub last : Block
  pub is : range chip sad ead ≡ Blocks flash first last
  pub forward : first.0 ≤ last.0
  pub there : last.0 < blocks chip flash
  pub bytes : ead.0 - sad.0 + 1 ≡ blocks_from first last * block_size flash

module _ (chip : Chip) (sad ead : Address) where
  one_flash : (f : Flash) → pair_in chip f sad ead ≡ true → range chip sad ead ≡ Blocks f (block_at f sad) (block_at f ead)
      → Ranged chip sad ead
  one_flash f t e =
      let o = leb sad.0 ead.0 in
      let w = within chip f sad in
      let v = within chip f ead in
      let x = sad.0 - start f in
      let y = ead.0 - start f in
      let z = start f + flash_size chip f in
      let h = each_of_five o w v (begins f sad) (ends f ead) t in
      let order : sad.0 ≤ ead.0 = leb-true sad.0 ead.0 h.0 in
      let above : start f ≤ sad.0 = leb-true (start f) sad.0 (both (leb (start f) sad.0) (ltb sad.0 z) h.1).0 in
      let below : ead.0 < z = ltb-true ead.0 z (both (leb (start f) ead.0) (ltb ead.0 z) h.2).1 in
      let some = (size_bounds f).0 in
      let low : x % block_size f ≡ 0 = eqb-true (x % block_size f) 0 h.3 in
      let high : y % block_size f ≡ block_size f - 1 = eqb-true (y % block_size f) (block_size f - 1) h.4 in
      record {
        flash = f;
        first = block_at f sad;
        last = block_at f ead;
        is = e;
        forward = omega (arith, forward (block_size f) x y some low high (omega arith));
        there = (div-lt_iff_lt-mul some).1 (omega arith);
        bytes = omega (arith, span (block_size f) x y some low high (omega arith));
      }

  pub ranged : invalid (range chip sad ead) ≡ false → Ranged chip sad ead
  unfolding range
  ranged h = go (pair_in chip Code sad ead) (pair_in chip Data sad ead) refl refl
    where
      go : (a b : Bool) → pair_in chip Code sad ead ≡ a → pair_in chip Data sad ead ≡ b → Ranged chip sad ead
      go true b p q = one_flash Code p (rw p)
      go false true p q = one_flash Data q (rw (p, q))
      go false false p q = absurd (false≢true (sym (rw (p, q) at h)))
