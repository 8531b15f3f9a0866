-- The blocks that the addresses of a valid pair lie in are its range, where code flash ends before data flash begins and data flash has addresses
-- of three bytes, as on both chips. Assumes nothing.
use mathlib.Core.Path.{◌≡◌, refl, sym}
use mathlib.Core.Bool.{Bool, true, false, false≢true}
use Prim.Native.Nat.{ℕ, ◌+◌, ◌/◌, ◌<◌, ◌≤◌}
use native.Mathlib.Omega.{arith}
use lib.Dec.{ltb, leb}
use borrow.Author.Tests.{ltb-true, leb-true, lt-ltb, le-ltb}
use Rattle.rules.specs.declared.Chip.{Chip}
use Rattle.rules.specs.declared.Flash.{Flash}
use Rattle.rules.specs.declared.Flash.TheVariants.{Code, Data}
use Rattle.rules.specs.declared.Address.{Address}
use Rattle.rules.specs.Chip.{start, block_size, flash_size, within, begins, ends, pair_in, range, invalid}
use Rattle.rules.proofs.Choices.{both, each_of_five}
use Rattle.chip_finder.specs.Held.{blocks_held}

pub block_bounded : (f : Flash) (x : ℕ) → x < 16777216 → x / block_size f < 65536
block_bounded Code x h = omega arith
block_bounded Data x h = omega arith

-- where a valid pair of one flash lies
record Lies (chip : Chip) (f : Flash) (sad ead : Address) : Type 0 where
  order : sad.0 ≤ ead.0
  from : start f ≤ sad.0
  upto : ead.0 < start f + flash_size chip f

module _ (chip : Chip) (sad ead : Address) where
  lies : (f : Flash) → pair_in chip f sad ead ≡ true → Lies chip f sad ead
  lies f t =
      let z = start f + flash_size chip f in
      let h = each_of_five (leb sad.0 ead.0) (within chip f sad) (within chip f ead) (begins f sad) (ends f ead) t in
      record {
        order = leb-true sad.0 ead.0 h.0;
        from = leb-true (start f) sad.0 (both (leb (start f) sad.0) (ltb sad.0 z) h.1).0;
        upto = ltb-true ead.0 z (both (leb (start f) ead.0) (ltb ead.0 z) h.2).1;
      }

  module _ (code : flash_size chip Code ≤ start Data) (dat : start Data + flash_size chip Data ≤ 16777216) where
    pub valid_held : invalid (range chip sad ead) ≡ false → blocks_held sad ead ≡ range chip sad ead
    unfolding range blocks_held
    valid_held h = go (pair_in chip Code sad ead) (pair_in chip Data sad ead) refl refl
      where
        go : (a b : Bool) → pair_in chip Code sad ead ≡ a → pair_in chip Data sad ead ≡ b → blocks_held sad ead ≡ range chip sad ead
        go true b p q =
            let l = lies Code p in
            rw (p, le-ltb ead.0 sad.0 l.order, le-ltb 0xFFFFFF ead.0 (omega (arith, l.upto)), lt-ltb sad.0 (start Data) (omega (arith, l.order, l.upto)))
        go false true p q =
            let l = lies Data q in
            rw (p, q, le-ltb ead.0 sad.0 l.order, le-ltb 0xFFFFFF ead.0 (omega (arith, l.upto)), le-ltb sad.0 (start Data) l.from)
        go false false p q = absurd (false≢true (sym (rw (p, q) at h)))
