-- From a block to its addresses and back: the finder reads what it wrote, and what it reads is there. Assumes nothing.
use mathlib.Core.Path.{◌≡◌, sym, ap, ◌∙◌}
use mathlib.Core.Logic.{◌⊎◌, ⊎_elim}
use mathlib.Core.Bool.{true}
use Prim.Native.Nat.{ℕ, ◌+◌, ◌-◌, ◌*◌, ◌%◌, ◌<◌, ◌≤◌}
use native.Mathlib.Nat.{add-zero, mul-le-mul_right, le-div_iff_mul-le, div-mul-le_self, div-add-mod'}
use native.Mathlib.Omega.{arith}
use lib.Arith.{digits_lt, digits_div, digits_mod}
use lib.Dec.{ltb, leb, eqb}
use borrow.Author.Tests.{eq-eqb, eqb-true, le-ltb, le-leb, leb-true, ltb-true}
use Rattle.rules.specs.declared.Chip.{Chip}
use Rattle.rules.specs.declared.Flash.{Flash}
use Rattle.rules.specs.declared.Flash.TheVariants.{Code, Data}
use Rattle.rules.specs.declared.Address.{Address}
use Rattle.rules.specs.declared.Block.{Block}
use Rattle.rules.proofs.Answers.{triple_parts}
use Rattle.rules.specs.Answers.{In, Nowhere, Blocks, Invalid}
use Rattle.rules.specs.Chip.{block, start, block_size, blocks, flash_size, first_byte, last_byte, within, block_at, begins, ends, first_in, pair_in, erase_address, range}
use Rattle.chip_finder.specs.Answers.{At}
use Rattle.chip_finder.specs.OneFlash.{spot_in, byte_in, pair_of}
use Rattle.rules.proofs.Choices.{both, each_of_five, picked, split}
use Rattle.chip_finder.proofs.Geometry.{size_bounds}
use Rattle.chip_finder.proofs.Spots.{blocks_there, block_below, byte_found, spot_inside, spotted, pair_no_first, pair_both, erase_code_lem, erase_data, range_code, range_data}

-- byte o of block b, over the start, the size and the number of blocks
pub spot_there : (from size count b o : ℕ) → b < count → o < size → spot_in from size count (from + b * size + o) ≡ At (block b) o
spot_there from size count b o h g =
    let e : from + b * size + o - from ≡ b * size + o = omega arith in
    let l = digits_lt h g in
    spot_inside from size count (from + b * size + o) (omega arith) (omega arith) ∙ rw (e, digits_div b g, digits_mod b g)

module _ (chip : Chip) (f : Flash) (b : Block) (h : b.0 < blocks chip f) where
  pub byte_there : (o : ℕ) → o < block_size f → byte_in chip f o (record { 0 = start f + b.0 * block_size f + o }) ≡ In f b
  unfolding byte_in
  byte_there o g =
      let p = spotted (start f) (block_size f) (blocks chip f) (start f + b.0 * block_size f + o) b o (spot_there (start f) (block_size f) (blocks chip f) b.0 o h g) in
      rw (p.within, eq-eqb _ _ p.offset, p.block)

  pub first_there : byte_in chip f 0 (first_byte f b) ≡ In f b
  first_there = rw (add-zero (start f + b.0 * block_size f)) at (byte_there 0 (size_bounds f).0)

  pub last_there : byte_in chip f (block_size f - 1) (last_byte f b) ≡ In f b
  last_there = byte_there (block_size f - 1) (let s = size_bounds f in omega arith)

pub pair_there : (chip : Chip) (f : Flash) (a b : Block) → a.0 ≤ b.0 → b.0 < blocks chip f
    → pair_of chip f (first_byte f a) (last_byte f b) ≡ Blocks f a b
pair_there chip f a b o h =
    let m = mul-le-mul_right (block_size f) o in
    pair_both chip f (first_byte f a) (last_byte f b) f f a b (omega arith) (first_there chip f a (omega arith)) (last_there chip f b h)

-- code flash ends before data flash begins
abbrev pub Apart : Chip → Type 0
Apart chip = flash_size chip Code ≤ start Data

not_in_code : (chip : Chip) → Apart chip → (o : ℕ) (a : Address) → start Data ≤ a.0 → byte_in chip Code o a ≡ Nowhere
unfolding byte_in
not_in_code chip p o a h = rw (le-ltb a.0 (start Code + flash_size chip Code) (omega arith), le-leb 0 a.0 (omega arith))

pub erase_there : (chip : Chip) → Apart chip → (f : Flash) (b : Block) → b.0 < blocks chip f → erase_address chip (first_byte f b) ≡ In f b
erase_there chip p Code b h = sym (erase_code_lem chip (first_byte Code b) Code b (first_there chip Code b h))
erase_there chip p Data b h =
    sym (erase_data chip (first_byte Data b) (not_in_code chip p 0 (first_byte Data b) (omega arith))) ∙ first_there chip Data b h

pub range_there : (chip : Chip) → Apart chip → (f : Flash) (a b : Block) → a.0 ≤ b.0 → b.0 < blocks chip f
    → range chip (first_byte f a) (last_byte f b) ≡ Blocks f a b
range_there chip p Code a b o h = sym (range_code chip (first_byte Code a) (last_byte Code b) Code a b (pair_there chip Code a b o h))
range_there chip p Data a b o h =
    sym (range_data chip (first_byte Data a) (last_byte Data b) (pair_no_first chip Code (first_byte Data a) (last_byte Data b) (not_in_code chip p 0 (first_byte Data a) (omega arith))))
    ∙ pair_there chip Data a b o h

-- ---- what the finder reads is there ----

module _ (chip : Chip) (f : Flash) where
  block_inside : (a : Address) → within chip f a ≡ true → (block_at f a).0 < blocks chip f
  block_inside a w =
      let p = both (leb (start f) a.0) (ltb a.0 (start f + flash_size chip f)) w in
      let l = leb-true (start f) a.0 p.0 in
      let u = ltb-true a.0 (start f + flash_size chip f) p.1 in
      block_below (start f) (block_size f) (blocks chip f) a.0 (size_bounds f).0 (omega arith)

  blocks_order : (sad ead : Address) → sad.0 ≤ ead.0 → (block_at f sad).0 ≤ (block_at f ead).0
  blocks_order sad ead h =
      let d = div-mul-le_self (sad.0 - start f) (block_size f) in
      (le-div_iff_mul-le (size_bounds f).0).1 (omega arith)

  byte_inside : (o : ℕ) (a : Address) (g : Flash) (b : Block) → byte_in chip f o a ≡ In g b → b.0 < blocks chip g
  byte_inside o a g b e =
      let p = byte_found chip f o a g b e in
      let w = both (within chip f a) (eqb ((a.0 - start f) % block_size f) o) p.0 in
      rw (← p.1, ← p.2) (block_inside a w.0)

  pair_inside : (sad ead : Address) (g : Flash) (a b : Block) → pair_of chip f sad ead ≡ Blocks g a b
      → (a.0 ≤ b.0) × (b.0 < blocks chip g)
  unfolding pair_of
  pair_inside sad ead g a b e =
      let p = picked (pair_in chip f sad ead) (Blocks f (block_at f sad) (block_at f ead)) Invalid (Blocks g a b) e (blocks_there g a b) in
      let q = each_of_five (leb sad.0 ead.0) (within chip f sad) (within chip f ead) (begins f sad) (ends f ead) p.0 in
      let w = triple_parts f g (block_at f sad) a (block_at f ead) b p.1 in
      rw (← w.0, ← w.1, ← w.2) (blocks_order sad ead (leb-true sad.0 ead.0 q.0), block_inside ead q.2)

erase_split : (chip : Chip) (a : Address) → (erase_address chip a ≡ byte_in chip Code 0 a) ⊎ (erase_address chip a ≡ byte_in chip Data 0 a)
unfolding erase_address byte_in
erase_split chip a = split (first_in chip Code a) (In Code (block_at Code a)) Nowhere (byte_in chip Data 0 a)

pub erase_inside : (chip : Chip) (a : Address) (f : Flash) (b : Block) → erase_address chip a ≡ In f b → b.0 < blocks chip f
erase_inside chip a f b e =
    ⊎_elim (λ q. byte_inside chip Code 0 a f b (sym q ∙ e)) (λ q. byte_inside chip Data 0 a f b (sym q ∙ e)) (erase_split chip a)

range_split : (chip : Chip) (sad ead : Address) → (range chip sad ead ≡ pair_of chip Code sad ead) ⊎ (range chip sad ead ≡ pair_of chip Data sad ead)
unfolding range pair_of
range_split chip sad ead =
    split (pair_in chip Code sad ead) (Blocks Code (block_at Code sad) (block_at Code ead)) Invalid (pair_of chip Data sad ead)

pub range_inside : (chip : Chip) (sad ead : Address) (f : Flash) (a b : Block) → range chip sad ead ≡ Blocks f a b
    → (a.0 ≤ b.0) × (b.0 < blocks chip f)
range_inside chip sad ead f a b e =
    ⊎_elim (λ q. pair_inside chip Code sad ead f a b (sym q ∙ e)) (λ q. pair_inside chip Data sad ead f a b (sym q ∙ e)) (range_split chip sad ead)

-- ---- and the addresses read are those of its blocks ----

-- a byte by its block and its offset there
byte_back : (f : Flash) (a : Address) (o : ℕ) → start f ≤ a.0 → (a.0 - start f) % block_size f ≡ o
    → a.0 ≡ start f + (block_at f a).0 * block_size f + o
byte_back f a o h e = let d = div-add-mod' (a.0 - start f) (block_size f) in omega arith

pair_back : (chip : Chip) (f : Flash) (sad ead : Address) (g : Flash) (a b : Block) → pair_of chip f sad ead ≡ Blocks g a b
    → (sad ≡ first_byte g a) × (ead ≡ last_byte g b)
unfolding pair_of
pair_back chip f sad ead g a b e =
    let p = picked (pair_in chip f sad ead) (Blocks f (block_at f sad) (block_at f ead)) Invalid (Blocks g a b) e (blocks_there g a b) in
    let q = each_of_five (leb sad.0 ead.0) (within chip f sad) (within chip f ead) (begins f sad) (ends f ead) p.0 in
    let w = triple_parts f g (block_at f sad) a (block_at f ead) b p.1 in
    let l = from sad q.1 in
    let u = from ead q.2 in
    let low = byte_back f sad 0 l (eqb-true ((sad.0 - start f) % block_size f) 0 q.3) in
    let high = byte_back f ead (block_size f - 1) u (eqb-true ((ead.0 - start f) % block_size f) (block_size f - 1) q.4) in
    rw (← w.0, ← w.1, ← w.2)
    (ap address (low ∙ add-zero (start f + (block_at f sad).0 * block_size f)), ap address high)
  where
    address : ℕ → Address
    address n = record { 0 = n }

    from : (c : Address) → within chip f c ≡ true → start f ≤ c.0
    from c w = leb-true (start f) c.0 (both (leb (start f) c.0) (ltb c.0 (start f + flash_size chip f)) w).0

pub range_back : (chip : Chip) (sad ead : Address) (f : Flash) (a b : Block) → range chip sad ead ≡ Blocks f a b
    → (sad ≡ first_byte f a) × (ead ≡ last_byte f b)
range_back chip sad ead f a b e =
    ⊎_elim (λ q. pair_back chip Code sad ead f a b (sym q ∙ e)) (λ q. pair_back chip Data sad ead f a b (sym q ∙ e)) (range_split chip sad ead)
