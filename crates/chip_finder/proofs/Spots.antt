-- Laws of addresses, over a flash's start, block size and number of blocks: the byte that an address names. Assumes nothing.
use mathlib.Core.Path.{◌≡◌, refl}
use mathlib.Core.Bool.{Bool, true, false, cond, ◌&&◌}
use Rattle.std.specs.Prelude.{Option, Some, None}
use Rattle.std.specs.Option.{MatchOption, option_or}
use Prim.Native.Nat.{ℕ, ◌+◌, ◌-◌, ◌*◌, ◌/◌, ◌%◌, ◌<◌, ◌≤◌}
use native.Mathlib.Nat.{div-lt_iff_lt-mul, mul-le-mul, le_of_lt}
use native.Mathlib.Omega.{arith}
use lib.Dec.{ltb, leb, eqb}
use borrow.Author.Tests.{lt-ltb, le-ltb, le-leb, lt-leb}
use Rattle.rules.specs.declared.Chip.{Chip}
use Rattle.rules.specs.declared.Flash.{Flash}
use Rattle.rules.specs.declared.Flash.TheVariants.{Code, Data}
use Rattle.rules.specs.declared.Address.{Address}
use Rattle.rules.specs.declared.Block.{Block}
use Rattle.rules.proofs.Answers.{pair_parts}
use Rattle.rules.specs.Answers.{In, Nowhere, Blocks, Invalid}
use Rattle.rules.specs.Chip.{block, start, block_size, within, block_at, begins, ends, first_in, pair_in, erase_address, range}
use Rattle.chip_finder.specs.Answers.{At, Outside}
use Rattle.chip_finder.specs.OneFlash.{spot_in, byte_in, pair_of}
use Rattle.rules.proofs.Choices.{none_left, none_right, all_five, picked, passed, first_found, first_left}

-- so many blocks have few enough bytes to be addressed
pub small_flash : (size count : ℕ) → size ≤ 2048 → count < 65536 → count * size ≤ 134217728
small_flash size count s c = mul-le-mul {n₂ = 65536} {m₂ = 2048} (le_of_lt c) s

-- the test that an address lies in the flash
abbrev pub lies : ℕ → ℕ → ℕ → ℕ → Bool
lies from size count a = leb from a && ltb a (from + count * size)

-- what is known of a byte that was found
pub record Spotted (from size count a : ℕ) (b : Block) (o : ℕ) : Type 0 where
  pub within : lies from size count a ≡ true
  pub block : block ((a - from) / size) ≡ b
  pub offset : (a - from) % size ≡ o

at_there : (b : Block) (o : ℕ) → At b o ≡ Outside → ⊥
at_there b o e = let z : ◌≡◌ {A = ℕ} 0 1 = cc in omega arith

module _ (from size count a : ℕ) where
  pub spot_before : a < from → spot_in from size count a ≡ Outside
  unfolding spot_in
  spot_before h = simp (lt-leb _ _ h)

  pub spot_past : from ≤ a → count * size ≤ a - from → spot_in from size count a ≡ Outside
  unfolding spot_in
  spot_past h g =
      let e : ltb a (from + count * size) ≡ false = le-ltb a (from + count * size) (omega arith) in
      rw (le-leb from a h, e)

  pub spot_inside : from ≤ a → a - from < count * size
      → spot_in from size count a ≡ At (block ((a - from) / size)) ((a - from) % size)
  unfolding spot_in
  spot_inside h g =
      let e : ltb a (from + count * size) ≡ true = lt-ltb a (from + count * size) (omega arith) in
      rw (le-leb from a h, e)

  pub block_below : 0 < size → a - from < count * size → (a - from) / size < count
  block_below p g = (div-lt_iff_lt-mul p).1 g

  pub spotted : (b : Block) (o : ℕ) → spot_in from size count a ≡ At b o → Spotted from size count a b o
  unfolding spot_in
  spotted b o e =
      let x = At (block ((a - from) / size)) ((a - from) % size) in
      let p = picked (lies from size count a) x Outside (At b o) e (at_there b o) in
      let q = pair_parts (block ((a - from) / size)) b ((a - from) % size) o p.1 in
      record { within = p.0; block = q.0; offset = q.1 }

  pub outside : spot_in from size count a ≡ Outside → lies from size count a ≡ false
  unfolding spot_in
  outside e = passed (lies from size count a) _ Outside e (at_there _ _)

-- two answers of the finder are told apart
pub in_there : (f : Flash) (b : Block) → In f b ≡ Nowhere → ⊥
in_there f b e = let z : ◌≡◌ {A = ℕ} 0 1 = cc in omega arith

pub blocks_there : (f : Flash) (a b : Block) → Blocks f a b ≡ Invalid → ⊥
blocks_there f a b e = let z : ◌≡◌ {A = ℕ} 0 1 = cc in omega arith

-- ---- pairs of addresses in one flash ----

module _ (chip : Chip) (f : Flash) where
  -- the tests of the byte at an offset, from the finder's answer
  pub byte_found : (o : ℕ) (a : Address) (g : Flash) (b : Block) → byte_in chip f o a ≡ In g b
      → ((within chip f a && eqb ((a.0 - start f) % block_size f) o) ≡ true) × (f ≡ g) × (block_at f a ≡ b)
  unfolding byte_in
  byte_found o a g b e =
      let p = picked (within chip f a && eqb ((a.0 - start f) % block_size f) o) (In f (block_at f a)) Nowhere (In g b) e (in_there g b) in
      let q = pair_parts f g (block_at f a) b p.1 in
      (p.0, q.0, q.1)

  pub byte_none : (o : ℕ) (a : Address) → byte_in chip f o a ≡ Nowhere
      → (within chip f a && eqb ((a.0 - start f) % block_size f) o) ≡ false
  unfolding byte_in
  byte_none o a e =
      passed (within chip f a && eqb ((a.0 - start f) % block_size f) o) (In f (block_at f a)) Nowhere e (in_there _ _)

  module _ (sad ead : Address) where
    pub pair_turned : ead.0 < sad.0 → pair_of chip f sad ead ≡ Invalid
    unfolding pair_of
    pair_turned h = rw (lt-leb sad.0 ead.0 h)

    pub pair_no_first : byte_in chip f 0 sad ≡ Nowhere → pair_of chip f sad ead ≡ Invalid
    unfolding pair_of
    pair_no_first e =
        rw (none_left (leb sad.0 ead.0) (within chip f sad) (within chip f ead) (begins f sad) (ends f ead) (byte_none 0 sad e))

    pub pair_no_last : byte_in chip f (block_size f - 1) ead ≡ Nowhere → pair_of chip f sad ead ≡ Invalid
    unfolding pair_of
    pair_no_last e =
        rw (none_right (leb sad.0 ead.0) (within chip f sad) (within chip f ead) (begins f sad) (ends f ead) (byte_none (block_size f - 1) ead e))

    pub pair_both : (g h : Flash) (first last : Block) → sad.0 ≤ ead.0 → byte_in chip f 0 sad ≡ In g first
        → byte_in chip f (block_size f - 1) ead ≡ In h last → pair_of chip f sad ead ≡ Blocks f first last
    unfolding pair_of
    pair_both g h first last o p q =
        let x = byte_found 0 sad g first p in
        let y = byte_found (block_size f - 1) ead h last q in
        let t = all_five (leb sad.0 ead.0) (within chip f sad) (within chip f ead) (begins f sad) (ends f ead) (le-leb sad.0 ead.0 o) x.0 y.0 in
        rw (t, x.2, y.2)

-- ---- both flashes: what code flash has stands first, and what it has not is data flash's ----

-- a call of `or_else`, where the other answer is b
pub or_else_is : {X : Type 0} (a b r : Option X) {P : Type 0} → MatchOption a P (λ x. r ≡ Some x) → (P → r ≡ b) → r ≡ option_or a b
or_else_is None b r m k = k m
or_else_is (Some x) b r m k = m

-- a test and then another answer
or_cond : {X : Type 0} (t : Bool) (y : X) (x : Option X) → option_or (cond t (Some y) None) x ≡ cond t (Some y) x
or_cond true y x = refl
or_cond false y x = refl

pub erase_either : (chip : Chip) (a : Address) → option_or (byte_in chip Code 0 a) (byte_in chip Data 0 a) ≡ erase_address chip a
unfolding erase_address byte_in
erase_either chip a = or_cond (first_in chip Code a) (Code, block_at Code a) (byte_in chip Data 0 a)

pub range_either : (chip : Chip) (sad ead : Address) → option_or (pair_of chip Code sad ead) (pair_of chip Data sad ead) ≡ range chip sad ead
unfolding range pair_of
range_either chip sad ead = or_cond (pair_in chip Code sad ead) (Code, block_at Code sad, block_at Code ead) (pair_of chip Data sad ead)

module _ (chip : Chip) (a : Address) where
  pub erase_code_lem : (g : Flash) (b : Block) → byte_in chip Code 0 a ≡ In g b → In g b ≡ erase_address chip a
  unfolding erase_address byte_in
  erase_code_lem g b e = first_found (first_in chip Code a) (In Code (block_at Code a)) Nowhere (In g b) (byte_in chip Data 0 a) e (in_there g b)

  pub erase_data : byte_in chip Code 0 a ≡ Nowhere → byte_in chip Data 0 a ≡ erase_address chip a
  unfolding erase_address byte_in
  erase_data e = first_left (first_in chip Code a) (In Code (block_at Code a)) Nowhere (byte_in chip Data 0 a) e (in_there _ _)

module _ (chip : Chip) (sad ead : Address) where
  pub range_code : (g : Flash) (first last : Block) → pair_of chip Code sad ead ≡ Blocks g first last
      → Blocks g first last ≡ range chip sad ead
  unfolding range pair_of
  range_code g first last e =
      first_found (pair_in chip Code sad ead) (Blocks Code (block_at Code sad) (block_at Code ead)) Invalid (Blocks g first last) (pair_of chip Data sad ead) e
      (blocks_there g first last)

  pub range_data : pair_of chip Code sad ead ≡ Invalid → pair_of chip Data sad ead ≡ range chip sad ead
  unfolding range pair_of
  range_data e =
      first_left (pair_in chip Code sad ead) (Blocks Code (block_at Code sad) (block_at Code ead)) Invalid (pair_of chip Data sad ead) e
      (blocks_there _ _ _)
