-- The meaning of the made sheet, block after block: what each block holds at the end, and so each byte. Assumes nothing.
use mathlib.Core.Path.{◌≡◌, refl, sym, ap, ◌∙◌}
use mathlib.Core.Bool.{Bool, true, false, cond, ◌||◌}
use mathlib.Core.List.{List, [], ◌∷◌}
use Prim.Native.Nat.{ℕ, zero, suc, ◌+◌, ◌*◌, ◌/◌, ◌%◌, ◌<◌, ◌≤◌}
use native.Mathlib.Nat.{div-add-mod', mod-lt, div-lt_iff_lt-mul}
use native.Mathlib.Omega.{arith}
use lib.Dec.{ltb, eqb}
use lib.ListN.{length, drop, set}
use lib.Seq.{get_or-take, get_or-drop}
use borrow.Author.Tests.{eqb-true, lt-ltb, le-ltb, ltb-true, ltb-false}
use Rattle.rules.specs.declared.Flash.{Flash}
use Rattle.rules.specs.declared.Options.{Options}
use Rattle.rules.specs.declared.Status.TheVariants.{Byte}
use Rattle.rules.specs.Chip.{same_flash, Memory, small, byte_at, part_of, blank_byte, blocks, block_size, pages_per_block, flash_size, flash_of}
use Rattle.rules.specs.Sheet.{form_two, count}
use Rattle.rules.specs.Meaning.{Ended, meaning_from, meaning}
use Rattle.rules.specs.Hex.{not_given, any_given, Named, block_cells, cell_byte, cell_bytes, blocks_named, body_of, steps_of, sheet_of}
use Rattle.rules.proofs.Choices.{both}
use Rattle.chip_finder.proofs.Geometry.{size_bounds}
use Rattle.chip_finder.proofs.Parts.{inside, length_part}
use Rattle.joined_laws.specs.Turns.{Fit}
use Rattle.rules.proofs.WritesTwice.{same_flash_lem}
use Rattle.hex_laws.specs.Programmed.{Given, in_named, Unprotected, Finished}
use Rattle.hex_laws.proofs.NamedOnce.{is_block, names, blocks_named_lem}
use Rattle.hex_laws.proofs.OneBlock.{rewritten, parts_after, fit_after, block_meaning}
use Rattle.hex_laws.proofs.SheetMade.{body_length_lem, Ahead, next, form_one_lem, all_ahead}

-- ---- block after block ----

-- the bytes that the cells give block k of a flash
abbrev given : Memory → Flash → ℕ → List ℕ
given c f k = cell_bytes (block_cells c f k)

-- after these blocks, from that memory on: each holds what the cells give it, and every other block what it held
record After (c : Memory) (s : List ℕ) (bs : List Named) (o : Options) (m : Memory) (e : Ended) : Type 0 where
  fit : Fit small e.memory
  parts : (f : Flash) (k : ℕ) → part_of (block_size f) k (flash_of e.memory f) ≡ cond (names bs f k) (given c f k) (part_of (block_size f) k (flash_of m f))
  options : e.options ≡ o
  status : e.report.status ≡ Byte 0x06
  steps : e.report.steps ≡ count s
  pieces : e.report.pieces ≡ 0

module _ (c : Memory) (cells : Fit small c) (s : List ℕ) (form : form_two s ≡ false) (few : length s ≤ 65536) (o : Options) (free : Unprotected o) where
  after_from : (bs : List Named) (i at n : ℕ) (m : Memory) (sums : List ℕ) → Fit small m → Ahead c s i at bs
      → After c s bs o m (meaning_from small s o m i n sums (3 * length bs))
  unfolding meaning_from names
  after_from [] i at n m sums fit a =
      record { fit = fit; parts = λ f k. refl; options = refl; status = refl; steps = (let q = a.all in omega arith); pieces = refl }
  after_from (b ∷ bs) i at n m sums fit a =
      let x = next c cells s form few i at b bs a in
      let body = body_of c b in
      let l = body_length_lem c cells b x.here in
      let mid = rewritten b.flash b.block body m in
      let p = 1 + pages_per_block b.flash in
      let later = 3 * length bs in
      let r = after_from bs (i + 1 + 1 + 1) (at + block_size b.flash + block_size b.flash) (n + 1 + p + p) mid (set (set (set sums i 0) (i + 1) 0) (i + 1 + 1) 0) (fit_after m fit b body x.here l) x.later in
      let k : 3 * length (b ∷ bs) ≡ suc (suc (suc later)) = omega arith in
      let e = ap (meaning_from small s o m i n sums) k ∙ block_meaning o free s i b body x.here x.three n later m sums fit in
      rw e
      (record {
        fit = r.fit;
        parts = λ f j. r.parts f j ∙ ap (cond (names bs f j) (given c f j)) (parts_after m fit b body x.here l f j ∙ own f j (is_block b f j) refl (part_of (block_size f) j (flash_of m f))) ∙ either_of (is_block b f j) (names bs f j) (given c f j) (part_of (block_size f) j (flash_of m f));
        options = r.options;
        status = r.status;
        steps = r.steps;
        pieces = r.pieces;
      })
    where
      -- the body of a block is what the cells give it
      own : (f : Flash) (j : ℕ) (t : Bool) → is_block b f j ≡ t → (old : List ℕ) → cond t (body_of c b) old ≡ cond t (given c f j) old
      own f j true e old =
          let q = both (same_flash b.flash f) (eqb b.block.0 j) e in
          rw (← same_flash_lem b.flash f q.0, ← eqb-true b.block.0 j q.1)
      own f j false e old = refl

      either_of : (x y : Bool) (new old : List ℕ) → cond y new (cond x new old) ≡ cond (x || y) new old
      either_of true true new old = refl
      either_of true false new old = refl
      either_of false true new old = refl
      either_of false false new old = refl

-- ---- byte by byte ----

-- a byte of a flash is a byte of its part
byte_part : (size k : ℕ) (xs : List ℕ) → 0 < size → byte_at xs k ≡ byte_at (part_of size (k / size) xs) (k % size)
unfolding part_of
byte_part size k xs h =
    let e : k / size * size + k % size ≡ k = div-add-mod' k size in
    sym (get_or-take size (drop (k / size * size) xs) (k % size) 0 (mod-lt k h) ∙ get_or-drop (k / size * size) xs (k % size) 0 ∙ ap (byte_at xs) e)

cell_byte_lem : (cs : List ℕ) (k : ℕ) → byte_at (cell_bytes cs) k ≡ cell_byte (byte_at cs k)
unfolding cell_bytes
cell_byte_lem [] k = refl
cell_byte_lem (c ∷ cs) zero = refl
cell_byte_lem (c ∷ cs) (suc k) = cell_byte_lem cs k

-- a block with a given byte
any_given_lem : (cs : List ℕ) (k : ℕ) → k < length cs → byte_at cs k < not_given → any_given cs ≡ true
unfolding any_given
any_given_lem [] k h g = absurd (omega arith)
any_given_lem (c ∷ cs) zero h g = rw (lt-ltb c not_given g)
any_given_lem (c ∷ cs) (suc k) h g = go (ltb c not_given) (any_given_lem cs k (omega arith) g)
  where
    go : (t : Bool) → any_given cs ≡ true → cond t true (any_given cs) ≡ true
    go true e = refl
    go false e = e

module _ (c : Memory) (cells : Fit small c) (before after : Memory)
    (parts : (f : Flash) (k : ℕ) → part_of (block_size f) k (flash_of after f) ≡ cond (names (blocks_named c) f k) (given c f k) (part_of (block_size f) k (flash_of before f)))
    (f : Flash) (k : ℕ) (h : k < flash_size small f) where
  abbrev size : ℕ
  size = block_size f

  abbrev block : ℕ
  block = k / size

  some : 0 < size
  some = (size_bounds f).0

  there : block < blocks small f
  there = (div-lt_iff_lt-mul some).1 h

  -- its block, by whether it is named
  held : (t : Bool) → in_named c f k ≡ t → part_of size block (flash_of after f) ≡ cond t (given c f block) (part_of size block (flash_of before f))
  held t e =
      parts f block
      ∙ ap (λ (x : Bool). cond x (given c f block) (part_of size block (flash_of before f))) (blocks_named_lem c f block there ∙ e)

  -- it is
  byte_named : in_named c f k ≡ true → byte_at (flash_of after f) k ≡ cell_byte (byte_at (flash_of c f) k)
  byte_named e =
      byte_part size k (flash_of after f) some
      ∙ ap (λ (xs : List ℕ). byte_at xs (k % size)) (held true e)
      ∙ cell_byte_lem (block_cells c f block) (k % size)
      ∙ ap cell_byte (sym (byte_part size k (flash_of c f) some))

  -- it is not
  byte_other : in_named c f k ≡ false → byte_at (flash_of after f) k ≡ byte_at (flash_of before f) k
  byte_other e =
      byte_part size k (flash_of after f) some
      ∙ ap (λ (xs : List ℕ). byte_at xs (k % size)) (held false e)
      ∙ sym (byte_part size k (flash_of before f) some)

  byte_given : Given c f k → byte_at (flash_of after f) k ≡ byte_at (flash_of c f) k
  byte_given g =
      let l : length (block_cells c f block) ≡ size = length_part size block (flash_of c f) (inside size (blocks small f) block (cells f) there) in
      let n = any_given_lem (block_cells c f block) (k % size) (rw l (mod-lt k some)) (rw (← byte_part size k (flash_of c f) some) g) in
      byte_named n ∙ rw (lt-ltb (byte_at (flash_of c f) k) not_given g)

  byte_gap : (Given c f k → ⊥) → in_named c f k ≡ true → byte_at (flash_of after f) k ≡ blank_byte
  byte_gap g e = byte_named e ∙ rw (le-ltb (byte_at (flash_of c f) k) not_given (not_below (byte_at (flash_of c f) k) g))
    where
      not_below : (x : ℕ) → (x < not_given → ⊥) → not_given ≤ x
      not_below x n = go (ltb x not_given) refl
        where
          go : (t : Bool) → ltb x not_given ≡ t → not_given ≤ x
          go true q = absurd (n (ltb-true x not_given q))
          go false q = ltb-false x not_given q

-- THE MEANING of the made sheet on an unprotected chip
pub sheet_ends : (c : Memory) → Fit small c → steps_of c ≤ 64 → length (sheet_of c) ≤ 65536
    → (o : Options) → Unprotected o → (m : Memory) → Fit small m → (sums : List ℕ)
    → Finished (sheet_of c) c o m (meaning small (sheet_of c) o m sums)
unfolding meaning
sheet_ends c cells steps few o free m fit sums =
    let s = sheet_of c in
    let a = all_ahead c cells steps few in
    let n : count s ≡ 3 * length (blocks_named c) = (let q = a.all in omega arith) in
    let r = after_from c cells s (form_one_lem c cells steps few) few o free (blocks_named c) 0 (2 + 12 * steps_of c) 0 m sums fit a in
    rw n
    (record {
      flashes = record {
        fit = r.fit;
        given = byte_given c cells m _ r.parts;
        gap = byte_gap c cells m _ r.parts;
        other = byte_other c cells m _ r.parts;
      };
      options = r.options;
      status = r.status;
      steps = r.steps;
      pieces = r.pieces;
    })
