-- The meaning of three steps, erase, write and verify of one block, on an unprotected chip: the block holds the body then, and every other block
-- what it held. Assumes nothing.
use mathlib.Core.Path.{◌≡◌, refl, sym, ap, ◌∙◌}
use mathlib.Core.Bool.{true, false, cond, ◌&&◌}
use mathlib.Core.List.{List, ◌++◌}
use Prim.Native.Nat.{ℕ, zero, suc, ◌+◌, ◌-◌, ◌*◌, ◌/◌, ◌<◌, ◌≤◌}
use native.Mathlib.Omega.{arith}
use lib.Dec.{eqb}
use lib.ListN.{length, take, drop, replicate, set, length-drop, length-replicate}
use lib.Seq.{take-add, drop-drop, length-take-le}
use borrow.Author.Tests.{eq-eqb}
use Rattle.rules.specs.declared.Flash.{Flash}
use Rattle.rules.specs.declared.Flash.TheVariants.{Code, Data}
use Rattle.rules.specs.declared.Block.{Block}
use Rattle.rules.specs.declared.Kind.{Kind}
use Rattle.rules.specs.declared.Kind.TheVariants.{Erase, Write, Verify}
use Rattle.rules.specs.declared.Options.{Options}
use Rattle.rules.specs.declared.Step.{Step}
use Rattle.rules.specs.Chip.{Memory, same_flash, small, blank, blank_byte, block, blocks, block_size, first_byte, first_page, page_size, pages_per_block, part_of, put_part, erase_block, flash_of, with_flash}
use Rattle.rules.specs.Options.{erase_protected, write_protected}
use Rattle.rules.specs.Sheet.{flags_of, step_at, body_page}
use Rattle.rules.specs.Meaning.{tried, erase_from, write_from, done, erase_done, write_done, step_done, step_meaning, options_by, options_after, meaning_from}
use Rattle.rules.specs.Hex.{Named}
use Rattle.rules.proofs.WritesTwice.{own_flash}
use Rattle.octets.proofs.Lists.{same_refl}
use Rattle.chip_finder.proofs.Geometry.{blocks_in_pages}
use Rattle.chip_finder.proofs.Parts.{inside, length_put, part_put_other}
use Rattle.chip_flash.proofs.Memories.{with_of}
use Rattle.joined_laws.specs.Turns.{Fit, Leaves}
use Rattle.joined_laws.proofs.MeaningSteps.{erase_means, erase_last_lem}
use Rattle.joined_laws.proofs.Sizes.{fit_put, fit_erased}
use Rattle.hex_laws.specs.Programmed.{Unprotected}
use Rattle.hex_laws.proofs.BytesLaid.{laid, put_laid, laid_none, laid_on, erased, pages_blank, part_after}
use Rattle.hex_laws.proofs.NamedOnce.{is_block}

-- ---- one block ----

-- a step of one block
abbrev pub step_for : Kind → Flash → Block → ℕ → Step
step_for k f b body =
    record { kind = k; flash = f; first = b; last = b; flags = flags_of (first_byte f b); body = body }

one_block : (f : Flash) (b : ℕ) → (b + 1 - b) * block_size f ≡ block_size f
one_block Code b = omega arith
one_block Data b = omega arith

one_pages : (f : Flash) (b : ℕ) → (b + 1 - b) * pages_per_block f ≡ pages_per_block f
one_pages Code b = omega arith
one_pages Data b = omega arith

-- ---- one flash of a memory ----

with_with : (m : Memory) (f : Flash) (xs ys : List ℕ) → with_flash (with_flash m f xs) f ys ≡ with_flash m f ys
with_with m Code xs ys = refl
with_with m Data xs ys = refl

module _ (o : Options) (free : Unprotected o) where
  erase_free : (f : Flash) (b : Block) → erase_protected o f b ≡ false
  unfolding erase_protected
  erase_free f b = rw (free.sepr, free.btpr)

  write_free : (f : Flash) (b : Block) → write_protected o f b ≡ false
  unfolding write_protected
  write_free f b = rw (free.wrpr, free.btpr)

  -- ---- erase ----

  pub erased_block_lem : (s : List ℕ) (f : Flash) (b : Block) (body : ℕ) (m : Memory) → step_meaning o s (step_for Erase f b body) m ≡ done (erase_block m f b) 0x06 0 1 0
  erased_block_lem s f b body m =
      let t = step_for Erase f b body in
      let one : b.0 + 1 - b.0 ≡ 1 = omega arith in
      let none : b.0 + 0 ≡ b.0 = omega arith in
      ap (λ (x : Leaves). x.done) (erase_means o s t m refl)
      ∙ ap (λ (k : ℕ). erase_done (erase_from o t m 0 k)) one
      ∙ erase_last_lem o t m 0 (erase_free f (block (b.0 + 0)))
      ∙ ap (λ (k : ℕ). done (erase_block m f (block k)) 0x06 0 1 0) none

  -- ---- write: page after page ----

  module _ (s : List ℕ) (t : Step) (m : Memory) where
    abbrev f : Flash
    f = t.flash

    abbrev from : ℕ
    from = first_page f t.first

    pages_written : (left n : ℕ) (xs : List ℕ) → (from + n + left) * page_size ≤ length xs → t.body + (n + left) * page_size ≤ length s
        → ((k : ℕ) → n ≤ k → k < n + left → blank (part_of page_size (from + k) xs) ≡ true)
        → write_from o s t (with_flash m f xs) n left
        ≡ tried (with_flash m f (laid ((from + n) * page_size) (left * page_size) (take (left * page_size) (drop (t.body + n * page_size) s)) xs)) (n + left) 0x06
    unfolding write_from
    pages_written zero n xs h g free-page =
        let e : n + 0 ≡ n = omega arith in
        rw (laid_none ((from + n) * page_size) xs, e)
    pages_written (suc left) n xs h g free-page =
        let page = body_page s t n in
        let x = (from + n) * page_size in
        let at = t.body + n * page_size in
        let next = put_part page_size (from + n) page xs in
        let l : length page ≡ page_size = length-take-le page_size (drop at s) (rw length-drop (omega arith)) in
        let i : x + page_size ≤ length xs = omega arith in
        let kept = length_put page_size (from + n) xs i page l in
        let ih = pages_written left (n + 1) next (omega (arith, kept)) (omega arith) (λ k p q. ap blank (part_put_other page_size (from + n) xs i page l (from + k) (λ z. omega arith)) ∙ free-page k (omega arith) (omega arith)) in
        let a : (from + (n + 1)) * page_size ≡ x + page_size = omega arith in
        let c : t.body + (n + 1) * page_size ≡ at + page_size = omega arith in
        let d : n + suc left ≡ n + 1 + left = omega arith in
        let z : suc left * page_size ≡ page_size + left * page_size = omega arith in
        let y = laid_on x page_size (left * page_size) page (take (left * page_size) (drop (at + page_size) s)) xs (omega arith) l in
        let w : take (page_size + left * page_size) (drop at s) ≡ page ++ take (left * page_size) (drop (at + page_size) s) = take-add page_size (left * page_size) (drop at s) ∙ rw (drop-drop page_size at s) in
        rw (write_free f (block ((from + n) / pages_per_block f)), with_of m f xs, free-page n (omega arith) (omega arith), with_with m f xs next)
        (ih ∙ rw (a, c, d, z, w, ← y, put_laid page_size (from + n) page xs))

-- ---- the write and the verify ----

-- the memory after the write
abbrev pub rewritten : Flash → Block → List ℕ → Memory → Memory
rewritten f b body m = with_flash m f (put_part (block_size f) b.0 body (erased f b.0 (flash_of m f)))

module _ (o : Options) (s : List ℕ) (f : Flash) (b : Block) where
  abbrev size : ℕ
  size = block_size f

  pub written_block : Unprotected o → b.0 < blocks small f → (at : ℕ) (m : Memory) → Fit small m → at + size ≤ length s
      → step_meaning o s (step_for Write f b at) (erase_block m f b) ≡ done (rewritten f b (take size (drop at s)) m) 0x06 0 (1 + pages_per_block f) 0
  unfolding step_meaning step_done write_done
  written_block free h at m fit g =
      let t = step_for Write f b at in
      let p = pages_per_block f in
      let xs = erased f b.0 (flash_of m f) in
      let i = inside size (blocks small f) b.0 (fit f) h in
      let kept = length_put size b.0 (flash_of m f) i (replicate size blank_byte) (length-replicate size blank_byte) in
      let u = blocks_in_pages f 1 in
      let v = blocks_in_pages f b.0 in
      let w = pages_written o free s t m p 0 xs (omega (arith, kept, u, v)) (omega (arith, u)) (λ k _ l. pages_blank f b.0 (flash_of m f) i k (omega arith)) in
      let x : (b.0 * p + 0) * page_size ≡ b.0 * size = omega (arith, v) in
      let y : p * page_size ≡ size = omega (arith, u) in
      let z : at + 0 * page_size ≡ at = omega arith in
      ap (λ (k : ℕ). write_done k (write_from o s t (erase_block m f b) 0 k)) (one_pages f b.0)
      ∙ ap (write_done p) w
      ∙ rw (put_laid size b.0 (take size (drop at s)) xs, x, y, z)

  pub verified_block : (at : ℕ) (m : Memory) → part_of size b.0 (flash_of m f) ≡ take size (drop at s)
      → step_meaning o s (step_for Verify f b at) m ≡ done m 0x06 0 (1 + pages_per_block f) 0
  unfolding step_meaning step_done part_of
  verified_block at m e = rw (one_block f b.0, one_pages f b.0, e, same_refl (take size (drop at s)))

-- ---- what they leave ----

module _ (m : Memory) (fit : Fit small m) (b : Named) (body : List ℕ) (h : b.block.0 < blocks small b.flash) (l : length body ≡ block_size b.flash) where
  pub parts_after : (g : Flash) (k : ℕ) → part_of (block_size g) k (flash_of (rewritten b.flash b.block body m) g) ≡ cond (is_block b g k) body (part_of (block_size g) k (flash_of m g))
  unfolding same_flash
  parts_after g k = go b.flash g (inside (block_size b.flash) (blocks small b.flash) b.block.0 (fit b.flash) h) l
    where
      go : (f g : Flash) → b.block.0 * block_size f + block_size f ≤ length (flash_of m f) → length body ≡ block_size f
          → part_of (block_size g) k (flash_of (rewritten f b.block body m) g) ≡ cond (same_flash f g && eqb b.block.0 k) body (part_of (block_size g) k (flash_of m g))
      go Code Code i n = part_after 2048 b.block.0 k body m.code i n
      go Code Data i n = refl
      go Data Code i n = refl
      go Data Data i n = part_after 256 b.block.0 k body m.«data» i n

  pub fit_after : Fit small (rewritten b.flash b.block body m)
  fit_after =
      let f = b.flash in
      let xs = erased f b.block.0 (flash_of m f) in
      let r = fit_put small (erase_block m f b.block) (fit_erased small m fit f b.block h) f (block_size f) (blocks small f) b.block.0 body refl h l in
      rw (with_of m f xs, with_with m f xs (put_part (block_size f) b.block.0 body xs)) at r

-- ---- three steps of a meaning ----

module _ (o : Options) (s : List ℕ) where
  step_on : (i n left frames : ℕ) (m after : Memory) (sums : List ℕ) → options_after (step_at small s i) o ≡ o
      → step_meaning o s (step_at small s i) m ≡ done after 0x06 0 frames 0
      → meaning_from small s o m i n sums (suc left) ≡ meaning_from small s o after (i + 1) (n + frames) (set sums i 0) left
  unfolding meaning_from
  step_on i n left frames m after sums kept e = rw (kept, e)

-- entries i, i + 1 and i + 2 of a sheet are the erase, the write and the verify of that block, with these bodies
pub record Three (s : List ℕ) (i : ℕ) (b : Named) (body : List ℕ) : Type 0 where
  pub at : ℕ
  pub other : ℕ
  pub erase : step_at small s i ≡ step_for Erase b.flash b.block at
  pub write : step_at small s (i + 1) ≡ step_for Write b.flash b.block at
  pub verify : step_at small s (i + 1 + 1) ≡ step_for Verify b.flash b.block other
  pub inside : at + block_size b.flash ≤ length s
  pub writes : take (block_size b.flash) (drop at s) ≡ body
  pub compares : take (block_size b.flash) (drop other s) ≡ body

module _ (o : Options) (free : Unprotected o) (s : List ℕ) (i : ℕ) (b : Named) (body : List ℕ) (h : b.block.0 < blocks small b.flash) (three : Three s i b body) where
  pub block_meaning : (n left : ℕ) (m : Memory) (sums : List ℕ) → Fit small m
      → meaning_from small s o m i n sums (suc (suc (suc left)))
      ≡ meaning_from small s o (rewritten b.flash b.block body m) (i + 1 + 1 + 1) (n + 1 + (1 + pages_per_block b.flash) + (1 + pages_per_block b.flash)) (set (set (set sums i 0) (i + 1) 0) (i + 1 + 1) 0) left
  unfolding options_after options_by
  block_meaning n left m sums fit =
      let f = b.flash in
      let at = three.at in
      let l : length body ≡ block_size f = ap length (sym three.writes) ∙ length-take-le (block_size f) (drop at s) (rw length-drop (let g = three.inside in omega arith)) in
      let p = 1 + pages_per_block f in
      let after = rewritten f b.block body m in
      let k : part_of (block_size f) b.block.0 (flash_of after f) ≡ body =
      parts_after m fit b body h l f b.block.0 ∙ rw (own_flash f, eq-eqb b.block.0 b.block.0 refl) in
      step_on o s i n (suc (suc left)) 1 m (erase_block m f b.block) sums (rw three.erase) (rw three.erase (erased_block_lem o free s f b.block at m))
      ∙ step_on o s (i + 1) (n + 1) (suc left) p (erase_block m f b.block) after (set sums i 0) (rw three.write) (rw (three.write, ← three.writes) (written_block o s f b.block free h at m fit three.inside))
      ∙ step_on o s (i + 1 + 1) (n + 1 + p) left p after after (set (set sums i 0) (i + 1) 0) (rw three.verify) (rw three.verify (verified_block o s f b.block three.other after (k ∙ sym three.compares)))
