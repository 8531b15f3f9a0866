-- Laws of erasing and programming: over one flash, one law for each outcome; over both, by the flash in hand. Assumes nothing.
use mathlib.Core.Path.{◌≡◌, refl, sym, ap, ◌∙◌}
use mathlib.Core.Bool.{Bool, true, false, cond, ◌&&◌}
use mathlib.Core.List.{List}
use Prim.Native.Nat.{ℕ, ◌-◌, ◌*◌}
use lib.Dec.{ltb, eqb}
use lib.ListN.{length, take, drop, replicate, length-replicate}
use borrow.Author.Tests.{eq-eqb, ne_eqb, eqb-true, ltb-true}
use borrow.Rule.Slice.PartMut.{put_mid}
use Rattle.rules.specs.declared.Chip.{Chip}
use Rattle.rules.specs.declared.Flash.{Flash}
use Rattle.rules.specs.declared.Block.{Block}
use Rattle.rules.specs.declared.Pages.{Pages}
use Rattle.rules.specs.Chip.{Memory, flash_of, with_flash, block_size, blocks, page_size, pages, blank, blank_byte, part_of, put_part, fits}
use Rattle.rules.specs.First.{first}
use Rattle.rules.specs.StandIn.{page_fault, page_written}
use Rattle.chip_finder.specs.Answers.{Missing}
use Rattle.chip_finder.specs.OneFlash.{is_there, place_of}
use Rattle.chip_flash.specs.Writing.{wrote, erased_at, programmed, erased_part, Written, written, page_status, programmed_part}
use Rattle.rules.proofs.Choices.{both}
use Rattle.chip_finder.proofs.Geometry.{in_pages}
use Rattle.chip_flash.proofs.Memories.{with_own, with_cond, with_fits}
use Rattle.chip_finder.proofs.Parts.{inside, length_put}
use Rattle.chip_finder.proofs.Places.{Placed, is_there_lem, not_there, part_cut, cut_length, part_back}

-- ---- erasing ----

module _ (size count n : ℕ) (flash : List ℕ) where
  pub erased_there : {at end : ℕ} → Placed (length flash) size count n n at end → (xs : List ℕ)
      → xs ≡ replicate (length (take (end - at) (drop at flash))) blank_byte
      → put_mid at (end - at) flash xs ≡ erased_part size count n flash
  unfolding erased_part
  erased_there p xs e = part_back size count flash n xs p ∙ rw (is_there_lem p, e, cut_length size count flash p)

  pub erased_missing : place_of (length flash) size count n n ≡ Missing → flash ≡ erased_part size count n flash
  unfolding erased_part
  erased_missing e = rw (not_there (length flash) size count n e)

-- a flash keeps its length where a part of it may be put in
kept_length : (size count n : ℕ) (flash new : List ℕ) → length new ≡ size → (t : Bool) → is_there (length flash) size count n ≡ t
    → length (cond t (put_part size n new flash) flash) ≡ length flash
kept_length size count n flash new l true e =
    let p = both (eqb (length flash) (count * size)) (ltb n count) e in
    length_put size n flash (inside size count n (eqb-true (length flash) (count * size) p.0) (ltb-true n count p.1)) new l
kept_length size count n flash new l false e = refl

pub erased_length : (size count n : ℕ) (flash : List ℕ) → length (erased_part size count n flash) ≡ length flash
unfolding erased_part
erased_length size count n flash =
    kept_length size count n flash (replicate size blank_byte) (length-replicate size blank_byte) (is_there (length flash) size count n) refl

pub erased_at_lem : (chip : Chip) (m : Memory) (f : Flash) (b : Block)
    → erased_at chip m f b ≡ with_flash m f (erased_part (block_size f) (blocks chip f) b.0 (flash_of m f))
unfolding erased_at erased_part
erased_at_lem chip m f b =
    with_cond (fits chip m f && ltb b.0 (blocks chip f)) m f (put_part (block_size f) b.0 (replicate (block_size f) blank_byte) (flash_of m f))

pub erased_fits : (chip : Chip) (m : Memory) (f : Flash) (b : Block) (g : Flash) → fits chip (erased_at chip m f b) g ≡ fits chip m g
erased_fits chip m f b g =
    rw (erased_at_lem chip m f b)
    (with_fits chip m f (erased_part (block_size f) (blocks chip f) b.0 (flash_of m f)) g (erased_length (block_size f) (blocks chip f) b.0 (flash_of m f)))

-- the same, as the arm of one flash knows it
pub erased_by : (chip : Chip) (m : Memory) (f : Flash) (b : Block) (g : Flash) → f ≡ g → (xs : List ℕ)
    → xs ≡ erased_part (block_size f) (blocks chip f) b.0 (flash_of m g) → with_flash m g xs ≡ erased_at chip m f b
erased_by chip m f b g e xs q = rw (erased_at_lem chip m f b, q, e)

-- ---- programming ----

module _ (page : List ℕ) where
  pub status_guarded : (g : Bool) → g ≡ true → 0x10 ≡ page_status g page
  unfolding page_fault first
  status_guarded g e = rw e

  pub status_used : (g : Bool) → g ≡ false → blank page ≡ false → 0x1C ≡ page_status g page
  unfolding page_fault first
  status_used g e h = rw (e, h)

  pub status_well : (g : Bool) → g ≡ false → blank page ≡ true → 0x06 ≡ page_status g page
  unfolding page_fault first
  status_well g e h = rw (e, h)

module _ (count k : ℕ) (guarded : Bool) (body flash : List ℕ) where
  pub program_missing : place_of (length flash) page_size count k k ≡ Missing
      → written 0x05 flash ≡ programmed_part count k guarded body flash
  unfolding programmed_part
  program_missing e = rw (not_there (length flash) page_size count k e)

  module _ {at end : ℕ} (p : Placed (length flash) page_size count k k at end) (st : ℕ)
      (e : st ≡ page_status guarded (take (end - at) (drop at flash))) where
    own_status : page_status guarded (part_of page_size k flash) ≡ st
    own_status = sym (e ∙ ap (page_status guarded) (part_cut page_size count flash p))

    pub program_left : (st ≡ 0x06 → ⊥) → written st flash ≡ programmed_part count k guarded body flash
    unfolding programmed_part
    program_left n = rw (is_there_lem p, own_status, ne_eqb st 0x06 n)

    pub program_done : st ≡ 0x06 → (xs : List ℕ) → xs ≡ body
        → written 0x06 (put_mid at (end - at) flash xs) ≡ programmed_part count k guarded body flash
    unfolding programmed_part
    program_done w xs b = rw (is_there_lem p, own_status, eq-eqb st 0x06 w, part_back page_size count flash k xs p, w, b)

-- an outcome of one flash, said of both
spread : (t s : Bool) (st : ℕ) (m : Memory) (f : Flash) (xs : List ℕ)
    → let w = cond t (written st (cond s xs (flash_of m f))) (written 0x05 (flash_of m f)) in
    cond t (wrote st (cond s (with_flash m f xs) m)) (wrote 0x05 m) ≡ wrote w.status (with_flash m f w.flash)
spread true s st m f xs = ap (wrote st) (with_cond s m f xs)
spread false s st m f xs = ap (wrote 0x05) (sym (with_own m f))

pub programmed_at : (chip : Chip) (guarded : Bool) (m : Memory) (p : Pages) (body : List ℕ)
    → let w = programmed_part (pages chip p.flash) p.page guarded body (flash_of m p.flash) in
    programmed chip guarded m p body ≡ wrote w.status (with_flash m p.flash w.flash)
unfolding programmed programmed_part page_written
programmed_at chip guarded m p body =
    let f = p.flash in
    let k = p.page in
    let st = page_status guarded (part_of page_size k (flash_of m f)) in
    rw (in_pages chip f)
    (spread (fits chip m f && ltb k (pages chip f)) (eqb st 0x06) st m f (put_part page_size k body (flash_of m f)))

pub programmed_by : (chip : Chip) (guarded : Bool) (m : Memory) (p : Pages) (body : List ℕ) (g : Flash) → p.flash ≡ g → (w : Written)
    → w ≡ programmed_part (pages chip p.flash) p.page guarded body (flash_of m g)
    → wrote w.status (with_flash m g w.flash) ≡ programmed chip guarded m p body
programmed_by chip guarded m p body g e w q = rw (programmed_at chip guarded m p body, q, e)

pub programmed_length : (count k : ℕ) (guarded : Bool) (body flash : List ℕ) → length body ≡ page_size
    → length (programmed_part count k guarded body flash).flash ≡ length flash
unfolding programmed_part
programmed_length count k guarded body flash l = go (is_there (length flash) page_size count k) refl (eqb (page_status guarded (part_of page_size k flash)) 0x06)
  where
    go : (t : Bool) → is_there (length flash) page_size count k ≡ t → (s : Bool)
        → length (cond t (written (page_status guarded (part_of page_size k flash)) (cond s (put_part page_size k body flash) flash)) (written 0x05 flash)).flash ≡ length flash
    go true e true = kept_length page_size count k flash body l true e
    go true e false = refl
    go false e s = refl

pub programmed_fits : (chip : Chip) (guarded : Bool) (m : Memory) (p : Pages) (body : List ℕ) (g : Flash) → length body ≡ page_size
    → fits chip (programmed chip guarded m p body).memory g ≡ fits chip m g
programmed_fits chip guarded m p body g l =
    let f = p.flash in
    rw (programmed_at chip guarded m p body)
    (with_fits chip m f _ g (programmed_length (pages chip f) p.page guarded body (flash_of m f) l))
