-- The page that `page_mut` hands out and the part that `program_page` writes are the same 256 bytes. Assumes nothing.
use mathlib.Core.Path.{◌≡◌, sym, ap, ◌∙◌}
use mathlib.Core.Bool.{Bool, true}
use mathlib.Core.List.{List}
use Prim.Native.Nat.{ℕ, ◌*◌}
use lib.Dec.{ltb, eqb}
use lib.ListN.{length}
use borrow.Author.Tests.{eq-eqb, eqb-true, ltb-true}
use Rattle.rules.specs.declared.Chip.{Chip}
use Rattle.rules.specs.declared.Flash.{Flash}
use Rattle.rules.specs.declared.Pages.{Pages}
use Rattle.rules.specs.Chip.{Memory, flash_of, flash_size, page_size, pages, fits, page_shown, page_of, put_page, put_part}
use Rattle.rules.specs.Frame.{status_byte}
use Rattle.rules.specs.StandIn.{page_fault, page_written}
use Rattle.chip_finder.specs.LentFlashes.{page_there}
use Rattle.chip_flash.specs.Writing.{programmed}
use Rattle.rules.proofs.Choices.{both}
use Rattle.chip_finder.proofs.Geometry.{in_pages}
use Rattle.chip_flash.proofs.Memories.{with_of}
use Rattle.chip_finder.proofs.Parts.{inside, length_part, length_put, part_put, part_put_other, shown_there}

-- what is known of a page that is there: `page_mut` hands out `page_shown`, `program_page` writes over `page_of`
pub record HandedOut (chip : Chip) (m : Memory) (f : Flash) (k : ℕ) : Type 0 where
  -- both name the same bytes, and these are 256
  pub same : page_shown chip m f k ≡ page_of m f k
  pub size : length (page_shown chip m f k) ≡ page_size
  -- what is written stands there afterwards, and no other page changes
  pub after : (body : List ℕ) → length body ≡ page_size → page_shown chip (put_page m f k body) f k ≡ body
  pub others : (body : List ℕ) → length body ≡ page_size → (j : ℕ) → (j ≡ k → ⊥) → page_of (put_page m f k body) f j ≡ page_of m f j

pub handed_out : (chip : Chip) (m : Memory) (f : Flash) (k : ℕ) → page_there chip m f k ≡ true → HandedOut chip m f k
handed_out chip m f k t =
    let p = both (fits chip m f) (ltb k (pages chip f)) t in
    let e : length (flash_of m f) ≡ pages chip f * page_size = eqb-true (length (flash_of m f)) (flash_size chip f) p.0 ∙ sym (in_pages chip f) in
    let h = ltb-true k (pages chip f) p.1 in
    let r = inside page_size (pages chip f) k e h in
    let s = shown_there page_size (pages chip f) k (flash_of m f) e h in
    record {
      same = s;
      size = ap length s ∙ length_part page_size k (flash_of m f) r;
      after = λ body l.
          rw (with_of m f (put_part page_size k body (flash_of m f)))
          (shown_there page_size (pages chip f) k (put_part page_size k body (flash_of m f)) (length_put page_size k (flash_of m f) r body l ∙ e) h
          ∙ part_put page_size k (flash_of m f) r body l);
      others = λ body l j n.
          rw (with_of m f (put_part page_size k body (flash_of m f))) (part_put_other page_size k (flash_of m f) r body l j n);
    }

-- after a page was programmed with status 06h it is the body that the finder shows
pub programmed_page : (chip : Chip) (guarded : Bool) (m : Memory) (p : Pages) (body : List ℕ)
    → page_there chip m p.flash p.page ≡ true → length body ≡ page_size → (programmed chip guarded m p body).status ≡ 0x06
    → page_shown chip (programmed chip guarded m p body).memory p.flash p.page ≡ body
unfolding programmed page_written
programmed_page chip guarded m p body t l w =
    let e : eqb (status_byte (page_fault guarded (page_of m p.flash p.page))) 0x06 ≡ true = eq-eqb _ _ (rw t at w) in
    rw (t, e) ((handed_out chip m p.flash p.page t).after body l)
