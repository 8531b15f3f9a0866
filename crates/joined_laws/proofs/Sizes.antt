-- The sizes of a step on its chip: what it does leaves both flashes as long as they were, its pages are there, and its frames are few. Assumes nothing.
use mathlib.Core.Path.{◌≡◌, refl, sym, ◌∙◌}
use mathlib.Core.List.{List}
use mathlib.Core.Bool.{Bool}
use Prim.Native.Nat.{ℕ, zero, suc, ◌+◌, ◌*◌, ◌<◌, ◌≤◌}
use native.Mathlib.Omega.{arith}
use lib.Dec.{eqb}
use lib.ListN.{length, replicate, length-replicate}
use Rattle.rules.specs.declared.Chip.{Chip}
use Rattle.rules.specs.declared.Flash.{Flash}
use Rattle.rules.specs.declared.Flash.TheVariants.{Code, Data}
use Rattle.rules.specs.declared.Kind.{Kind}
use Rattle.rules.specs.declared.Kind.TheVariants.{Erase, Write, Verify, Sum, Blank, Lock}
use Rattle.rules.specs.declared.Step.{Step}
use Rattle.rules.specs.Answers.{Accepted}
use Rattle.rules.specs.declared.Block.{Block}
use Rattle.rules.specs.declared.Pages.{Pages}
use Rattle.rules.specs.Chip.{blocks, pages, pages_per_block, pages_from, first_page, Memory, flash_of, with_flash, flash_size, block_size, blank_byte, page_size, page_of, put_part, erase_block}
use Rattle.rules.specs.Sheet.{count, verdict, step_at, step_blocks, step_pages}
use Rattle.rules.specs.Run.{most_for, most_frames, most_from}
use Rattle.rules.specs.Frame.{status_byte}
use Rattle.rules.specs.StandIn.{page_fault, page_written}
use Rattle.rules.proofs.Choices.{chosen}
use Rattle.chip_finder.proofs.Geometry.{in_pages}
use Rattle.sheet.proofs.Accepted.{Sound, sound}
use Rattle.chip_finder.proofs.Parts.{inside, length_put}
use Rattle.chip_flash.proofs.Memories.{with_lengths}
use Rattle.joined_laws.specs.Turns.{Sized, Fit}

-- ---- flashes keep their length ----

module _ (chip : Chip) (m : Memory) (fit : Fit chip m) where
  -- part i of so many, all of one size
  pub fit_put : (f : Flash) (size count i : ℕ) (new : List ℕ) → flash_size chip f ≡ count * size → i < count → length new ≡ size
      → Fit chip (with_flash m f (put_part size i new (flash_of m f)))
  fit_put f size count i new e h l =
      let kept = length_put size i (flash_of m f) (inside size count i (fit f ∙ e) h) new l in
      λ g. with_lengths m f (put_part size i new (flash_of m f)) g kept ∙ fit g

  pub fit_erased : (f : Flash) (b : Block) → b.0 < blocks chip f → Fit chip (erase_block m f b)
  fit_erased f b h =
      fit_put f (block_size f) (blocks chip f) b.0 (replicate (block_size f) blank_byte) refl h (length-replicate (block_size f) blank_byte)

  pub fit_written : (guarded : Bool) (p : Pages) (body : List ℕ) → p.page < pages chip p.flash → length body ≡ page_size
      → Fit chip (page_written guarded m p body)
  unfolding page_written
  fit_written guarded p body h l =
      chosen (Fit chip) (eqb (status_byte (page_fault guarded (page_of m p.flash p.page))) 0x06) _ _
      (λ _. fit_put p.flash page_size (pages chip p.flash) p.page body (sym (in_pages chip p.flash)) h l)
      fit

-- ---- the pages of a step ----

more_pages : (f : Flash) (n : ℕ) → n ≤ n * pages_per_block f
more_pages Code n = omega arith
more_pages Data n = omega arith

module _ (chip : Chip) (s : List ℕ) (i : ℕ) (t : Step) (k : Sound chip s i t) where
  pub step_pages_lem : first_page t.flash t.first + step_pages t ≤ pages chip t.flash
  step_pages_lem = go t.flash k.there
    where
      go : (f : Flash) → t.last.0 < blocks chip f → first_page f t.first + pages_from f t.first t.last ≤ pages chip f
      go Code h = omega (arith, k.forward)
      go Data h = omega (arith, k.forward)

  pub step_some : 1 ≤ step_pages t
  step_some = omega (arith, k.some, more_pages t.flash (step_blocks t))

  -- ---- the frames of a step ----

  pub few_frames : Sized chip → most_frames t ≤ 65537
  unfolding most_frames most_for
  few_frames sized = go t.kind
    where
      go : (x : Kind) → most_for x t ≤ 65537
      go Erase = omega (arith, sized.few t.flash, in_pages chip t.flash, step_pages_lem, more_pages t.flash (step_blocks t))
      go Write = omega (arith, sized.few t.flash, in_pages chip t.flash, step_pages_lem)
      go Verify = omega (arith, sized.few t.flash, in_pages chip t.flash, step_pages_lem)
      go Sum = omega arith
      go Blank = omega arith
      go Lock = omega arith

-- so many steps of an accepted sheet
pub few_from : (chip : Chip) → Sized chip → (s : List ℕ) (room : ℕ) → verdict chip s room ≡ Accepted
    → (left i : ℕ) → i + left ≡ count s → most_from chip s i left ≤ left * 65537
unfolding most_from
few_from chip sized s room ok zero i e = omega arith
few_from chip sized s room ok (suc left) i e =
    let now = few_frames chip s i (step_at chip s i) (sound chip s room ok i (omega arith)) sized in
    omega (arith, now, few_from chip sized s room ok left (i + 1) (omega arith))
