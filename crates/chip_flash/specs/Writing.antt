-- What erasing and programming do on all inputs: where a block or page is not there, nothing; over the two lent flashes, and
-- over one of them by the size and the number of its parts. Assumes nothing.
use Rattle.std.specs.Prelude.{ℕ, Bool, cond, List, eqb, length, replicate}
use Rattle.rules.specs.declared.Chip.{Chip}
use Rattle.rules.specs.declared.Flash.{Flash}
use Rattle.rules.specs.declared.Block.{Block}
use Rattle.rules.specs.declared.Pages.{Pages}
use Rattle.rules.specs.Chip.{Memory, page_of, erase_block, blank_byte, page_size, part_of, put_part}
use Rattle.rules.specs.Frame.{status_byte}
use Rattle.rules.specs.StandIn.{page_fault, page_written}
use Rattle.chip_finder.specs.LentFlashes.{block_there, page_there}
use Rattle.chip_finder.specs.OneFlash.{is_there}

-- the block erased, or nothing where it is not there
unfoldable pub erased_at : Chip → Memory → Flash → Block → Memory
erased_at chip m f b = cond (block_there chip m f b) (erase_block m f b) m

-- a write status and both flashes after it
pub record Wrote : Type 0 where
  pub status : ℕ
  pub memory : Memory

abbrev pub wrote : ℕ → Memory → Wrote
wrote st m = record { status = st; memory = m }

-- the page in hand written or left, with its write status: 10h if guarded, else 1Ch if not blank; 05h where it is not there
unfoldable pub programmed : Chip → Bool → Memory → Pages → List ℕ → Wrote
programmed chip guarded m p body =
    cond (page_there chip m p.flash p.page)
    (wrote (status_byte (page_fault guarded (page_of m p.flash p.page))) (page_written guarded m p body))
    (wrote 0x05 m)

-- one flash's share of `erased_at`: part n filled with FFh
unfoldable pub erased_part : ℕ → ℕ → ℕ → List ℕ → List ℕ
erased_part size count n flash =
    cond (is_there (length flash) size count n) (put_part size n (replicate size blank_byte) flash) flash

-- one flash's share of `programmed`: page k written or left, with its write status
pub record Written : Type 0 where
  pub status : ℕ
  pub flash : List ℕ

abbrev pub written : ℕ → List ℕ → Written
written st xs = record { status = st; flash = xs }

abbrev pub page_status : Bool → List ℕ → ℕ
page_status guarded page = status_byte (page_fault guarded page)

unfoldable pub programmed_part : ℕ → ℕ → Bool → List ℕ → List ℕ → Written
programmed_part count k guarded body flash =
    let st = page_status guarded (part_of page_size k flash) in
    cond (is_there (length flash) page_size count k)
    (written st (cond (eqb st 0x06) (put_part page_size k body flash) flash))
    (written 0x05 flash)
