-- 01, Our chip, second paragraph: the option bits; and what Security Set, Release and Window Set and Get make of them (01, Commands). Assumes nothing.
use Rattle.std.specs.Prelude.{ℕ, ◌+◌, ◌-◌, ◌*◌, ◌/◌, ◌%◌, ◌^◌, Bool, cond, ◌&&◌, ◌||◌, eqb}
use Rattle.rules.specs.declared.Chip.{Chip}
use Rattle.rules.specs.declared.Flash.{Flash}
use Rattle.rules.specs.declared.Flash.TheVariants.{Code}
use Rattle.rules.specs.declared.Block.{Block}
use Rattle.rules.specs.declared.Options.{Options}
use Rattle.rules.specs.Chip.{block, blocks, in_boot_cluster}

-- bit k of a number, and the number with another bit k
abbrev pub bit : ℕ → ℕ → ℕ
bit k n = n / 2 ^ k % 2

abbrev pub with_bit : ℕ → ℕ → ℕ → ℕ
with_bit k v n = n / 2 ^ (k + 1) * 2 ^ (k + 1) + v * 2 ^ k + n % 2 ^ k

-- "only these bits are read"
abbrev pub BTPR : Options → ℕ
BTPR o = bit 1 o.sf1

abbrev pub SEPR : Options → ℕ
SEPR o = bit 2 o.sf1

abbrev pub WRPR : Options → ℕ
WRPR o = bit 4 o.sf1

abbrev pub IDEN : Options → ℕ
IDEN o = bit 0 o.sf2

abbrev pub IFPR : Options → ℕ
IFPR o = bit 2 o.sf2

abbrev pub SWPR : Options → ℕ
SWPR o = bit 3 o.sf2

abbrev pub CMPR : Options → ℕ
CMPR o = bit 4 o.sf2

abbrev pub FSPR : Options → ℕ
FSPR o = bit 15 o.sws

abbrev pub FSWC : Options → ℕ
FSWC o = bit 15 o.swe

-- "bits 8 to 0": block numbers
abbrev pub FSWS : Options → Block
FSWS o = block (o.sws % 512)

abbrev pub FSWE : Options → Block
FSWE o = block (o.swe % 512)

-- "A fresh chip has every one of these bits 1"; the others are 1 too (DECISIONS)
abbrev pub fresh_options : Options
fresh_options = record { sf1 = 0xFF; sf2 = 0xFF; sws = 0xFFFF; swe = 0xFFFF }

-- Security Get: "BTFLG (SF1 bit 0) always reads 1, unnamed flag bits 0"
unfoldable pub shownSF1 : Options → ℕ
shownSF1 o = 1 + 2 * BTPR o + 4 * SEPR o + 16 * WRPR o

unfoldable pub shownSF2 : Options → ℕ
shownSF2 o = IDEN o + 4 * IFPR o + 8 * SWPR o + 16 * CMPR o

-- "makes BTPR, SEPR, WRPR, IDEN and IFPR each the AND of old and sent"
abbrev pub and_bit : ℕ → ℕ → ℕ → ℕ
and_bit k sent old = with_bit k (bit k old * bit k sent) old

unfoldable pub security_set : ℕ → ℕ → Options → Options
security_set sf1 sf2 o =
    record {
      sf1 = and_bit 4 sf1 (and_bit 2 sf1 (and_bit 1 sf1 o.sf1));
      sf2 = and_bit 2 sf2 (and_bit 0 sf2 o.sf2);
      sws = o.sws;
      swe = o.swe;
    }

-- "Release sets every option bit to 1 except IDEN, which keeps its value" (02, M-102): those listed
abbrev pub released_word : ℕ → ℕ
released_word n = with_bit 15 1 (n / 512 * 512 + 511)

unfoldable pub release : Options → Options
release o =
    record {
      sf1 = with_bit 4 1 (with_bit 2 1 (with_bit 1 1 o.sf1));
      sf2 = with_bit 4 1 (with_bit 3 1 (with_bit 2 1 o.sf2));
      sws = released_word o.sws;
      swe = released_word o.swe;
    }

-- 001, table 6-17, TAR 01h: the option bits counted in, all 1. BTFLG reads 1 and IFPR is judged blank whatever it is, so neither is asked
unfoldable pub blank_options : Options → Bool
blank_options o =
    eqb (BTPR o) 1
    && eqb (SEPR o) 1
    && eqb (WRPR o) 1
    && eqb (IDEN o) 1
    && eqb (SWPR o) 1
    && eqb (CMPR o) 1
    && eqb (FSWS o).0 511
    && eqb (FSPR o) 1
    && eqb (FSWE o).0 511
    && eqb (FSWC o) 1

-- "Window Set stores its named bits": bits 8 to 0 and bit 15 of each word
abbrev pub window_word : ℕ → ℕ → ℕ
window_word sent old = with_bit 15 (bit 15 sent) (old / 512 * 512 + sent % 512)

unfoldable pub window_set : ℕ → ℕ → Options → Options
window_set sws swe o =
    record { sf1 = o.sf1; sf2 = o.sf2; sws = window_word sws o.sws; swe = window_word swe o.swe }

-- "Window Get shows bits 14 to 9 as 0; if FSWS equals FSWE it shows 0 and 15 for them": 15 is the last code block
unfoldable pub shownFSWS : Options → Block
shownFSWS o = cond (eqb (FSWS o).0 (FSWE o).0) (block 0) (FSWS o)

unfoldable pub shownFSWE : Chip → Options → Block
shownFSWE chip o = cond (eqb (FSWS o).0 (FSWE o).0) (block (blocks chip Code - 1)) (FSWE o)

unfoldable pub shownSWS : Options → ℕ
shownSWS o = (shownFSWS o).0 + 32768 * FSPR o

unfoldable pub shownSWE : Chip → Options → ℕ
shownSWE chip o = (shownFSWE chip o).0 + 32768 * FSWC o

-- "Erase .. is protected when SEPR is 0, or BTPR is 0 and the block is in boot cluster 0"
unfoldable pub erase_protected : Options → Flash → Block → Bool
erase_protected o f b = eqb (SEPR o) 0 || (eqb (BTPR o) 0 && in_boot_cluster f b)

-- "A page is protected when WRPR is 0, or BTPR is 0 and it lies in boot cluster 0": said of the page's block
unfoldable pub write_protected : Options → Flash → Block → Bool
write_protected o f b = eqb (WRPR o) 0 || (eqb (BTPR o) 0 && in_boot_cluster f b)
