-- A line for each step of a sheet, and the most frames that a play sends. Assumes nothing.
use Rattle.std.specs.Prelude.{ℕ, zero, suc, ◌+◌, ◌*◌, cond, List, [], ◌++◌, eqb}
use Rattle.rules.specs.declared.Block.{Block}
use Rattle.rules.specs.declared.Chip.{Chip}
use Rattle.rules.specs.declared.Flags.{Flags}
use Rattle.rules.specs.declared.Flash.{Flash}
use Rattle.rules.specs.declared.Step.{Step}
use Rattle.rules.specs.Chip.{first_byte, last_byte, page_size}
use Rattle.rules.specs.Numbers.{kind_number}
use Rattle.rules.specs.Run.{most_from}
use Rattle.rules.specs.Sheet.{count, clears, lock_kind, step_at, step_pages}
use Rattle.rules.specs.Text.{ascii, decimal, hex2, flash_text, kind_text}
use Rattle.text_show.specs.Words.{hex5}

-- `data blocks 0..3`, first and last block
unfoldable pub blocks_text : Flash → Block → Block → List ℕ
blocks_text f first last = flash_text f ++ ascii " blocks " ++ decimal first.0 ++ ascii ".." ++ decimal last.0

-- `F1000-F13FF`, first and last address
unfoldable pub span_text : Flash → Block → Block → List ℕ
span_text f first last = hex5 (first_byte f first).0 ++ ascii "-" ++ hex5 (last_byte f last).0

-- `2 write data blocks 0..3  F1000-F13FF  1024 bytes`: what every kind but a lock has
unfoldable pub range_line : ℕ → Step → List ℕ
range_line number t =
    decimal number ++ ascii " " ++ kind_text t.kind ++ ascii " " ++ blocks_text t.flash t.first t.last ++ ascii "  "
    ++ span_text t.flash t.first t.last
    ++ ascii "  "
    ++ decimal (step_pages t * page_size)
    ++ ascii " bytes\n"

-- `5 lock SF1 FF SF2 FB clears IFPR`: the flags that a lock sends, and whether the chip is Silent after it
unfoldable pub clears_text : Flags → List ℕ
clears_text f = cond (clears f) (ascii " clears IFPR\n") (ascii "\n")

unfoldable pub lock_line : ℕ → Flags → List ℕ
lock_line number f =
    decimal number ++ ascii " lock SF1 " ++ hex2 f.sf1 ++ ascii " SF2 " ++ hex2 f.sf2 ++ clears_text f

-- the line of a step; steps are numbered from 1
unfoldable pub step_text : ℕ → Step → List ℕ
step_text number t = cond (eqb (kind_number t.kind) lock_kind) (lock_line number t.flags) (range_line number t)

-- step i and those behind it, so many
unfoldable pub steps_from : Chip → List ℕ → ℕ → ℕ → List ℕ
steps_from chip s i zero = []
steps_from chip s i (suc left) = step_text (i + 1) (step_at chip s i) ++ steps_from chip s (i + 1) left

-- `at most 4 frames`: what a play sends where no step stops it
unfoldable pub frames_line : Chip → List ℕ → List ℕ
frames_line chip s = ascii "at most " ++ decimal (most_from chip s 0 (count s)) ++ ascii " frames\n"
