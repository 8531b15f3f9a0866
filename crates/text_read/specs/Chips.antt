-- The chip that a line names (README: `chip small`, `chip large`, `chip C D`). Assumes nothing.
use Rattle.std.specs.Prelude.{ℕ, ◌+◌, ◌%◌, cond, List, eqb, get_or, drop}
use Rattle.rules.specs.Chip.{small, large, same}
use Rattle.rules.specs.Text.{ascii}
use Rattle.rules.specs.Lines.{between}
use Rattle.text_read.specs.Answers.{Number, Named, Is, NoChip}
use Rattle.text_read.specs.Answers as number
use Rattle.text_read.specs.Numerals.{decimal_of}

-- where the space behind the first count stands: a count has at most three digits
unfoldable pub space_in : List ℕ → ℕ
space_in t = cond (eqb (get_or t 1 0) 0x20) 1 (cond (eqb (get_or t 2 0) 0x20) 2 3)

-- of a count up to 255 nothing is cut off
unfoldable pub counts_of : Number → Number → Named
counts_of number.Bad d = NoChip
counts_of (number.Value c) number.Bad = NoChip
counts_of (number.Value c) (number.Value d) = Is (record { code = c % 65536; «data» = d % 65536 })

-- two decimals up to 255, a space between them
unfoldable pub counts_named : List ℕ → Named
counts_named t =
    cond (eqb (get_or t (space_in t) 0) 0x20)
    (counts_of (decimal_of 255 (between 0 (space_in t) t)) (decimal_of 255 (drop (space_in t + 1) t)))
    NoChip

unfoldable pub chip_named : List ℕ → Named
chip_named t =
    cond (same t (ascii "small")) (Is small) (cond (same t (ascii "large")) (Is large) (counts_named t))
