-- The words of what is told of a sheet. Assumes nothing.
use Rattle.std.specs.Prelude.{ℕ, ◌/◌, cond, List, [], ◌∷◌, ◌++◌, eqb}
use Rattle.rules.specs.declared.Chip.{Chip}
use Rattle.rules.specs.Chip.{large}
use Rattle.rules.specs.Sheet.{form_two}
use Rattle.rules.specs.Text.{ascii, hex_digit, hex4}

-- an address: five hex digits
unfoldable pub hex5 : ℕ → List ℕ
hex5 n = (hex_digit (n / 65536) ∷ []) ++ hex4 n

-- the first line, of every sheet: `form 2`
unfoldable pub form_line : List ℕ → List ℕ
form_line s = cond (form_two s) (ascii "form 2\n") (ascii "form 1\n")

-- the second, of an accepted one: the chip that it is for
unfoldable pub chip_line : Chip → List ℕ
chip_line chip =
    cond (eqb chip.code large.code) (ascii "chip 2: 64 code blocks, 32 data blocks\n") (ascii "chip 1: 16 code blocks, 8 data blocks\n")
