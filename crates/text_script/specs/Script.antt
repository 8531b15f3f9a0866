-- What a line of a script for the stand-in says (README, "Ask the stand-in, or the player"). Assumes nothing.
use Rattle.std.specs.Prelude.{ℕ, ◌+◌, ◌-◌, ◌%◌, cond, List, eqb, ltb, length, get_or, drop}
use Rattle.rules.specs.declared.Flash.{Flash}
use Rattle.rules.specs.declared.Flash.TheVariants.{Code, Data}
use Rattle.rules.specs.Chip.{small, same, block, first_byte}
use Rattle.rules.specs.Text.{ascii}
use Rattle.rules.specs.Lines.{between, starts_with, is_row, row_bytes}
use Rattle.text_read.specs.Answers.{Number, Named, Is, NoChip}
use Rattle.text_read.specs.Answers as number
use Rattle.text_read.specs.Bytes.{is_bytes}
use Rattle.text_read.specs.Numerals.{hex_of}
use Rattle.text_read.specs.Chips.{chip_named}
use Rattle.text_script.specs.Answers.{Line, Bad, OfChip, Stored, Store, PowerOn, Bytes, Frame, Show, Sheet, Play}

-- ---- `code AAAAA HH ..`, `data AAAAA HH ..` ----

-- so many bytes from an address on, if they all lie in a flash of that size
unfoldable pub place_of : Flash → ℕ → ℕ → ℕ → Line
place_of f size a n =
    let first = (first_byte f (block 0)).0 in
    cond (ltb a first) Bad (cond (ltb size (a - first + n)) Bad (Store f (a - first)))

unfoldable pub placed : Flash → ℕ → Number → ℕ → Line
placed f size (number.Value a) n = place_of f size a n
placed f size number.Bad n = Bad

unfoldable pub store_of : Flash → ℕ → List ℕ → Line
store_of f size t =
    cond (is_bytes (drop 10 t)) (placed f size (hex_of 5 (between 5 10 t)) (length (row_bytes (drop 10 t)))) Bad

-- ---- `options SF1 SF2 SWS SWE` ----

-- the number of so many digits behind the space at that place
unfoldable pub field_of : ℕ → ℕ → List ℕ → Number
field_of s n t =
    cond (ltb s (length t))
    (cond (eqb (get_or t s 0) 0x20) (hex_of n (between 0 n (drop (s + 1) t))) number.Bad)
    number.Bad

-- of two digits nothing is cut off, nor of four
unfoldable pub with_options : Number → Number → Number → Number → Line
with_options number.Bad b c d = Bad
with_options (number.Value sf1) number.Bad c d = Bad
with_options (number.Value sf1) (number.Value sf2) number.Bad d = Bad
with_options (number.Value sf1) (number.Value sf2) (number.Value sws) number.Bad = Bad
with_options (number.Value sf1) (number.Value sf2) (number.Value sws) (number.Value swe) =
    Stored (record { sf1 = sf1 % 256; sf2 = sf2 % 256; sws = sws % 65536; swe = swe % 65536 })

unfoldable pub options_of : List ℕ → Line
options_of t =
    cond (eqb (length t) 23) (with_options (field_of 7 2 t) (field_of 10 2 t) (field_of 13 4 t) (field_of 18 4 t)) Bad

-- ---- `chip small`, `chip large`, `chip C D` ----

abbrev pub chip_of : Named → Line
chip_of (Is k) = OfChip k
chip_of NoChip = Bad

-- ---- `frame HH ..`, and `frame` alone for nothing ----

unfoldable pub handed_of : List ℕ → Line
handed_of r = cond (is_row r) Frame Bad

-- ---- a line ----

-- `fresh` is `chip small`
unfoldable pub word_of : List ℕ → Line
word_of t =
    cond (same t (ascii "!"))
    PowerOn
    (cond (same t (ascii "?"))
    Show
    (cond (same t (ascii "play"))
    Play
    (cond (same t (ascii "fresh"))
    (OfChip small)
    (cond (starts_with (ascii "chip ") t)
    (chip_of (chip_named (drop 5 t)))
    (cond (starts_with (ascii "frame") t) (handed_of (drop 5 t)) Bad)))))

-- a line that says this, if its row has at least one byte
unfoldable pub row_line : Line → List ℕ → Line
row_line said r = cond (is_bytes r) said Bad

-- A LINE without its end, for flashes of these sizes: by what it begins with
unfoldable pub line_of : ℕ → ℕ → List ℕ → Line
line_of code «data» t =
    cond (starts_with (ascii ">") t)
    (row_line Bytes (drop 1 t))
    (cond (starts_with (ascii "sheet") t)
    (row_line Sheet (drop 5 t))
    (cond (starts_with (ascii "options ") t)
    (options_of t)
    (cond (starts_with (ascii "code ") t)
    (store_of Code code t)
    (cond (starts_with (ascii "data ") t) (store_of Data «data» t) (word_of t)))))
