-- 02, M-103, Intel HEX in: the records of a text, the bytes that it gives, and the sheet that is made of them. Assumes nothing.
use Rattle.std.specs.Prelude.{ℕ, zero, suc, ◌+◌, ◌-◌, ◌*◌, ◌/◌, ◌%◌, Bool, true, false, cond, not, ◌&&◌, List, [], ◌∷◌, ◌++◌, ltb, leb, eqb, length, take, drop, replicate}
use Rattle.rules.specs.declared.Flash.{Flash}
use Rattle.rules.specs.declared.Flash.TheVariants.{Code, Data}
use Rattle.rules.specs.declared.Block.{Block}
use Rattle.rules.specs.HexLines.{HexLine}
use Rattle.rules.specs.HexLines as line
use Rattle.rules.specs.declared.hex.HexRefusal.{HexRefusal}
use Rattle.rules.specs.declared.hex.HexRefusal.TheVariants.{BadForm, WrongSum, OtherType, Outside, Twice, AfterEnd, NoEnd, ManySteps, ManyBytes, ShortBuffer}
use Rattle.rules.specs.Answers.{HexRead, On, Ended, Refused, HexMade}
use Rattle.rules.specs.Answers as made
use Rattle.rules.specs.declared.numbers.Number.{Number}
use Rattle.rules.specs.First.{rule, first}
use Rattle.rules.specs.Chip.{Memory, small, byte_at, word_bytes, address_bytes, total, over, part_of, blank_byte, block_size, start, blocks, flash_size, flash_of, with_flash, block, first_byte, last_byte}
use Rattle.rules.specs.Sheet.{most_steps, entry_size}
use Rattle.rules.specs.Lines.{lines_of, is_pairs, pair_bytes}

-- ---- a line by itself ----

-- "lines ended by LF or CR LF": one CR directly before the LF is dropped
unfoldable pub without_cr : List ℕ → List ℕ
without_cr l = cond (eqb (byte_at l (length l - 1)) 0x0D) (take (length l - 1) l) l

-- the bytes of a record: length, offset (high byte first), type, so many bytes, sum
abbrev pub length_of : List ℕ → ℕ
length_of bs = byte_at bs 0

abbrev pub offset_of : List ℕ → ℕ
offset_of bs = 256 * byte_at bs 1 + byte_at bs 2

abbrev pub type_of : List ℕ → ℕ
type_of bs = byte_at bs 3

abbrev pub data_of : List ℕ → List ℕ
data_of bs = take (length_of bs) (drop 4 bs)

-- what a record of type 04 makes the upper half of the addresses behind it
abbrev pub upper_of : List ℕ → ℕ
upper_of bs = 256 * byte_at bs 4 + byte_at bs 5

-- "A data record that runs past offset FFFFh is bad form, as is type 01 with data or 04 with other than two bytes"
unfoldable pub type_form : List ℕ → Bool
type_form bs =
    cond (eqb (type_of bs) 0)
    (leb (offset_of bs + length_of bs) 0x10000)
    (cond (eqb (type_of bs) 1) (eqb (length_of bs) 0) (cond (eqb (type_of bs) 4) (eqb (length_of bs) 2) true))

-- "record types 00, 01 and 04"
unfoldable pub typed : ℕ → HexLine
typed t = cond (eqb t 0) line.Bytes (cond (eqb t 1) line.End (cond (eqb t 4) line.Upper line.OtherType))

-- "Refusals, per line in this order: bad form or digit, bad record sum, other type": of the record's bytes
unfoldable pub record_kind : List ℕ → HexLine
record_kind bs =
    first (typed (type_of bs))
    (rule line.BadForm (not (eqb (length bs) (length_of bs + 5)))
    ∷ rule line.BadForm (not (type_form bs))
    ∷ rule line.WrongSum (not (eqb (total bs % 256) 0))
    ∷ [])

-- a record is `:` and pairs of digits, and nothing else
unfoldable pub line_kind : List ℕ → HexLine
line_kind l =
    cond (eqb (byte_at l 0) 0x3A) (cond (is_pairs (drop 1 l)) (record_kind (pair_bytes (drop 1 l))) line.BadForm) line.BadForm

-- ---- the bytes given ----

-- the cells of our flashes: one for every byte, the byte where it is given, 256 where it is not
abbrev pub not_given : ℕ
not_given = 256

abbrev pub no_cells : Memory
no_cells = record { code = replicate (flash_size small Code) not_given; «data» = replicate (flash_size small Data) not_given }

-- some of these cells are given
unfoldable pub any_given : List ℕ → Bool
any_given [] = false
any_given (c ∷ cs) = cond (ltb c not_given) true (any_given cs)

-- bytes in the cells from a place on
unfoldable pub put_bytes : ℕ → List ℕ → List ℕ → List ℕ
put_bytes at bs cs = take at cs ++ (bs ++ drop (length bs) (drop at cs))

-- after a line: the upper half of addresses and the cells
pub record Taken : Type 0 where
  pub read : HexRead
  pub upper : ℕ
  pub cells : Memory

abbrev pub taken : HexRead → ℕ → Memory → Taken
taken r u m = record { read = r; upper = u; cells = m }

-- so many bytes from an address on lie in that flash
abbrev pub lies_in : Flash → ℕ → ℕ → Bool
lies_in f a n = leb (start f) a && leb (a + n) (start f + flash_size small f)

-- bytes that lie in a flash, from a place of it on: "byte given twice", or they are put
unfoldable pub bytes_in : Flash → ℕ → ℕ → List ℕ → ℕ → Memory → Taken
bytes_in f n at bs u m =
    cond (any_given (take (length bs) (drop at (flash_of m f))))
    (taken (Refused (Twice n)) u m)
    (taken On u (with_flash m f (put_bytes at bs (flash_of m f))))

-- the bytes of a record from an address on: "byte outside our flashes, byte given twice". They stand one behind the other and the flashes lie apart, so
-- none is outside where all lie in the same flash; and where there is none
unfoldable pub bytes_at : ℕ → ℕ → List ℕ → ℕ → Memory → Taken
bytes_at n a bs u m =
    cond (eqb (length bs) 0)
    (taken On u m)
    (cond (lies_in Code a (length bs))
    (bytes_in Code n (a - start Code) bs u m)
    (cond (lies_in Data a (length bs)) (bytes_in Data n (a - start Data) bs u m) (taken (Refused (Outside n)) u m)))

-- line number n, of that kind and with those bytes
unfoldable pub taken_as : HexLine → ℕ → List ℕ → ℕ → Memory → Taken
taken_as line.Bytes n bs u m = bytes_at n (u * 0x10000 + offset_of bs) (data_of bs) u m
taken_as line.End n bs u m = taken Ended u m
taken_as line.Upper n bs u m = taken On (upper_of bs) m
taken_as line.BadForm n bs u m = taken (Refused (BadForm n)) u m
taken_as line.WrongSum n bs u m = taken (Refused (WrongSum n)) u m
taken_as line.OtherType n bs u m = taken (Refused (OtherType n)) u m

unfoldable pub line_taken : ℕ → List ℕ → ℕ → Memory → Taken
line_taken n l u m = taken_as (line_kind (without_cr l)) n (pair_bytes (drop 1 (without_cr l))) u m

-- ---- the lines one after the other ----

-- what comes of a text: read to its end record, or a line still due, or the refusal; and the cells
pub record Reading : Type 0 where
  pub read : HexRead
  pub cells : Memory

abbrev pub reading : HexRead → Memory → Reading
reading r m = record { read = r; cells = m }

-- "after the end record any further line": any further byte at all; so many lines were before
unfoldable pub after_end : List (List ℕ) → List ℕ → ℕ → Memory → Reading
after_end [] [] n m = reading Ended m
after_end [] (b ∷ rest) n m = reading (Refused (AfterEnd (n + 1))) m
after_end (l ∷ ls) rest n m = reading (Refused (AfterEnd (n + 1))) m

-- by what the line came to: the lines behind it, what may stand behind the end record, or the refusal
unfoldable pub goes_on : HexRead → (ℕ → Reading) → (ℕ → Reading) → Memory → Reading
goes_on On more end m = more 0
goes_on Ended more end m = end 0
goes_on (Refused h) more end m = reading (Refused h) m

-- the lines, the bytes behind the last LF, how many lines were before, the upper half of addresses (0 at first) and the cells so far: the first faulty
-- line decides; "a last line without its end is bad form". Where the lines are at their end, the next one is still due
unfoldable pub read_lines : List (List ℕ) → List ℕ → ℕ → ℕ → Memory → Reading
read_lines [] [] n u m = reading On m
read_lines [] (b ∷ rest) n u m = reading (Refused (BadForm (n + 1))) m
read_lines (l ∷ ls) rest n u m =
    let t = line_taken (n + 1) l u m in
    goes_on t.read
    (λ z. read_lines ls rest (n + 1) t.upper t.cells)
    (λ z. after_end ls rest (n + 1) t.cells)
    t.cells

-- THE BYTES that a text gives
unfoldable pub hex_read : List ℕ → Memory → Reading
hex_read text m = read_lines (lines_of text).ended (lines_of text).rest 0 0 m

-- ---- the sheet ----

pub record Named : Type 0 where
  pub flash : Flash
  pub block : Block

abbrev pub named : Flash → ℕ → Named
named f i = record { flash = f; block = block i }

abbrev pub block_cells : Memory → Flash → ℕ → List ℕ
block_cells m f i = part_of (block_size f) i (flash_of m f)

-- "every block that holds a given byte, in rising address order": of one flash, block i and those behind it, so many
unfoldable pub named_from : Memory → Flash → ℕ → ℕ → List Named
named_from m f i zero = []
named_from m f i (suc left) =
    let later = named_from m f (i + 1) left in cond (any_given (block_cells m f i)) (named f i ∷ later) later

unfoldable pub blocks_named : Memory → List Named
blocks_named m = named_from m Code 0 (blocks small Code) ++ named_from m Data 0 (blocks small Data)

-- "bytes not given are FFh"
abbrev pub cell_byte : ℕ → ℕ
cell_byte c = cond (ltb c not_given) c blank_byte

unfoldable pub cell_bytes : List ℕ → List ℕ
cell_bytes [] = []
cell_bytes (c ∷ cs) = cell_byte c ∷ cell_bytes cs

abbrev pub body_of : Memory → Named → List ℕ
body_of m b = cell_bytes (block_cells m b.flash b.block.0)

-- 01, The job sheet: "kind, SAD (3), EAD (3), a zero byte, body offset (4, low first)"
abbrev pub offset_bytes : ℕ → List ℕ
offset_bytes n = word_bytes n ++ word_bytes (n / 65536)

unfoldable pub entry_of : ℕ → Named → ℕ → List ℕ
entry_of kind b offset =
    (kind ∷ address_bytes (first_byte b.flash b.block))
    ++ address_bytes (last_byte b.flash b.block)
    ++ (0x00 ∷ offset_bytes offset)

-- "one erase, one write and one verify of that block": the table, with the offset of the next body
unfoldable pub entries_of : ℕ → List Named → List ℕ
entries_of offset [] = []
entries_of offset (b ∷ bs) =
    entry_of 1 b offset
    ++ entry_of 2 b offset
    ++ entry_of 3 b (offset + block_size b.flash)
    ++ entries_of (offset + 2 * block_size b.flash) bs

-- the write's body and the verify's
unfoldable pub bodies_of : Memory → List Named → List ℕ
bodies_of m [] = []
bodies_of m (b ∷ bs) = body_of m b ++ body_of m b ++ bodies_of m bs

abbrev pub steps_of : Memory → ℕ
steps_of m = 3 * length (blocks_named m)

-- THE SHEET: count, table, bodies
unfoldable pub sheet_of : Memory → List ℕ
sheet_of m =
    word_bytes (steps_of m)
    ++ entries_of (2 + entry_size * steps_of m) (blocks_named m)
    ++ bodies_of m (blocks_named m)

-- "then sheet over 64 steps, then sheet over 65,536 bytes, then an output buffer shorter than the sheet"
unfoldable pub sheet_made : Memory → ℕ → HexMade
sheet_made m room =
    first (made.Sheet (length (sheet_of m)))
    (rule (made.Refused ManySteps) (ltb most_steps (steps_of m))
    ∷ rule (made.Refused ManyBytes) (ltb 65536 (length (sheet_of m)))
    ∷ rule (made.Refused ShortBuffer) (ltb room (length (sheet_of m)))
    ∷ [])

-- the call: its answer, and the output buffer; "a refusal writes nothing"
pub record Making : Type 0 where
  pub made : HexMade
  pub out : List ℕ

unfoldable pub making_of : HexMade → List ℕ → List ℕ → Making
making_of (made.Sheet n) sheet out = record { made = made.Sheet n; out = over sheet out }
making_of (made.Refused h) sheet out = record { made = made.Refused h; out = out }

-- "no end record": a line is still due
unfoldable pub made_of : HexRead → Memory → List ℕ → Making
made_of On m out = record { made = made.Refused NoEnd; out = out }
made_of Ended m out = making_of (sheet_made m (length out)) (sheet_of m) out
made_of (Refused h) m out = record { made = made.Refused h; out = out }

-- THE CALL, of a text and an output buffer
unfoldable pub hex_made : List ℕ → List ℕ → Making
hex_made text out = let r = hex_read text no_cells in made_of r.read r.cells out

-- ---- numbers: 02 gives none, these are ours, H1 to H10 in its order ----

abbrev pub hex_number : HexRefusal → Number
hex_number (BadForm n) = record { letter = 0x48; number = 1 }
hex_number (WrongSum n) = record { letter = 0x48; number = 2 }
hex_number (OtherType n) = record { letter = 0x48; number = 3 }
hex_number (Outside n) = record { letter = 0x48; number = 4 }
hex_number (Twice n) = record { letter = 0x48; number = 5 }
hex_number (AfterEnd n) = record { letter = 0x48; number = 6 }
hex_number NoEnd = record { letter = 0x48; number = 7 }
hex_number ManySteps = record { letter = 0x48; number = 8 }
hex_number ManyBytes = record { letter = 0x48; number = 9 }
hex_number ShortBuffer = record { letter = 0x48; number = 10 }

-- the line that it names; 0 where it names none
abbrev pub hex_line : HexRefusal → ℕ
hex_line (BadForm n) = n
hex_line (WrongSum n) = n
hex_line (OtherType n) = n
hex_line (Outside n) = n
hex_line (Twice n) = n
hex_line (AfterEnd n) = n
hex_line NoEnd = 0
hex_line ManySteps = 0
hex_line ManyBytes = 0
hex_line ShortBuffer = 0

-- of the answer: the refusal's number, or the size of the sheet
abbrev pub made_number : HexMade → Number
made_number (made.Sheet n) = record { letter = 0; number = n }
made_number (made.Refused h) = hex_number h

abbrev pub made_line : HexMade → ℕ
made_line (made.Sheet n) = 0
made_line (made.Refused h) = hex_line h
