-- 02, M-103: HEX texts and what comes of them, and whether the definitions make it so. Assumes nothing.
use Rattle.std.specs.Prelude.{ℕ, zero, suc, ◌+◌, ◌-◌, ◌/◌, ◌%◌, Bool, true, cond, ◌&&◌, List, [], ◌∷◌, ◌++◌, eqb, length, take, drop, replicate}
use Rattle.rules.specs.declared.numbers.Number.{Number}
use Rattle.rules.specs.Chip.{same, total}
use Rattle.rules.specs.Text.{ascii, hex2}
use Rattle.trials_rows.specs.Rows.{same_number, plain, entry}
use Rattle.rules.specs.Hex.{Making, hex_made, made_number, made_line}

-- a text, the length of the output buffer, the answer's number and line, and the first bytes that stand in the buffer then
pub record HexText : Type 0 where
  pub text : List ℕ
  pub room : ℕ
  pub due : Number
  pub line : ℕ
  pub front : List ℕ

-- an output buffer as it is lent: a byte that stands is seen
abbrev pub lent_out : ℕ → List ℕ
lent_out room = replicate room 0xEE

abbrev pub making_in : HexText → Making
making_in t = hex_made t.text (lent_out t.room)

-- how many bytes of the buffer are written
abbrev pub written_in : HexText → ℕ
written_in t = cond (eqb t.due.letter 0) t.due.number 0

unfoldable pub makes : HexText → Bool
makes t =
    let r = making_in t in
    same_number (made_number r.made) t.due
    && eqb (made_line r.made) t.line
    && same (take (length t.front) r.out) t.front
    && same (drop (written_in t) r.out) (lent_out (t.room - written_in t))

unfoldable pub all_make : List HexText → Bool
all_make [] = true
all_make (t ∷ ts) = makes t && all_make ts

-- ---- what rows are made of ----

abbrev H : ℕ → Number
H n = record { letter = 0x48; number = n }

-- refused, with that number and line; in a buffer too short for the sheet of a block, so that its refusal comes last
abbrev refused_as : List ℕ → ℕ → ℕ → HexText
refused_as text n line = record { text = text; room = 16; due = H n; line = line; front = [] }

abbrev gives_sheet : List ℕ → ℕ → ℕ → List ℕ → HexText
gives_sheet text room size front = record { text = text; room = room; due = plain size; line = 0; front = front }

-- the digits of bytes; a record with its sum
unfoldable pub pairs_of : List ℕ → List ℕ
pairs_of [] = []
pairs_of (b ∷ bs) = hex2 b ++ pairs_of bs

unfoldable pub record_of : List ℕ → List ℕ
record_of bs = ascii ":" ++ pairs_of bs ++ hex2 (256 - total bs % 256) ++ ascii "\n"

abbrev end : List ℕ
end = ascii ":00000001FF\n"

abbrev to_data : List ℕ
to_data = ascii ":02000004000FEB\n"

-- one byte in each of so many blocks of that size, from that offset on
unfoldable pub one_each : ℕ → ℕ → ℕ → List ℕ
one_each size at zero = []
one_each size at (suc n) = record_of (1 ∷ at / 256 ∷ at % 256 ∷ 0 ∷ 0x5A ∷ []) ++ one_each size (at + size) n

-- one byte in each of so many code blocks and data blocks
abbrev blocks_of : ℕ → ℕ → List ℕ
blocks_of c d = one_each 2048 0x0000 c ++ to_data ++ one_each 256 0x1000 d ++ end

-- the block F1000h to F10FFh with 16 bytes A5h
abbrev sixteen : List ℕ
sixteen = ascii ":02000004000FEB\n:10100000A5A5A5A5A5A5A5A5A5A5A5A5A5A5A5A590\n:00000001FF\n"

abbrev sixteen_body : List ℕ
sixteen_body = replicate 16 0xA5 ++ replicate 240 0xFF

abbrev sixteen_sheet : List ℕ
sixteen_sheet =
    0x03 ∷ 0x00 ∷ (entry 1 0x10 0x10 38 ++ entry 2 0x10 0x10 38 ++ entry 3 0x10 0x10 294 ++ sixteen_body ++ sixteen_body)

unfoldable pub hex_texts : List HexText
hex_texts =
    -- the end record alone; nothing; the end record without its LF
    gives_sheet end 4 2 (0x00 ∷ 0x00 ∷ [])
    ∷ refused_as [] 7 0
    ∷ refused_as (ascii ":00000001FF") 1 1
    -- 16 bytes of data flash, in a buffer that is longer and in one that is a byte short
    ∷ gives_sheet sixteen 600 550 sixteen_sheet
    ∷ record { text = sixteen; room = 549; due = H 10; line = 0; front = [] }
    -- two bytes over the edge of two code blocks, in lower case and with CR LF; the buffer is just as long as the sheet
    ∷ gives_sheet
    (ascii ":0207ff001234b2" ++ (0x0D ∷ 0x0A ∷ []) ++ end)
    8266
    8266
    (0x06 ∷ 0x00 ∷ 0x01 ∷ 0x00 ∷ 0x00 ∷ 0x00 ∷ 0xFF ∷ 0x07 ∷ 0x00 ∷ 0x00 ∷ 0x4A ∷ 0x00 ∷ [])
    -- past offset FFFFh, before the sum; up to it
    ∷ refused_as (ascii ":02FFFF000102FE\n") 1 1
    ∷ refused_as (ascii ":01FFFF000100\n") 4 1
    -- outside before twice
    ∷ refused_as (ascii ":017FFF00552C\n:027FFF0001027D\n") 4 2
    -- given twice with the same value; after 04 away and back
    ∷ refused_as (ascii ":017FFF00552C\n:017FFF00552C\n") 5 2
    ∷ refused_as (ascii ":017FFF00552C\n:02000004000FEB\n:020000040000FA\n:017FFF00552C\n") 5 4
    -- other types; the sum before the type
    ∷ refused_as (ascii ":02000002F0000C\n") 3 1
    ∷ refused_as (ascii ":02000002F0000D\n") 2 1
    ∷ refused_as (ascii ":0400000300000100F8\n") 3 1
    -- length 00 outside: the line behind it decides
    ∷ refused_as (ascii ":0080000080\nxx\n") 1 2
    -- any byte after the end record
    ∷ refused_as (end ++ ascii "x") 6 2
    ∷ refused_as (end ++ (0x0D ∷ [])) 6 2
    ∷ refused_as (end ++ end) 6 2
    -- 04 with one byte, 01 with data, before the sum
    ∷ refused_as (ascii ":0100000400FC\n") 1 1
    ∷ refused_as (ascii ":0100000100FE\n") 1 1
    -- 04 FFFFh, then a byte; the first faulty line decides
    ∷ refused_as (ascii ":02000004FFFFFC\n:0100000011EE\n") 4 2
    ∷ refused_as (ascii ":01800000017E\nxx\n") 4 1
    -- empty line; CR alone; two CRs; no digit; digits too few, odd, too many; no colon; a space; no end record
    ∷ refused_as (ascii "\n" ++ end) 1 1
    ∷ refused_as (ascii ":00000001FF" ++ (0x0D ∷ [])) 1 1
    ∷ refused_as (ascii ":00000001FF" ++ (0x0D ∷ 0x0D ∷ 0x0A ∷ [])) 1 1
    ∷ refused_as (ascii ":0000000gFF\n") 1 1
    ∷ refused_as (ascii ":000001FF\n") 1 1
    ∷ refused_as (ascii ":00000001FF0\n") 1 1
    ∷ refused_as (ascii ":00000001FF00\n") 1 1
    ∷ refused_as (ascii "00000001FF\n") 1 1
    ∷ refused_as (ascii ":00000001FF \n") 1 1
    ∷ refused_as to_data 7 0
    -- the edges of data flash; the address in 01 and 04 is not read, so the byte behind the end record is what is refused
    ∷ refused_as (to_data ++ ascii ":010FFF0011E0\n") 4 2
    ∷ refused_as (to_data ++ ascii ":01180000AA3D\n") 4 2
    ∷ refused_as (ascii ":02123404000FA5\n:0117FF005594\n:0056780131\nx") 6 4
    -- all of data flash
    ∷ gives_sheet (blocks_of 0 8) 4386 4386 (0x18 ∷ 0x00 ∷ [])
    ∷ []

-- so many blocks: too many bytes; too many steps; the most that fit
unfoldable pub hex_blocks : List HexText
hex_blocks =
    refused_as (blocks_of 16 0) 9 0
    ∷ refused_as (blocks_of 14 8) 8 0
    ∷ gives_sheet (blocks_of 15 6) 65270 65270 (0x3F ∷ 0x00 ∷ [])
    ∷ []
