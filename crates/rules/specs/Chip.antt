-- 01, Our chip: bytes, parts of a flash, blocks, pages and addresses. Assumes nothing.
use Rattle.std.specs.Prelude.{ℕ, ◌+◌, ◌-◌, ◌*◌, ◌/◌, ◌%◌, Bool, true, false, cond, ◌&&◌, ◌||◌, List, [], ◌∷◌, ◌++◌, ltb, leb, eqb, length, get_or, take, drop, replicate}
use Rattle.rules.specs.declared.Chip.{Chip}
use Rattle.rules.specs.declared.Flash.{Flash}
use Rattle.rules.specs.declared.Flash.TheVariants.{Code, Data}
use Rattle.rules.specs.declared.Address.{Address}
use Rattle.rules.specs.declared.Block.{Block}
use Rattle.rules.specs.Verdicts.{Found, In, Nowhere, Range, Blocks, Invalid}

-- ---- bytes, low byte first (Commands: "Addresses are three bytes, words two, low byte first") ----

abbrev pub byte_at : List ℕ → ℕ → ℕ
byte_at xs i = get_or xs i 0

abbrev pub word_at : List ℕ → ℕ → ℕ
word_at xs i = byte_at xs i + 256 * byte_at xs (i + 1)

abbrev pub address_at : List ℕ → ℕ → Address
address_at xs i = record { 0 = byte_at xs i + 256 * byte_at xs (i + 1) + 65536 * byte_at xs (i + 2) }

abbrev pub word_bytes : ℕ → List ℕ
word_bytes n = n % 256 ∷ n / 256 % 256 ∷ []

abbrev pub address_bytes : Address → List ℕ
address_bytes a = a.0 % 256 ∷ a.0 / 256 % 256 ∷ a.0 / 65536 % 256 ∷ []

-- the sum of the bytes
unfoldable pub total : List ℕ → ℕ
total [] = 0
total (x ∷ xs) = x + total xs

-- the same bytes
unfoldable pub same : List ℕ → List ℕ → Bool
same [] [] = true
same [] (y ∷ ys) = false
same (x ∷ xs) [] = false
same (x ∷ xs) (y ∷ ys) = cond (eqb x y) (same xs ys) false

-- "Blank is FFh"
abbrev pub blank_byte : ℕ
blank_byte = 0xFF

unfoldable pub blank : List ℕ → Bool
blank [] = true
blank (x ∷ xs) = cond (eqb x blank_byte) (blank xs) false

-- 02, M-100: how many bytes stand before the first that is not FFh
unfoldable pub blanks_before : List ℕ → ℕ
blanks_before [] = 0
blanks_before (x ∷ xs) = cond (eqb x blank_byte) (1 + blanks_before xs) 0

-- bytes put over the first of a lent buffer: "bytes after the answer's length keep their contents"
unfoldable pub over : List ℕ → List ℕ → List ℕ
over new old = new ++ drop (length new) old

-- ---- parts of a flash, over their size and number: a block and a page are uses of these ----

-- part number i of the parts of that size
unfoldable pub part_of : ℕ → ℕ → List ℕ → List ℕ
part_of size i flash = take size (drop (i * size) flash)

-- the flash with part number i replaced
unfoldable pub put_part : ℕ → ℕ → List ℕ → List ℕ → List ℕ
put_part size i new flash = take (i * size) flash ++ (new ++ drop size (drop (i * size) flash))

-- "For a block or page that isn't there, or a flash of another length, the part is empty"
unfoldable pub shown : ℕ → ℕ → ℕ → List ℕ → List ℕ
shown size count i flash =
    cond (eqb (length flash) (count * size)) (cond (ltb i count) (part_of size i flash) []) []

-- ---- the chip ----

-- "16 blocks of 2,048", "8 blocks of 256", "A page is 256 bytes", "Data flash .. from F1000h"
abbrev pub small : Chip
small = record { code = 16; «data» = 8 }

-- 02, M-105: "64 code blocks of 2,048 and 32 data blocks of 256"
abbrev pub large : Chip
large = record { code = 64; «data» = 32 }

-- "a record with other counts than these two is D0"
abbrev pub same_counts : Chip → Chip → Bool
same_counts a b = eqb a.code b.code && eqb a.«data» b.«data»

unfoldable pub known : Chip → Bool
known chip = same_counts chip small || same_counts chip large

abbrev pub block_size : Flash → ℕ
block_size Code = 2048
block_size Data = 256

abbrev pub start : Flash → ℕ
start Code = 0x00000
start Data = 0xF1000

abbrev pub blocks : Chip → Flash → ℕ
blocks chip Code = chip.code
blocks chip Data = chip.«data»

abbrev pub flash_size : Chip → Flash → ℕ
flash_size chip f = blocks chip f * block_size f

abbrev pub page_size : ℕ
page_size = 256

abbrev pub pages_per_block : Flash → ℕ
pages_per_block Code = 8
pages_per_block Data = 1

abbrev pub pages : Chip → Flash → ℕ
pages chip f = blocks chip f * pages_per_block f

-- "Boot cluster 0 is code blocks 0 to 7"
abbrev pub boot_blocks : ℕ
boot_blocks = 8

abbrev pub in_boot_cluster : Flash → Block → Bool
in_boot_cluster Code b = ltb b.0 boot_blocks
in_boot_cluster Data b = false

-- "The connection ID is the ten code bytes 000C4h to 000CDh"
abbrev pub ident_at : ℕ
ident_at = 0xC4

abbrev pub ident_size : ℕ
ident_size = 10

-- ---- the two flashes ----

unfoldable pub same_flash : Flash → Flash → Bool
same_flash Code Code = true
same_flash Code Data = false
same_flash Data Code = false
same_flash Data Data = true

pub record Memory : Type 0 where
  pub code : List ℕ
  pub «data» : List ℕ

abbrev pub flash_of : Memory → Flash → List ℕ
flash_of m Code = m.code
flash_of m Data = m.«data»

abbrev pub with_flash : Memory → Flash → List ℕ → Memory
with_flash m Code xs = record { code = xs; «data» = m.«data» }
with_flash m Data xs = record { code = m.code; «data» = xs }

-- "A fresh chip has .. all flash blank"
abbrev pub fresh_memory : Chip → Memory
fresh_memory chip =
    record { code = replicate (flash_size chip Code) blank_byte; «data» = replicate (flash_size chip Data) blank_byte }

abbrev pub fits : Chip → Memory → Flash → Bool
fits chip m f = eqb (length (flash_of m f)) (flash_size chip f)

abbrev pub blank_memory : Memory → Bool
blank_memory m = blank m.code && blank m.«data»

abbrev pub ident_of : Memory → List ℕ
ident_of m = take ident_size (drop ident_at m.code)

-- the finder's block, and its page
abbrev pub block_shown : Chip → Memory → Flash → Block → List ℕ
block_shown chip m f b = shown (block_size f) (blocks chip f) b.0 (flash_of m f)

abbrev pub page_shown : Chip → Memory → Flash → ℕ → List ℕ
page_shown chip m f k = shown page_size (pages chip f) k (flash_of m f)

-- a block, a page, and the block that a page lies in
abbrev pub block : ℕ → Block
block n = record { 0 = n }

abbrev pub page_of : Memory → Flash → ℕ → List ℕ
page_of m f k = part_of page_size k (flash_of m f)

abbrev pub put_page : Memory → Flash → ℕ → List ℕ → Memory
put_page m f k new = with_flash m f (put_part page_size k new (flash_of m f))

abbrev pub block_of_page : Flash → ℕ → Block
block_of_page f k = block (k / pages_per_block f)

-- "Erase fills one block with FFh"
abbrev pub erase_block : Memory → Flash → Block → Memory
erase_block m f b =
    with_flash m f (put_part (block_size f) b.0 (replicate (block_size f) blank_byte) (flash_of m f))

-- ---- addresses and blocks: only these turn one into the other ----

-- the first and the last byte of a block
abbrev pub first_byte : Flash → Block → Address
first_byte f b = record { 0 = start f + b.0 * block_size f }

abbrev pub last_byte : Flash → Block → Address
last_byte f b = record { 0 = start f + b.0 * block_size f + (block_size f - 1) }

-- the address lies in that flash; its block there; it is the first, the last byte of a block
abbrev pub within : Chip → Flash → Address → Bool
within chip f a = leb (start f) a.0 && ltb a.0 (start f + flash_size chip f)

abbrev pub block_at : Flash → Address → Block
block_at f a = block ((a.0 - start f) / block_size f)

abbrev pub begins : Flash → Address → Bool
begins f a = eqb ((a.0 - start f) % block_size f) 0

abbrev pub ends : Flash → Address → Bool
ends f a = eqb ((a.0 - start f) % block_size f) (block_size f - 1)

-- Commands: "Erase wants the first byte of a block"
abbrev pub first_in : Chip → Flash → Address → Bool
first_in chip f a = within chip f a && begins f a

unfoldable pub erase_address : Chip → Address → Found
erase_address chip a =
    cond (first_in chip Code a)
    (In Code (block_at Code a))
    (cond (first_in chip Data a) (In Data (block_at Data a)) Nowhere)

-- Commands: "An address pair is valid when SAD ≤ EAD, both lie in the same flash, SAD is the first byte of a block and EAD the last of one"
abbrev pub pair_in : Chip → Flash → Address → Address → Bool
pair_in chip f sad ead =
    leb sad.0 ead.0 && within chip f sad && within chip f ead && begins f sad && ends f ead

unfoldable pub range : Chip → Address → Address → Range
range chip sad ead =
    cond (pair_in chip Code sad ead)
    (Blocks Code (block_at Code sad) (block_at Code ead))
    (cond (pair_in chip Data sad ead) (Blocks Data (block_at Data sad) (block_at Data ead)) Invalid)

abbrev pub nowhere : Found → Bool
nowhere (In f b) = false
nowhere Nowhere = true

abbrev pub invalid : Range → Bool
invalid (Blocks f a b) = false
invalid Invalid = true

-- what a range comes to in blocks, pages and bytes
abbrev pub blocks_from : Block → Block → ℕ
blocks_from first last = last.0 + 1 - first.0

abbrev pub pages_from : Flash → Block → Block → ℕ
pages_from f first last = blocks_from first last * pages_per_block f

abbrev pub first_page : Flash → Block → ℕ
first_page f first = first.0 * pages_per_block f

abbrev pub bytes_from : Memory → Flash → Block → Block → List ℕ
bytes_from m f first last =
    take (blocks_from first last * block_size f) (drop (first.0 * block_size f) (flash_of m f))

-- Commands: "Checksum starts at 0000h and subtracts each byte; borrows are dropped"
unfoldable pub checksum : List ℕ → ℕ
checksum xs = (65536 - total xs % 65536) % 65536
