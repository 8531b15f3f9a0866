-- 02, M-110: values. Sums of neighbouring ranges, and erases in either order and twice, as sessions on the small chip. Assumes nothing.
use Rattle.std.specs.Prelude.{ℕ, zero, suc, ◌+◌, ◌*◌, ◌%◌, List, [], ◌∷◌, ◌++◌, set}
use Rattle.rules.specs.Chip.{Memory}
use Rattle.rules.specs.Options.{fresh_options}
use Rattle.trials_rows.specs.Rows.{Exchange, to, Session, blank_flash, ack, session, command, pair, paged}

-- so many bytes (7i + 3) mod 256 from byte i on
unfoldable pub sevens : ℕ → ℕ → List ℕ
sevens i zero = []
sevens i (suc left) = (7 * i + 3) % 256 ∷ sevens (i + 1) left

-- data flash of those bytes, with byte 0 another; code flash blank
abbrev pub counted : Memory
counted = record { code = blank_flash.code; «data» = set (sevens 0 2048) 0 1 }

-- Checksum of data flash and of code flash, by the middle bytes of both addresses; the sum, low byte first
abbrev data_sum : ℕ → ℕ → ℕ → ℕ → Exchange
data_sum from upto low high =
    to (command (0xB0 ∷ 0x00 ∷ from ∷ 0x0F ∷ 0xFF ∷ upto ∷ 0x0F ∷ [])) (ack ++ pair low high)

abbrev code_sum : ℕ → ℕ → ℕ → ℕ → Exchange
code_sum from upto low high =
    to (command (0xB0 ∷ 0x00 ∷ from ∷ 0x00 ∷ 0xFF ∷ upto ∷ 0x00 ∷ [])) (ack ++ pair low high)

-- Block Erase of data blocks 1 and 3, from F1100h and from F1300h on; and of code block 3, from 01800h on
abbrev erase_one : Exchange
erase_one = to (0x01 ∷ 0x04 ∷ 0x22 ∷ 0x00 ∷ 0x11 ∷ 0x0F ∷ 0xBA ∷ 0x03 ∷ []) ack

abbrev erase_three : Exchange
erase_three = to (0x01 ∷ 0x04 ∷ 0x22 ∷ 0x00 ∷ 0x13 ∷ 0x0F ∷ 0xB8 ∷ 0x03 ∷ []) ack

abbrev erase_code_three : Exchange
erase_code_three = to (command (0x22 ∷ 0x00 ∷ 0x18 ∷ 0x00 ∷ [])) ack

-- the same memory with code byte 01FFFh used: the last of code block 3
abbrev used_too : Memory
used_too = record { code = set blank_flash.code 0x1FFF 0x00; «data» = counted.«data» }

unfoldable pub block_sessions : List Session
block_sessions =
    -- 8082h and 8180h, joined 0202h; the same of fresh code blocks: 0800h twice, joined 1000h
    session fresh_options counted (data_sum 0x10 0x10 0x82 0x80 ∷ data_sum 0x11 0x13 0x80 0x81 ∷ data_sum 0x10 0x13 0x02 0x02 ∷ []) counted
    ∷ session fresh_options blank_flash (code_sum 0x00 0x07 0x00 0x08 ∷ code_sum 0x08 0x0F 0x00 0x08 ∷ code_sum 0x00 0x0F 0x00 0x10 ∷ []) blank_flash
    -- data blocks 1 and 3 in either order; one twice
    ∷ session fresh_options counted (erase_one ∷ erase_three ∷ []) (paged 3 0xFF (paged 1 0xFF counted))
    ∷ session fresh_options counted (erase_three ∷ erase_one ∷ []) (paged 3 0xFF (paged 1 0xFF counted))
    ∷ session fresh_options counted (erase_one ∷ erase_one ∷ []) (paged 1 0xFF counted)
    -- code block 3 and data block 3
    ∷ session fresh_options used_too (erase_code_three ∷ erase_three ∷ []) (paged 3 0xFF counted)
    ∷ session fresh_options used_too (erase_three ∷ erase_code_three ∷ []) (paged 3 0xFF counted)
    ∷ []
