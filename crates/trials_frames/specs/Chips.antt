-- 02, M-105: the larger receiver. Its trials: other counts, lengths, sessions and sheets on both chips. Assumes nothing.
use Rattle.std.specs.Prelude.{true, List, [], ◌∷◌, ◌++◌, ℕ}
use Rattle.rules.specs.declared.Chip.{Chip}
use Rattle.rules.specs.declared.Options.{Options}
use Rattle.rules.specs.declared.numbers.Number.{Number}
use Rattle.rules.specs.Chip.{small, large, fresh_memory}
use Rattle.rules.specs.Options.{fresh_options}
use Rattle.trials_rows.specs.Rows.{plain, D, J, Exchange, to, Session, Play, refused_by, no_sums, unreached, Lending, blank_flash, ack, opening, session, no_boot, command, one, pair, entry_in}

-- ---- what is lent ----

abbrev chip : ℕ → ℕ → Chip
chip c d = record { code = c; «data» = d }

abbrev lending : Chip → ℕ → ℕ → ℕ → Number → Number → Lending
lending k code dat reply byte on =
    record { chip = k; code = code; «data» = dat; reply = reply; byte_call = byte; power_on = on }

unfoldable pub chip_lengths : List Lending
chip_lengths =
    -- other counts, whatever is lent
    lending (chip 16 32) 32768 2048 16 (D 0) (D 0)
    ∷ lending (chip 64 8) 32768 2048 16 (D 0) (D 0)
    ∷ lending (chip 15 8) 30720 2048 16 (D 0) (D 0)
    ∷ lending (chip 17 8) 0 0 0 (D 0) (D 0)
    ∷ lending (chip 0 0) 0 0 16 (D 0) (D 0)
    -- the large chip's own lengths
    ∷ lending large 32768 2048 16 (D 1) (D 1)
    ∷ lending large 131072 2048 15 (D 2) (D 2)
    ∷ lending large 131072 8192 15 (D 3) (plain 0)
    ∷ []

-- ---- sessions ----

-- Block Erase and Checksum, with their answers
abbrev erase : ℕ → ℕ → ℕ → List ℕ → Exchange
erase low middle high due = to (command (0x22 ∷ low ∷ middle ∷ high ∷ [])) due

abbrev sum : ℕ → ℕ → ℕ → ℕ → List ℕ → Exchange
sum from high upto high' due = to (command (0xB0 ∷ 0x00 ∷ from ∷ high ∷ 0xFF ∷ upto ∷ high' ∷ [])) due

-- the same bytes on either chip: Window Get; the last code block of the large one, and one past it; its last data block, and one past it; both flashes
-- summed, as the large chip has them
abbrev asked : List ℕ → List ℕ → List ℕ → List ℕ → List Exchange
asked window last code_sum data_sum =
    to (command (0xAD ∷ [])) (ack ++ window)
    ∷ erase 0x00 0xF8 0x01 last
    ∷ erase 0x00 0x00 0x02 (one 0x05)
    ∷ erase 0x00 0x2F 0x0F last
    ∷ erase 0x00 0x30 0x0F (one 0x05)
    ∷ sum 0x00 0x00 0xFF 0x01 code_sum
    ∷ sum 0x10 0x0F 0x2F 0x0F data_sum
    ∷ []

abbrev on_large : Options → List Exchange → Session
on_large o xs =
    record {
      chip = large;
      options = o;
      memory = fresh_memory large;
      exchanges = opening ++ xs;
      phase = 3;
      waiting = true;
      options_after = o;
      memory_after = fresh_memory large;
    }

unfoldable pub chip_sessions : List Session
chip_sessions =
    -- and with BTPR 0 boot cluster 0 is code blocks 0 to 7 again: its last block, the block behind it, a data block
    on_large no_boot
    ((erase 0x00 0x38 0x00 (one 0x10) ∷ erase 0x00 0x40 0x00 ack ∷ erase 0x00 0x17 0x0F ack ∷ [])
    ++ asked (0x02 ∷ 0x04 ∷ 0x00 ∷ 0x80 ∷ 0x3F ∷ 0x80 ∷ 0xBD ∷ 0x03 ∷ []) ack (ack ++ pair 0x00 0x00) (ack ++ pair 0x00 0x20))
    ∷ session fresh_options blank_flash
    (asked (0x02 ∷ 0x04 ∷ 0x00 ∷ 0x80 ∷ 0x0F ∷ 0x80 ∷ 0xED ∷ 0x03 ∷ []) (one 0x05) (one 0x05) (one 0x05))
    blank_flash
    ∷ []

-- ---- sheets: judged against that chip (from M-106 on by the chip that a form 2 sheet names) ----

-- the erase of the large chip's last code block
abbrev erase_last : List ℕ
erase_last = 0x01 ∷ 0x00 ∷ entry_in 0x01 1 0xF8 0xFF 14

-- three erases: the large chip's last data block; from the last block of boot cluster 0 on; the last code block
abbrev erase_three : List ℕ
erase_three =
    0xFE ∷ 0x02 ∷ 0x02 ∷ 0x00 ∷ 0x03 ∷ 0x00
    ∷ (entry_in 0x0F 1 0x2F 0x2F 42 ++ entry_in 0x00 1 0x38 0x4F 42 ++ entry_in 0x01 1 0xF8 0xFF 42)

unfoldable pub chip_sheets : List Play
chip_sheets =
    -- with BTPR 0 the last data block is erased, and the last block of boot cluster 0 stops the play
    record {
      chip = large;
      options = no_boot;
      memory = fresh_memory large;
      sheet = erase_three;
      verdict = plain 0;
      status = plain 0x10;
      steps = 1;
      frames = 2;
      pieces = 0;
      sums = no_sums;
      each = 1 ∷ 1 ∷ unreached ∷ unreached ∷ [];
      options_after = no_boot;
      memory_after = fresh_memory large;
    }
    ∷ refused_by small erase_last (J 6)
    ∷ refused_by (chip 16 32) erase_last (D 0)
    ∷ refused_by (chip 16 32) (0x00 ∷ []) (D 0)
    ∷ refused_by large (0x00 ∷ []) (J 1)
    ∷ []
