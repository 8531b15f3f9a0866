-- 02, M-100: sessions with Blank Check and their notes. Assumes nothing.
use Rattle.std.specs.Prelude.{List, [], ◌∷◌, ◌++◌, ℕ, set}
use Rattle.rules.specs.declared.Flash.TheVariants.{Code, Data}
use Rattle.rules.specs.declared.Options.{Options}
use Rattle.rules.specs.Notes.{Note, Empty, Used, Bits}
use Rattle.rules.specs.Chip.{Memory, block}
use Rattle.rules.specs.Options.{fresh_options}
use Rattle.trials_rows.specs.Rows.{to, to_noted, Session, mode, blank_flash, ack, session, ending, flags, no_boot, ask_ident, command, one, opening}

-- flash with one byte used
abbrev used_code : ℕ → Memory
used_code i = record { code = set blank_flash.code i 0x00; «data» = blank_flash.«data» }

abbrev used_data : ℕ → Memory
used_data i = record { code = blank_flash.code; «data» = set blank_flash.«data» i 0x00 }

-- options with other windows
abbrev windows : ℕ → ℕ → Options
windows sws swe = record { sf1 = 0xFF; sf2 = 0xFF; sws = sws; swe = swe }

-- one command to options and flash that it leaves as they are: its answer and its note
abbrev asked : Options → Memory → List ℕ → List ℕ → Note → Session
asked o m sent due note = session o m (to_noted sent due note ∷ []) m

-- 32h over all of data flash, all of code flash without and with the options, the last code block, code block 1
abbrev all_data : List ℕ
all_data = 0x01 ∷ 0x08 ∷ 0x32 ∷ 0x00 ∷ 0x10 ∷ 0x0F ∷ 0xFF ∷ 0x17 ∷ 0x0F ∷ 0x00 ∷ 0x82 ∷ 0x03 ∷ []

abbrev all_code : List ℕ
all_code = 0x01 ∷ 0x08 ∷ 0x32 ∷ 0x00 ∷ 0x00 ∷ 0x00 ∷ 0xFF ∷ 0x7F ∷ 0x00 ∷ 0x00 ∷ 0x48 ∷ 0x03 ∷ []

abbrev code_and_options : List ℕ
code_and_options = 0x01 ∷ 0x08 ∷ 0x32 ∷ 0x00 ∷ 0x00 ∷ 0x00 ∷ 0xFF ∷ 0x7F ∷ 0x00 ∷ 0x01 ∷ 0x47 ∷ 0x03 ∷ []

abbrev last_block : List ℕ
last_block = 0x01 ∷ 0x08 ∷ 0x32 ∷ 0x00 ∷ 0x78 ∷ 0x00 ∷ 0xFF ∷ 0x7F ∷ 0x00 ∷ 0x00 ∷ 0xD0 ∷ 0x03 ∷ []

abbrev block_one : List ℕ
block_one = 0x01 ∷ 0x08 ∷ 0x32 ∷ 0x00 ∷ 0x08 ∷ 0x00 ∷ 0xFF ∷ 0x0F ∷ 0x00 ∷ 0x00 ∷ 0xB0 ∷ 0x03 ∷ []

abbrev not_blank : List ℕ
not_blank = 0x02 ∷ 0x01 ∷ 0x1B ∷ 0xE4 ∷ 0x03 ∷ []

unfoldable pub blank_checks : List Session
blank_checks =
    -- all blank
    asked fresh_options blank_flash all_data ack Empty
    ∷ asked fresh_options blank_flash code_and_options ack Empty
    -- an option bit counted in is not 1; stray bits, and those that TAR 00h does not count in
    ∷ asked no_boot blank_flash code_and_options not_blank Bits
    ∷ asked (windows 0xFFFE 0xFFFF) blank_flash code_and_options not_blank Bits
    ∷ asked (windows 0x7FFF 0xFFFF) blank_flash code_and_options not_blank Bits
    ∷ asked (windows 0xFFFF 0xFFFE) blank_flash code_and_options not_blank Bits
    ∷ asked (windows 0xFFFF 0x7FFF) blank_flash code_and_options not_blank Bits
    ∷ asked (flags 0xFB 0xFF) blank_flash code_and_options not_blank Bits
    ∷ asked (flags 0xEF 0xFF) blank_flash code_and_options not_blank Bits
    ∷ asked (flags 0xFF 0xF7) blank_flash code_and_options not_blank Bits
    ∷ asked (flags 0xFF 0xEF) blank_flash code_and_options not_blank Bits
    ∷ asked (record { sf1 = 0x16; sf2 = 0x1D; sws = 0x81FF; swe = 0x81FF }) blank_flash code_and_options ack Empty
    ∷ asked no_boot blank_flash all_code ack Empty
    ∷ session
    ask_ident
    blank_flash
    (to (command (0x9C ∷ 0xFF ∷ 0xFF ∷ 0xFF ∷ 0xFF ∷ 0xFF ∷ 0xFF ∷ 0xFF ∷ 0xFF ∷ 0xFF ∷ 0xFF ∷ [])) ack
    ∷ to_noted code_and_options not_blank Bits
    ∷ [])
    blank_flash
    -- TAR and pair are judged before flash is looked at
    ∷ asked fresh_options blank_flash (command (0x32 ∷ 0x00 ∷ 0x00 ∷ 0x00 ∷ 0xFF ∷ 0x7F ∷ 0x00 ∷ 0x02 ∷ [])) (one 0x05) Empty
    ∷ asked fresh_options (used_code 0) (command (0x32 ∷ 0x00 ∷ 0x00 ∷ 0x00 ∷ 0xFF ∷ 0x7F ∷ 0x00 ∷ 0x02 ∷ [])) (one 0x05) Empty
    ∷ asked fresh_options blank_flash (command (0x32 ∷ 0x00 ∷ 0x10 ∷ 0x0F ∷ 0xFE ∷ 0x10 ∷ 0x0F ∷ 0x00 ∷ [])) (one 0x05) Empty
    -- the first byte used, by block and page; bytes beside the range do not count
    ∷ asked fresh_options (used_code 0x1D11) all_code not_blank (Used Code (block 3) 5)
    ∷ asked fresh_options (used_code 0x7FFF) last_block not_blank (Used Code (block 15) 7)
    ∷ asked fresh_options (used_code 0x07FF) block_one ack Empty
    ∷ asked fresh_options (used_code 0x1000) block_one ack Empty
    ∷ asked fresh_options (used_data 0x2FF) all_data not_blank (Used Data (block 2) 0)
    -- flash before options
    ∷ asked no_boot (used_code 0x0800) code_and_options not_blank (Used Code (block 1) 0)
    -- in Speed and in Ident it is not allowed, and the phase stays
    ∷ ending 1 fresh_options fresh_options (to mode [] ∷ to all_data (one 0x04) ∷ [])
    ∷ ending 2 ask_ident ask_ident (opening ++ (to all_data (one 0x04) ∷ []))
    -- Release that finds a byte used has no note
    ∷ asked fresh_options (used_code 5) (command (0xA2 ∷ [])) not_blank Empty
    ∷ []
