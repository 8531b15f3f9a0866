-- Further tables of trials: sessions, sheets, single calls. Assumes nothing.
use Rattle.std.specs.Prelude.{List, [], ◌∷◌, ◌++◌, true, ℕ, set, take, replicate}
use Rattle.rules.specs.declared.Kind.TheVariants.{Erase, Write, Verify, Sum}
use Rattle.rules.specs.Notes.{EndByte, Length}
use Rattle.rules.specs.declared.Options.{Options}
use Rattle.rules.specs.declared.Player.{Player}
use Rattle.rules.specs.declared.Stage.TheVariants.{Ready, Block, Commanded, Page, Paged, Over}
use Rattle.rules.specs.declared.Status.TheVariants.{Byte}
use Rattle.rules.specs.declared.numbers.Number.{Number}
use Rattle.rules.specs.Chip.{Memory, small}
use Rattle.rules.specs.Options.{fresh_options}
use Rattle.rules.specs.Frame.{data_start, last_end, more_end, frame}
use Rattle.rules.specs.Player.{player, new_player, well}
use Rattle.trials_rows.specs.Rows.{plain, D, J, P, L, Exchange, to, to_noted, Session, Play, refused_by, no_sums, unreached, mode, speed, Lending, Calling, blank_flash, ack, session, on_fresh, on_fresh_noted, optioned, ending, flags, no_boot, no_erase, no_write, ask_ident, command, filled, page, bad_sum, one, pair, one_page, two_pages, paged, entry_in, entry}

-- ---- sessions ----

-- 001, section 7.12
abbrev cancel : List ℕ
cancel = 0x02 ∷ 0x01 ∷ 0x00 ∷ 0xFF ∷ 0xFF ∷ []

abbrev reset : Exchange
reset = to (command (0x00 ∷ [])) ack

abbrev wrong_ident : List ℕ
wrong_ident = command (0x9C ∷ replicate 9 0xFF ++ (0x00 ∷ []))

abbrev right_ident : List ℕ
right_ident = command (0x9C ∷ replicate 10 0xFF)

-- mode and speed, as they are answered
abbrev opening : List Exchange
opening = to mode [] ∷ to speed (frame data_start last_end (0x06 ∷ 0x20 ∷ 0x00 ∷ [])) ∷ []

-- 9Ah with that BRT and VDD, answered well and refused
abbrev rated : ℕ → ℕ → Session
rated brt vdd =
    record {
      chip = small;
      options = fresh_options;
      memory = blank_flash;
      exchanges = to mode [] ∷ to (command (0x9A ∷ brt ∷ vdd ∷ [])) (frame data_start last_end (0x06 ∷ 0x20 ∷ 0x00 ∷ [])) ∷ [];
      phase = 3;
      waiting = true;
      options_after = fresh_options;
      memory_after = blank_flash;
    }

abbrev unrated : ℕ → ℕ → Session
unrated brt vdd =
    ending 4 fresh_options fresh_options (to (0x00 ∷ []) [] ∷ to (command (0x9A ∷ brt ∷ vdd ∷ [])) (one 0x05) ∷ to speed [] ∷ [])

-- code flash with one byte used
abbrev used_code : ℕ → Memory
used_code i = record { code = set blank_flash.code i 0x00; «data» = blank_flash.«data» }

-- what Release leaves of FF E4 8102 0304
abbrev released : Options
released = record { sf1 = 0xFF; sf2 = 0xFC; sws = 0x81FF; swe = 0x83FF }

unfoldable pub further : List Session
further =
    -- a Verify difference in the first of two pages is told only at the end; and no difference
    session
    fresh_options
    (paged 1 0x5A blank_flash)
    (to (two_pages 0x13) ack ∷ to (page more_end 0xA5) (pair 0x06 0x06) ∷ to (page last_end 0x5A) (pair 0x06 0x0F) ∷ [])
    (paged 1 0x5A blank_flash)
    ∷ session
    fresh_options
    (paged 0 0xA5 (paged 1 0x5A blank_flash))
    (to (two_pages 0x13) ack ∷ to (page more_end 0xA5) (pair 0x06 0x06) ∷ to (page last_end 0x5A) (pair 0x06 0x06) ∷ [])
    (paged 0 0xA5 (paged 1 0x5A blank_flash))
    -- a frame fault after a difference does not tell it
    ∷ session
    fresh_options
    blank_flash
    (to (two_pages 0x13) ack ∷ to (page more_end 0xA5) (pair 0x06 0x06) ∷ to (bad_sum 0xFF) (pair 0x07 0x06) ∷ [])
    blank_flash
    -- the cancel frame at a first page and at a later one, in Programming and in Verify; a command is taken again
    ∷ session
    fresh_options
    blank_flash
    (to (two_pages 0x40) ack ∷ to_noted cancel (pair 0x15 0x06) EndByte ∷ reset ∷ [])
    blank_flash
    ∷ session
    fresh_options
    blank_flash
    (to (two_pages 0x40) ack ∷ to (page more_end 0xA5) (pair 0x06 0x06) ∷ to_noted cancel (pair 0x15 0x06) EndByte ∷ reset ∷ [])
    (paged 0 0xA5 blank_flash)
    ∷ session
    fresh_options
    blank_flash
    (to (two_pages 0x13) ack ∷ to (page more_end 0xA5) (pair 0x06 0x06) ∷ to_noted cancel (pair 0x15 0x06) EndByte ∷ reset ∷ [])
    blank_flash
    -- 03h for 17h; 17h as a byte of a page
    ∷ session fresh_options blank_flash (to (two_pages 0x40) ack ∷ to_noted (page last_end 0xA5) (pair 0x15 0x06) EndByte ∷ []) blank_flash
    ∷ session
    fresh_options
    blank_flash
    (to (one_page 0x40) ack ∷ to (page last_end 0x17) (pair 0x06 0x06) ∷ [])
    (paged 0 0x17 blank_flash)
    -- a data frame whose LEN is not 00h, with a right end byte and SUM
    ∷ session
    fresh_options
    blank_flash
    (to (one_page 0x40) ack ∷ to_noted (frame data_start last_end (0xA5 ∷ [])) (pair 0x15 0x06) (Length 0 1) ∷ [])
    blank_flash
    -- a page not blank, alone; a protected page: 10h, told at the last page; then at the page after
    ∷ session
    fresh_options
    (paged 0 0x00 blank_flash)
    (to (one_page 0x40) ack ∷ to (page last_end 0xA5) (pair 0x06 0x1C) ∷ [])
    (paged 0 0x00 blank_flash)
    ∷ session
    no_write
    blank_flash
    (to (one_page 0x40) ack ∷ to (page last_end 0xA5) (pair 0x06 0x10) ∷ [])
    blank_flash
    ∷ session
    no_write
    blank_flash
    (to (two_pages 0x40) ack ∷ to (page more_end 0xA5) (pair 0x06 0x06) ∷ to (page last_end 0xA5) (pair 0x06 0x10) ∷ [])
    blank_flash
    -- two code blocks, page by page; the last page of data flash, and one past it; the last code block, and one past it
    ∷ session
    fresh_options
    blank_flash
    (to (command (0x40 ∷ 0x00 ∷ 0x00 ∷ 0x00 ∷ 0xFF ∷ 0x0F ∷ 0x00 ∷ [])) ack
    ∷ (replicate 15 (to (page more_end 0xA5) (pair 0x06 0x06)) ++ (to (page last_end 0xA5) (pair 0x06 0x06) ∷ [])))
    (record { code = replicate 4096 0xA5 ++ replicate 28672 0xFF; «data» = blank_flash.«data» })
    ∷ session
    fresh_options
    blank_flash
    (to (command (0x40 ∷ 0x00 ∷ 0x17 ∷ 0x0F ∷ 0xFF ∷ 0x17 ∷ 0x0F ∷ [])) ack ∷ to (page last_end 0xA5) (pair 0x06 0x06) ∷ [])
    (paged 7 0xA5 blank_flash)
    ∷ on_fresh (command (0x40 ∷ 0x00 ∷ 0x18 ∷ 0x0F ∷ 0xFF ∷ 0x18 ∷ 0x0F ∷ [])) (one 0x05)
    ∷ on_fresh
    (command (0xB0 ∷ 0x00 ∷ 0x78 ∷ 0x00 ∷ 0xFF ∷ 0x7F ∷ 0x00 ∷ []))
    (ack ++ frame data_start last_end (0x00 ∷ 0x08 ∷ []))
    ∷ on_fresh (command (0xB0 ∷ 0x00 ∷ 0x80 ∷ 0x00 ∷ 0xFF ∷ 0x87 ∷ 0x00 ∷ [])) (one 0x05)
    -- while data is awaited, and with a frame half received, the stand-in does not wait for a command
    ∷ ending
    3
    fresh_options
    fresh_options
    (opening ++ (to (two_pages 0x13) ack ∷ to (page more_end 0xA5) (pair 0x06 0x06) ∷ []))
    ∷ ending 3 fresh_options fresh_options (opening ++ (to (0x01 ∷ 0x01 ∷ 0x00 ∷ []) [] ∷ []))
    -- boot cluster 0: with BTPR 0 data block 0 is erased and written, and a code block outside it that is not blank is erased
    ∷ session
    no_boot
    (paged 0 0x00 blank_flash)
    (to (command (0x22 ∷ 0x00 ∷ 0x10 ∷ 0x0F ∷ [])) ack
    ∷ to (two_pages 0x40) ack
    ∷ to (page more_end 0xA5) (pair 0x06 0x06)
    ∷ to (page last_end 0xFF) (pair 0x06 0x06)
    ∷ [])
    (paged 0 0xA5 blank_flash)
    ∷ session no_boot (used_code 16384) (to (command (0x22 ∷ 0x00 ∷ 0x40 ∷ 0x00 ∷ [])) ack ∷ []) blank_flash
    -- 13: mode 3Bh; a wrong ID, then Silent; the right one
    ∷ ending 4 fresh_options fresh_options (to (0x3B ∷ []) [] ∷ to (command (0x00 ∷ [])) [] ∷ [])
    ∷ ending 4 ask_ident ask_ident (opening ++ (to wrong_ident (0x02 ∷ 0x01 ∷ 0x24 ∷ 0xDB ∷ 0x03 ∷ []) ∷ to right_ident [] ∷ []))
    ∷ optioned ask_ident ask_ident (to right_ident ack ∷ reset ∷ [])
    -- 9Ah and 9Ch outside their phase: 04h, and the phase stays
    ∷ ending 2 ask_ident ask_ident (opening ++ (to speed (one 0x04) ∷ to (command (0x00 ∷ [])) (one 0x04) ∷ []))
    ∷ on_fresh speed (one 0x04)
    -- IFPR 0: Silent from the power-on
    ∷ ending 4 (flags 0xFF 0xFB) (flags 0xFF 0xFB) (to mode [] ∷ to speed [] ∷ [])
    -- 14: Release with one byte 00h and SEPR 0; with SEPR 0 alone; with neither, IDEN 0, which stays
    ∷ session
    no_erase
    (used_code 5)
    (to (command (0xA2 ∷ [])) (0x02 ∷ 0x01 ∷ 0x1B ∷ 0xE4 ∷ 0x03 ∷ []) ∷ [])
    (used_code 5)
    ∷ session no_erase blank_flash (to (command (0xA2 ∷ [])) (one 0x10) ∷ []) blank_flash
    ∷ optioned
    (record { sf1 = 0xEF; sf2 = 0xE6; sws = 0x7E00; swe = 0x0001 })
    (record { sf1 = 0xFF; sf2 = 0xFE; sws = 0xFFFF; swe = 0x81FF })
    (to right_ident ack ∷ to (command (0xA2 ∷ [])) ack ∷ [])
    -- M-102: released and shown with IDEN 0, still in Command; from the next power-on the ID is asked for; with IDEN 1 that stays too
    ∷ optioned
    (record { sf1 = 0xFF; sf2 = 0xE4; sws = 0x8102; swe = 0x0304 })
    released
    (to right_ident ack
    ∷ to (0x01 ∷ 0x01 ∷ 0xA2 ∷ 0x5D ∷ 0x03 ∷ []) ack
    ∷ to (command (0xA1 ∷ [])) (ack ++ (0x02 ∷ 0x03 ∷ 0x17 ∷ 0x1C ∷ 0x00 ∷ 0xCA ∷ 0x03 ∷ []))
    ∷ [])
    ∷ ending 2 released released (opening ++ (to (0x01 ∷ 0x01 ∷ 0x00 ∷ 0xFF ∷ 0x03 ∷ []) (one 0x04) ∷ []))
    ∷ optioned (flags 0xEE 0xED) (flags 0xFE 0xFD) (to (command (0xA2 ∷ [])) ack ∷ [])
    -- A0h has LEN 4; what it clears stays cleared; IFPR cleared is not answered
    ∷ optioned
    fresh_options
    (flags 0xFB 0xFE)
    (to (command (0xA0 ∷ 0x1A ∷ 0xFE ∷ 0x77 ∷ [])) ack ∷ to (command (0xA0 ∷ 0xFF ∷ 0xFF ∷ 0x00 ∷ [])) ack ∷ [])
    ∷ ending
    4
    fresh_options
    (flags 0xFF 0xFB)
    (opening ++ (to (command (0xA0 ∷ 0xFF ∷ 0xFB ∷ 0x00 ∷ [])) [] ∷ to (command (0x00 ∷ [])) [] ∷ []))
    -- both words of the window are stored in their named bits and shown; then, with FSPR 0, refused
    ∷ optioned
    fresh_options
    (record { sf1 = 0xFF; sf2 = 0xFF; sws = 0x7E02; swe = 0xFF40 })
    (to (command (0xAC ∷ 0x02 ∷ 0x00 ∷ 0x40 ∷ 0x81 ∷ [])) ack
    ∷ to (command (0xAD ∷ [])) (ack ++ frame data_start last_end (0x02 ∷ 0x00 ∷ 0x40 ∷ 0x81 ∷ []))
    ∷ to (command (0xAC ∷ 0x00 ∷ 0x00 ∷ 0x00 ∷ 0x00 ∷ [])) (one 0x10)
    ∷ [])
    ∷ optioned
    no_boot
    (record { sf1 = 0xFD; sf2 = 0xFF; sws = 0xFFAA; swe = 0x7F55 })
    (to (command (0xAC ∷ 0xAA ∷ 0x81 ∷ 0x55 ∷ 0x01 ∷ [])) ack
    ∷ to (command (0xAD ∷ [])) (ack ++ frame data_start last_end (0xAA ∷ 0x81 ∷ 0x55 ∷ 0x01 ∷ []))
    ∷ [])
    -- BRT and VDD at their ends; a faulty 9Ah is answered and then nothing
    ∷ rated 3 0x10
    ∷ rated 0 0x37
    ∷ unrated 4 0x21
    ∷ unrated 0 0x0F
    ∷ unrated 0 0x38
    -- a 9Ah with a wrong SUM or end byte, and a 9Ch with a wrong SUM, leave the phase; one with another LEN silences
    ∷ ending 1
    fresh_options
    fresh_options
    (to mode []
    ∷ to (0x01 ∷ 0x03 ∷ 0x9A ∷ 0x00 ∷ 0x21 ∷ 0x43 ∷ 0x03 ∷ []) (one 0x07)
    ∷ to_noted (0x01 ∷ 0x03 ∷ 0x9A ∷ 0x00 ∷ 0x21 ∷ 0x42 ∷ 0x17 ∷ []) (one 0x15) EndByte
    ∷ [])
    ∷ ending 2 ask_ident ask_ident (opening ++ (to (0x01 ∷ 0x01 ∷ 0x9C ∷ 0x00 ∷ 0x03 ∷ []) (one 0x07) ∷ []))
    ∷ ending 4 fresh_options fresh_options (to mode [] ∷ to_noted (command (0x9A ∷ 0x00 ∷ [])) (one 0x15) (Length 3 2) ∷ to speed [] ∷ [])
    -- the status bytes not met above: end byte, SUM and code of a command; LEN not the command's; an erase address inside a block
    ∷ on_fresh_noted (0x01 ∷ 0x01 ∷ 0x00 ∷ 0xFF ∷ 0x17 ∷ []) (one 0x15) EndByte
    ∷ on_fresh (0x01 ∷ 0x01 ∷ 0x00 ∷ 0x00 ∷ 0x03 ∷ []) (one 0x07)
    ∷ on_fresh (command (0x55 ∷ [])) (one 0x04)
    ∷ on_fresh_noted (command (0x32 ∷ [])) (one 0x15) (Length 8 1)
    ∷ on_fresh_noted (command (0x00 ∷ 0x00 ∷ [])) (one 0x15) (Length 1 2)
    ∷ on_fresh (command (0x22 ∷ 0x01 ∷ 0x00 ∷ 0x00 ∷ [])) (one 0x05)
    -- bytes before the start byte are skipped; LEN 00h is 256 bytes
    ∷ on_fresh (0x03 ∷ 0x02 ∷ 0x00 ∷ command (0x00 ∷ [])) ack
    ∷ on_fresh_noted (command (replicate 256 0x00)) (one 0x15) (Length 1 0)
    ∷ []

-- ---- sheets ----

abbrev refused_as : ℕ → List ℕ → Play
refused_as n s = refused_by small s (J n)

abbrev playing : Options → Memory → List ℕ → ℕ → ℕ → ℕ → ℕ → List ℕ → List ℕ → Memory → Play
playing o m s status steps frames pieces sums each after =
    record {
      chip = small;
      options = o;
      memory = m;
      sheet = s;
      verdict = plain 0;
      status = plain status;
      steps = steps;
      frames = frames;
      pieces = pieces;
      sums = sums;
      each = each;
      options_after = o;
      memory_after = after;
    }

-- the frames of the only step that was reached
abbrev alone : ℕ → List ℕ
alone n = n ∷ unreached ∷ unreached ∷ unreached ∷ []

-- one step over data blocks from 0 on: erase, write, verify or sum, of two, three and four blocks
abbrev write_two : List ℕ
write_two = 0x01 ∷ 0x00 ∷ (entry 2 0x10 0x11 14 ++ filled 0xA5 ++ filled 0x5A)

abbrev write_three : List ℕ
write_three = 0x01 ∷ 0x00 ∷ (entry 2 0x10 0x12 14 ++ filled 0xA5 ++ filled 0x5A ++ filled 0x11)

abbrev write_four : List ℕ
write_four = 0x01 ∷ 0x00 ∷ (entry 2 0x10 0x13 14 ++ filled 0xA5 ++ filled 0x5A ++ filled 0x11 ++ filled 0x22)

abbrev verify_three : List ℕ
verify_three = 0x01 ∷ 0x00 ∷ (entry 3 0x10 0x12 14 ++ filled 0xFF ++ filled 0xFF ++ filled 0xFF)

abbrev erase_three : List ℕ
erase_three = 0x01 ∷ 0x00 ∷ entry 1 0x10 0x12 14

-- code block 1, its eight pages: written, and compared with blank ones
abbrev code_pages : List ℕ
code_pages = replicate 256 0xA5 ++ replicate 1536 0x5A ++ replicate 256 0x11

abbrev write_code : List ℕ
write_code = 0x01 ∷ 0x00 ∷ (entry_in 0x00 2 0x08 0x0F 14 ++ code_pages)

abbrev verify_code : List ℕ
verify_code = 0x01 ∷ 0x00 ∷ (entry_in 0x00 3 0x08 0x0F 14 ++ replicate 2048 0xFF)

abbrev sum_one : List ℕ
sum_one = 0x01 ∷ 0x00 ∷ entry 4 0x10 0x10 14

abbrev written_code : Memory
written_code = record { code = replicate 2048 0xFF ++ code_pages ++ replicate 28672 0xFF; «data» = blank_flash.«data» }

unfoldable pub sheets : List Play
sheets =
    -- 15: an empty sheet; one byte
    playing fresh_options blank_flash (0x00 ∷ 0x00 ∷ []) 0x06 0 0 0 no_sums (replicate 4 unreached) blank_flash
    ∷ refused_as 1 (0x00 ∷ [])
    -- 16: erase, write and sum of F1000h to F10FFh, body all A5h
    ∷ playing
    fresh_options
    blank_flash
    (0x03 ∷ 0x00 ∷ (entry 1 0x10 0x10 38 ++ entry 2 0x10 0x10 38 ++ entry 4 0x10 0x10 294 ++ filled 0xA5))
    0x06
    3
    4
    0
    (0 ∷ 0 ∷ 0x5B00 ∷ 0 ∷ [])
    (1 ∷ 2 ∷ 1 ∷ unreached ∷ [])
    (paged 0 0xA5 blank_flash)
    -- trials 10 and 11 as sheets: pieces 0 in both
    ∷ playing fresh_options (paged 0 0x00 blank_flash) write_two 0x1C 0 3 0 no_sums (alone 3) (paged 0 0x00 blank_flash)
    ∷ playing
    fresh_options
    (paged 1 0x00 blank_flash)
    write_two
    0x1C
    0
    3
    0
    no_sums
    (alone 3)
    (paged 0 0xA5 (paged 1 0x00 blank_flash))
    -- three pages of which the last is not blank: 1 piece; four of which the second is not, and two frames are not sent; a protected write
    ∷ playing
    fresh_options
    (paged 2 0x00 blank_flash)
    write_three
    0x1C
    0
    4
    1
    no_sums
    (alone 4)
    (paged 0 0xA5 (paged 1 0x5A (paged 2 0x00 blank_flash)))
    ∷ playing
    fresh_options
    (paged 1 0x00 blank_flash)
    write_four
    0x1C
    0
    4
    1
    no_sums
    (alone 4)
    (paged 0 0xA5 (paged 1 0x00 blank_flash))
    ∷ playing no_write blank_flash write_two 0x10 0 3 0 no_sums (alone 3) blank_flash
    -- a code block has eight pages
    ∷ playing fresh_options blank_flash write_code 0x06 1 9 0 no_sums (alone 9) written_code
    ∷ playing fresh_options blank_flash verify_code 0x06 1 9 0 no_sums (alone 9) blank_flash
    -- three blocks erased; a Verify without a difference, and with one; a sum before a protected erase
    ∷ playing fresh_options (paged 1 0x00 blank_flash) erase_three 0x06 1 3 0 no_sums (alone 3) blank_flash
    ∷ playing fresh_options blank_flash verify_three 0x06 1 4 0 no_sums (alone 4) blank_flash
    ∷ playing fresh_options (paged 1 0x00 blank_flash) verify_three 0x0F 0 4 0 no_sums (alone 4) (paged 1 0x00 blank_flash)
    ∷ playing
    no_erase
    blank_flash
    (0x02 ∷ 0x00 ∷ (entry 4 0x10 0x10 26 ++ entry 1 0x10 0x10 26))
    0x10
    1
    2
    0
    (0x0100 ∷ 0 ∷ 0 ∷ 0 ∷ [])
    (1 ∷ 1 ∷ unreached ∷ unreached ∷ [])
    blank_flash
    -- and a protected erase before a sum, which is not reached
    ∷ playing
    no_erase
    blank_flash
    (0x02 ∷ 0x00 ∷ (entry 1 0x10 0x10 26 ++ entry 4 0x10 0x10 26))
    0x10
    0
    1
    0
    no_sums
    (alone 1)
    blank_flash
    -- the refusals, J2 at 64 and 65; with two faults the first is named
    ∷ refused_as 2 (0x41 ∷ 0x00 ∷ [])
    ∷ refused_as 3 (0x40 ∷ 0x00 ∷ [])
    ∷ refused_as 4 (0x01 ∷ 0x00 ∷ entry 5 0x10 0x0F 99)
    ∷ refused_as 4 (0x01 ∷ 0x00 ∷ entry 0 0x10 0x10 14)
    ∷ refused_as 5
    (0x01 ∷ 0x00 ∷ 0x01 ∷ 0x00 ∷ 0x10 ∷ 0x0F ∷ 0xFE ∷ 0x10 ∷ 0x0F ∷ 0x01 ∷ 0x00 ∷ 0x00 ∷ 0x00 ∷ 0x00 ∷ [])
    ∷ refused_as 6 (0x01 ∷ 0x00 ∷ entry 1 0x11 0x10 99)
    ∷ refused_as 7 (0x01 ∷ 0x00 ∷ entry 2 0x10 0x10 15)
    ∷ refused_as 8 (0x02 ∷ 0x00 ∷ (entry 2 0x10 0x10 26 ++ entry 5 0x10 0x10 26))
    ∷ refused_as 9 (0x00 ∷ 0x00 ∷ 0x00 ∷ [])
    ∷ refused_as 10
    (0x05 ∷ 0x00
    ∷ (entry 1 0x10 0x10 62 ++ entry 1 0x10 0x10 62 ++ entry 1 0x10 0x10 62 ++ entry 1 0x10 0x10 62 ++ entry 1 0x10 0x10 62))
    ∷ []

-- ---- single calls ----

-- code flash, data flash, reply buffer; what a byte call answers, and what a power-on does
abbrev lending : ℕ → ℕ → ℕ → Number → Number → Lending
lending code dat reply byte on =
    record { chip = small; code = code; «data» = dat; reply = reply; byte_call = byte; power_on = on }

unfoldable pub lengths : List Lending
lengths =
    lending 32768 2048 16 (plain 0) (plain 0)
    ∷ lending 32767 2048 16 (D 1) (D 1)
    ∷ lending 32769 2047 15 (D 1) (D 1)
    ∷ lending 32768 2047 16 (D 2) (D 2)
    ∷ lending 32768 2049 15 (D 2) (D 2)
    ∷ lending 32768 2048 15 (D 3) (plain 0)
    ∷ []

-- a player call: sheet, player, reply; frame buffer of so many bytes, room for four sums
abbrev calling : List ℕ → Player → List ℕ → ℕ → Number → Number → ℕ → ℕ → ℕ → Calling
calling s p reply room call status steps frames pieces =
    record {
      sheet = s;
      player = p;
      reply = reply;
      room = room;
      sums = 4;
      call = call;
      status = status;
      steps = steps;
      frames = frames;
      pieces = pieces;
    }

-- L1 at the second of three blocks: pieces 1
abbrev unheard : List ℕ → Calling
unheard reply = calling erase_three (player (Commanded Erase) 0 1 2 0 well) reply 260 (plain 0) (L 1) 0 2 1

-- and to a sum
abbrev unsummed : List ℕ → Calling
unsummed reply = calling sum_one (player (Commanded Sum) 0 0 1 0 well) reply 260 (plain 0) (L 1) 0 1 0

unfoldable pub player_calls : List Calling
player_calls =
    -- P1 at 259, none at 260; the first call reads no reply; J before P1
    calling erase_three new_player [] 259 (P 1) (plain 0x06) 0 0 0
    ∷ calling erase_three new_player [] 260 (plain 8) (plain 0x06) 0 1 0
    ∷ calling erase_three new_player (0xFF ∷ []) 260 (plain 8) (plain 0x06) 0 1 0
    ∷ calling (0x00 ∷ []) new_player [] 259 (J 1) (plain 0x06) 0 0 0
    -- P2: the step, the block or the page is not there; P1 before P2
    ∷ calling erase_three (player (Commanded Erase) 1 0 1 0 well) ack 260 (P 2) (plain 0x06) 1 1 0
    ∷ calling erase_three (player (Commanded Erase) 1 0 1 0 well) ack 259 (P 1) (plain 0x06) 1 1 0
    ∷ calling erase_three (player Ready 1 0 1 0 well) [] 260 (P 2) (plain 0x06) 1 1 0
    ∷ calling erase_three (player (Commanded Erase) 0 3 1 0 well) ack 260 (P 2) (plain 0x06) 0 1 0
    ∷ calling erase_three (player Block 0 3 1 0 well) [] 260 (P 2) (plain 0x06) 0 1 0
    ∷ calling write_three (player (Page Write) 0 3 4 0 well) [] 260 (P 2) (plain 0x06) 0 4 0
    ∷ calling write_three (player (Paged Write) 0 3 4 0 well) [] 260 (P 2) (plain 0x06) 0 4 0
    ∷ calling write_three (player (Commanded Write) 1 0 1 0 well) ack 260 (P 2) (plain 0x06) 1 1 0
    ∷ calling write_three (player (Paged Write) 1 0 2 0 well) (pair 0x06 0x06) 260 (P 2) (plain 0x06) 1 2 0
    -- P2: the step there is of another kind than the one begun, whatever the kinds, after a command and after a page
    ∷ calling verify_three (player (Commanded Write) 0 0 1 0 well) ack 260 (P 2) (plain 0x06) 0 1 0
    ∷ calling write_three (player (Commanded Verify) 0 0 1 0 well) ack 260 (P 2) (plain 0x06) 0 1 0
    ∷ calling erase_three (player (Commanded Write) 0 0 1 0 well) ack 260 (P 2) (plain 0x06) 0 1 0
    ∷ calling sum_one (player (Commanded Verify) 0 0 1 0 well) ack 260 (P 2) (plain 0x06) 0 1 0
    ∷ calling sum_one (player (Commanded Erase) 0 0 1 0 well) ack 260 (P 2) (plain 0x06) 0 1 0
    ∷ calling write_three (player (Commanded Erase) 0 0 1 0 well) ack 260 (P 2) (plain 0x06) 0 1 0
    ∷ calling erase_three (player (Commanded Sum) 0 0 1 0 well) (ack ++ pair 0x00 0x01) 260 (P 2) (plain 0x06) 0 1 0
    ∷ calling verify_three (player (Commanded Sum) 0 0 1 0 well) (ack ++ pair 0x00 0x01) 260 (P 2) (plain 0x06) 0 1 0
    ∷ calling write_three (player Block 0 1 1 0 well) [] 260 (P 2) (plain 0x06) 0 1 0
    ∷ calling verify_three (player (Page Write) 0 1 2 0 well) [] 260 (P 2) (plain 0x06) 0 2 0
    ∷ calling verify_three (player (Paged Write) 0 2 4 0 well) (pair 0x06 0x06) 260 (P 2) (plain 0x06) 0 4 0
    ∷ calling write_three (player (Paged Verify) 0 2 4 0 well) (pair 0x06 0x1C) 260 (P 2) (plain 0x06) 0 4 0
    ∷ calling erase_three (player (Paged Write) 0 0 2 0 well) (pair 0x06 0x06) 260 (P 2) (plain 0x06) 0 2 0
    -- P2: a record that no first call leads to, with a page of a kind that has none
    ∷ calling erase_three (player (Page Erase) 0 0 1 0 well) [] 260 (P 2) (plain 0x06) 0 1 0
    ∷ calling erase_three (player (Paged Erase) 0 0 1 0 well) (pair 0x06 0x06) 260 (P 2) (plain 0x06) 0 1 0
    ∷ calling sum_one (player (Page Sum) 0 0 1 0 well) [] 260 (P 2) (plain 0x06) 0 1 0
    ∷ calling sum_one (player (Paged Sum) 0 0 1 0 well) (pair 0x06 0x06) 260 (P 2) (plain 0x06) 0 1 0
    -- at the beginning of a step any kind is well, and it begins with its first block; the next block and the next page are sent
    ∷ calling erase_three (player Ready 0 0 0 0 well) [] 260 (plain 8) (plain 0x06) 0 1 0
    ∷ calling erase_three (player Ready 0 7 0 0 well) [] 260 (plain 8) (plain 0x06) 0 1 0
    ∷ calling write_three (player Ready 0 0 0 0 well) [] 260 (plain 11) (plain 0x06) 0 1 0
    ∷ calling verify_three (player Ready 0 0 0 0 well) [] 260 (plain 11) (plain 0x06) 0 1 0
    ∷ calling sum_one (player Ready 0 0 0 0 well) [] 260 (plain 11) (plain 0x06) 0 1 0
    ∷ calling erase_three (player Block 0 2 2 0 well) [] 260 (plain 8) (plain 0x06) 0 3 0
    ∷ calling write_three (player (Page Write) 0 2 3 0 well) [] 260 (plain 260) (plain 0x06) 0 4 0
    -- finished or stopped: nothing is sent, and all stands; P1 still
    ∷ calling erase_three (player Over 0 1 2 1 (Byte 0x10)) ack 260 (plain 0) (plain 0x10) 0 2 1
    ∷ calling erase_three (player Over 0 1 2 1 (Byte 0x10)) ack 259 (P 1) (plain 0x10) 0 2 1
    -- an erase: on (also with pieces in the record), stopped in the middle by a reply, finished
    ∷ calling erase_three (player (Commanded Erase) 0 1 2 7 well) ack 260 (plain 8) (plain 0x06) 0 3 0
    ∷ calling erase_three (player (Commanded Erase) 0 1 2 0 well) ack 260 (plain 8) (plain 0x06) 0 3 0
    ∷ calling erase_three (player (Commanded Erase) 0 1 2 0 well) (one 0x10) 260 (plain 0) (plain 0x10) 0 2 1
    ∷ calling erase_three (player (Commanded Erase) 0 2 3 0 well) ack 260 (plain 0) (plain 0x06) 1 3 0
    -- L1: no reply, one cut short, wrong start, LEN, SUM, end, one byte too many
    ∷ unheard []
    ∷ unheard (take 4 ack)
    ∷ unheard (0x01 ∷ 0x01 ∷ 0x06 ∷ 0xF9 ∷ 0x03 ∷ [])
    ∷ unheard (0x02 ∷ 0x02 ∷ 0x06 ∷ 0xF8 ∷ 0x03 ∷ [])
    ∷ unheard (0x02 ∷ 0x01 ∷ 0x06 ∷ 0xFA ∷ 0x03 ∷ [])
    ∷ unheard (0x02 ∷ 0x01 ∷ 0x06 ∷ 0xF9 ∷ 0x17 ∷ [])
    ∷ unheard (ack ++ (0x00 ∷ []))
    -- a write: opened, refused, its first page answered; told of the page before, in the middle and at the end; finished; L1
    ∷ calling write_three (player (Commanded Write) 0 0 1 0 well) ack 260 (plain 260) (plain 0x06) 0 2 0
    ∷ calling write_three (player (Commanded Write) 0 0 1 0 well) (one 0x05) 260 (plain 0) (plain 0x05) 0 1 0
    ∷ calling write_three (player (Paged Write) 0 0 2 0 well) (pair 0x06 0x06) 260 (plain 260) (plain 0x06) 0 3 0
    ∷ calling write_three (player (Paged Write) 0 1 3 0 well) (pair 0x06 0x1C) 260 (plain 0) (plain 0x1C) 0 3 0
    ∷ calling write_three (player (Paged Write) 0 2 4 0 well) (pair 0x06 0x1C) 260 (plain 0) (plain 0x1C) 0 4 1
    ∷ calling write_three (player (Paged Write) 0 2 4 0 well) (pair 0x15 0x1C) 260 (plain 0) (plain 0x15) 0 4 1
    ∷ calling write_three (player (Paged Write) 0 2 4 0 well) (pair 0x06 0x06) 260 (plain 0) (plain 0x06) 1 4 0
    ∷ calling write_three (player (Paged Write) 0 0 2 0 well) [] 260 (plain 0) (L 1) 0 2 0
    ∷ calling write_three (player (Paged Write) 0 2 4 0 well) ack 260 (plain 0) (L 1) 0 4 1
    -- a verify: opened, its first page answered; it has no pieces
    ∷ calling verify_three (player (Commanded Verify) 0 0 1 0 well) ack 260 (plain 260) (plain 0x06) 0 2 0
    ∷ calling verify_three (player (Paged Verify) 0 0 2 0 well) (pair 0x06 0x06) 260 (plain 260) (plain 0x06) 0 3 0
    ∷ calling verify_three (player (Paged Verify) 0 2 4 0 well) (pair 0x06 0x0F) 260 (plain 0) (plain 0x0F) 0 4 0
    -- a sum: its two frames (also with pieces in the record), refused, and L1
    ∷ calling sum_one (player (Commanded Sum) 0 0 1 7 well) (ack ++ pair 0x00 0x01) 260 (plain 0) (plain 0x06) 1 1 0
    ∷ calling sum_one (player (Commanded Sum) 0 0 1 0 well) (ack ++ pair 0x00 0x01) 260 (plain 0) (plain 0x06) 1 1 0
    ∷ calling sum_one (player (Commanded Sum) 0 0 1 0 well) (one 0x05) 260 (plain 0) (plain 0x05) 0 1 0
    ∷ unsummed ack
    ∷ unsummed (ack ++ ack)
    ∷ unsummed (ack ++ pair 0x00 0x01 ++ (0x00 ∷ []))
    ∷ unsummed (ack ++ (0x02 ∷ 0x02 ∷ 0x00 ∷ 0x01 ∷ 0xFC ∷ 0x03 ∷ []))
    ∷ []
