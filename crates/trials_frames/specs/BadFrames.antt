-- 02, M-101: sessions with bad frames, and which fault the note names. Assumes nothing.
use Rattle.std.specs.Prelude.{List, [], ◌∷◌, ◌++◌, replicate}
use Rattle.rules.specs.Notes.{EndByte, Length}
use Rattle.rules.specs.Options.{fresh_options}
use Rattle.rules.specs.Frame.{last_end, more_end}
use Rattle.trials_rows.specs.Rows.{to, to_noted, Session, mode, blank_flash, ack, session, on_fresh, on_fresh_noted, ending, ask_ident, opening, command, page, one, pair, one_page, two_pages, paged}

unfoldable pub bad_frames : List Session
bad_frames =
    -- end byte before SUM; SUM; an unknown code, whatever its LEN
    on_fresh_noted (0x01 ∷ 0x01 ∷ 0x00 ∷ 0xFF ∷ 0x17 ∷ []) (one 0x15) EndByte
    ∷ on_fresh_noted (0x01 ∷ 0x01 ∷ 0x00 ∷ 0xFE ∷ 0x17 ∷ []) (one 0x15) EndByte
    ∷ on_fresh (0x01 ∷ 0x01 ∷ 0x00 ∷ 0xFE ∷ 0x03 ∷ []) (one 0x07)
    ∷ on_fresh (0x01 ∷ 0x02 ∷ 0x55 ∷ 0x00 ∷ 0xA9 ∷ 0x03 ∷ []) (one 0x04)
    -- a LEN that is not the command's: expected, then found
    ∷ on_fresh_noted (0x01 ∷ 0x03 ∷ 0x22 ∷ 0x00 ∷ 0x00 ∷ 0xDB ∷ 0x03 ∷ []) (one 0x15) (Length 4 3)
    -- 9Ah of another LEN: told with the answer that silences; in Command it is another phase's
    ∷ ending 4 fresh_options fresh_options (to mode [] ∷ to_noted (0x01 ∷ 0x04 ∷ 0x9A ∷ 0x00 ∷ 0x21 ∷ 0x00 ∷ 0x41 ∷ 0x03 ∷ []) (one 0x15) (Length 3 4) ∷ [])
    ∷ on_fresh (0x01 ∷ 0x04 ∷ 0x9A ∷ 0x00 ∷ 0x21 ∷ 0x00 ∷ 0x41 ∷ 0x03 ∷ []) (one 0x04)
    ∷ ending 4 ask_ident ask_ident (opening ++ (to_noted (command (0x9C ∷ replicate 9 0xFF)) (one 0x15) (Length 11 10) ∷ []))
    -- Programming: end byte, LEN, 03h for 17h; with the status of a page before, the note tells of the 15h
    ∷ session fresh_options blank_flash (to (one_page 0x40) ack ∷ to_noted (0x02 ∷ 0x01 ∷ 0x00 ∷ 0xFF ∷ 0xFF ∷ []) (pair 0x15 0x06) EndByte ∷ []) blank_flash
    ∷ session fresh_options blank_flash (to (two_pages 0x40) ack ∷ to_noted (0x02 ∷ 0x01 ∷ 0x00 ∷ 0xFF ∷ 0x17 ∷ []) (pair 0x15 0x06) (Length 0 1) ∷ []) blank_flash
    ∷ session fresh_options blank_flash (to (two_pages 0x40) ack ∷ to_noted (page last_end 0xA5) (pair 0x15 0x06) EndByte ∷ []) blank_flash
    ∷ session
    fresh_options
    (paged 0 0x00 blank_flash)
    (to (two_pages 0x40) ack ∷ to (page more_end 0xA5) (pair 0x06 0x06) ∷ to_noted (page more_end 0xA5) (pair 0x15 0x1C) EndByte ∷ [])
    (paged 0 0x00 blank_flash)
    ∷ session
    fresh_options
    (paged 0 0x00 blank_flash)
    (to (two_pages 0x40) ack ∷ to (page more_end 0xA5) (pair 0x06 0x06) ∷ to (page last_end 0xA5) (pair 0x06 0x1C) ∷ [])
    (paged 0 0x00 blank_flash)
    -- Verify
    ∷ session fresh_options blank_flash (to (one_page 0x13) ack ∷ to_noted (0x02 ∷ 0x02 ∷ 0xFF ∷ 0xFF ∷ 0x00 ∷ 0x03 ∷ []) (pair 0x15 0x06) (Length 0 2) ∷ []) blank_flash
    ∷ []
