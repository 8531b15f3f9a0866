-- 02, M-113: values. Two chips with the ID 0A 0B .. 13, flash otherwise different, are fed the same frames. Assumes nothing.
use Rattle.std.specs.Prelude.{ℕ, List, [], ◌∷◌, ◌++◌, take, drop, replicate}
use Rattle.rules.specs.declared.Flash.TheVariants.{Code, Data}
use Rattle.rules.specs.Notes.{EndByte}
use Rattle.rules.specs.Chip.{Memory, small, flash_size, ident_at, ident_size}
use Rattle.rules.specs.Command.{ident_code}
use Rattle.trials_rows.specs.Rows.{Exchange, to, to_noted, Session, blank_flash, ack, session, ask_ident, command, one, pair, one_page}

abbrev ident : List ℕ
ident = 0x0A ∷ 0x0B ∷ 0x0C ∷ 0x0D ∷ 0x0E ∷ 0x0F ∷ 0x10 ∷ 0x11 ∷ 0x12 ∷ 0x13 ∷ []

-- a memory with that ID
abbrev with_ident : Memory → Memory
with_ident m =
    record { code = take ident_at m.code ++ (ident ++ drop ident_size (drop ident_at m.code)); «data» = m.«data» }

-- one is blank but for the ID, the other nowhere
abbrev pub empty : Memory
empty = with_ident blank_flash

abbrev pub full : Memory
full = with_ident (record { code = replicate (flash_size small Code) 0x5A; «data» = replicate (flash_size small Data) 0x00 })

-- B0h, A2h and 32h before the ID; a frame with a wrong end byte; the right 9Ch
abbrev before : List Exchange
before =
    to (one_page 0xB0) (one 0x04)
    ∷ to (command (0xA2 ∷ [])) (one 0x04)
    ∷ to (command (0x32 ∷ 0x00 ∷ 0x10 ∷ 0x0F ∷ 0xFF ∷ 0x17 ∷ 0x0F ∷ 0x00 ∷ [])) (one 0x04)
    ∷ to_noted (0x01 ∷ 0x01 ∷ 0x00 ∷ 0xFF ∷ 0x17 ∷ []) (one 0x15) EndByte
    ∷ to (command (ident_code ∷ ident)) ack
    ∷ []

-- and B0h behind it, of F1000h to F10FFh: now the flashes are told apart
abbrev behind : ℕ → ℕ → List Exchange
behind low high = to (one_page 0xB0) (ack ++ pair low high) ∷ []

unfoldable pub ident_sessions : List Session
ident_sessions =
    session ask_ident empty (before ++ behind 0x00 0x01) empty
    ∷ session ask_ident full (before ++ behind 0x00 0x00) full
    ∷ []
