-- 02, M-106: sheets of form 2, plays of the new kinds, replies to a lock, and moves; what they come to by the definitions. Assumes nothing.
use Rattle.std.specs.Prelude.{ℕ, ◌-◌, Bool, true, ◌&&◌, List, [], ◌∷◌, ◌++◌, length, replicate}
use Rattle.rules.specs.declared.Kind.TheVariants.{Sum, Blank, Lock}
use Rattle.rules.specs.declared.Options.{Options}
use Rattle.rules.specs.declared.Stage.TheVariants.{Commanded, Page, Paged}
use Rattle.rules.specs.declared.Player.{Player}
use Rattle.rules.specs.declared.numbers.Number.{Number}
use Rattle.rules.specs.Chip.{Memory, small, large, same, word_bytes}
use Rattle.rules.specs.Options.{fresh_options}
use Rattle.rules.specs.Move.{Moving, moved_number, move_up, move_down}
use Rattle.rules.specs.Player.{player, new_player, well}
use Rattle.trials_rows.specs.Rows.{same_number, plain, J, P, L, Play, refused_by, no_sums, unreached, Calling, blank_flash, ack, flags, filled, one, pair, paged, entry}
use Rattle.trials_frames.specs.Twice.{form_one, form_two, write}

-- ---- what rows are made of ----

-- a head: chip number, zero byte and count
abbrev head : ℕ → ℕ → ℕ → List ℕ
head chip nought n = 0xFE ∷ 0x02 ∷ chip ∷ nought ∷ n ∷ 0x00 ∷ []

-- a sheet for chip 1
abbrev sheet : ℕ → List ℕ → List ℕ
sheet n rest = head 0x01 0x00 n ++ rest

-- a lock with flags and filler, zero byte and offset
abbrev lock_filled : ℕ → ℕ → ℕ → ℕ → ℕ → ℕ → List ℕ
lock_filled sf1 sf2 third ead nought offset =
    0x06 ∷ sf1 ∷ sf2 ∷ third ∷ ead ∷ 0x00 ∷ 0x00 ∷ nought ∷ (word_bytes offset ++ (0x00 ∷ 0x00 ∷ []))

abbrev lock : ℕ → ℕ → ℕ → List ℕ
lock sf1 sf2 offset = lock_filled sf1 sf2 0x00 0x00 0x00 offset

-- ---- the verdict ----

abbrev large_blank : ℕ → List ℕ
large_blank chip = head chip 0x00 1 ++ (0x05 ∷ 0x00 ∷ 0x00 ∷ 0x00 ∷ 0xFF ∷ 0xFF ∷ 0x01 ∷ 0x00 ∷ 0x12 ∷ 0x00 ∷ 0x00 ∷ 0x00 ∷ [])

-- a form 1 sheet of five erases, for which there is not room
abbrev five_erases : List ℕ
five_erases =
    0x05 ∷ 0x00
    ∷ (entry 1 0x10 0x10 62 ++ entry 1 0x10 0x10 62 ++ entry 1 0x10 0x10 62 ++ entry 1 0x10 0x10 62 ++ entry 1 0x10 0x10 62)

unfoldable pub form_sheets : List Play
form_sheets =
    -- J1 under 6 bytes; FEh and another byte is form 1
    refused_by small (0xFE ∷ 0x02 ∷ []) (J 1)
    ∷ refused_by small (0xFE ∷ 0x02 ∷ 0x01 ∷ 0x00 ∷ 0x00 ∷ []) (J 1)
    ∷ refused_by small (0xFE ∷ 0x03 ∷ 0x01 ∷ 0x00 ∷ 0x00 ∷ 0x00 ∷ []) (J 2)
    -- the chip named
    ∷ refused_by large (head 0x01 0x00 0) (J 14)
    ∷ refused_by small (head 0x02 0x00 0) (J 14)
    ∷ refused_by small (head 0x00 0x00 0) (J 11)
    ∷ refused_by small (head 0x03 0x00 0) (J 11)
    ∷ refused_by small (head 0x01 0x01 0) (J 11)
    -- J2, J11 and J3 in their order; J9
    ∷ refused_by small (head 0x09 0x00 0x41) (J 2)
    ∷ refused_by small (head 0x09 0x00 0x40) (J 11)
    ∷ refused_by small (head 0x01 0x00 1) (J 3)
    ∷ refused_by small (head 0x01 0x00 0 ++ (0x00 ∷ [])) (J 9)
    -- kinds: 7 in form 2, 5 and 6 in form 1
    ∷ refused_by small (sheet 1 (entry 7 0x10 0x10 18)) (J 4)
    ∷ refused_by small (0x01 ∷ 0x00 ∷ entry 5 0x10 0x10 14) (J 4)
    ∷ refused_by small (0x01 ∷ 0x00 ∷ lock 0xFF 0xFF 14) (J 4)
    -- a lock: one that clears IFPR stands last; filler, zero byte, offset
    ∷ refused_by small (sheet 2 (lock 0xFF 0xFB 30 ++ entry 1 0x10 0x10 30)) (J 12)
    ∷ refused_by small (sheet 1 (lock_filled 0xFF 0xFF 0x01 0x00 0x00 18)) (J 12)
    ∷ refused_by small (sheet 1 (lock_filled 0xFF 0xFF 0x00 0x01 0x00 18)) (J 12)
    ∷ refused_by small (sheet 1 (lock_filled 0xFF 0xFF 0x01 0x00 0x01 18)) (J 5)
    ∷ refused_by small (sheet 1 (lock_filled 0xFF 0xFF 0x01 0x00 0x00 19)) (J 12)
    ∷ refused_by small (sheet 1 (lock 0xFF 0xFF 14)) (J 7)
    -- judged against the chip named, whatever chip is played to
    ∷ refused_by small (large_blank 0x01) (J 6)
    ∷ refused_by large (large_blank 0x01) (J 6)
    ∷ refused_by small (large_blank 0x02) (J 14)
    -- a lock between two writes to one page (M-107)
    ∷ refused_by small (sheet 3 (entry 2 0x10 0x10 42 ++ lock 0xFF 0xFF 298 ++ entry 2 0x10 0x10 298 ++ filled 0xA5 ++ filled 0x5A)) (J 13)
    -- form 1 is for chip 1; J14 before J10, J9 before J14
    ∷ refused_by large five_erases (J 14)
    ∷ refused_by small five_erases (J 10)
    ∷ refused_by large (0x00 ∷ 0x00 ∷ 0x00 ∷ []) (J 9)
    ∷ refused_by large (0x00 ∷ 0x00 ∷ []) (J 14)
    ∷ []

-- ---- plays ----

abbrev playing : Options → Memory → List ℕ → ℕ → ℕ → ℕ → ℕ → List ℕ → List ℕ → Options → Memory → Play
playing o m s status steps frames pieces sums each after there =
    record {
      chip = small;
      options = o;
      memory = m;
      sheet = s;
      verdict = plain 0;
      status = plain status;
      steps = steps;
      frames = frames;
      pieces = pieces;
      sums = sums;
      each = each;
      options_after = after;
      memory_after = there;
    }

unfoldable pub form_plays : List Play
form_plays =
    playing fresh_options blank_flash (sheet 0 []) 0x06 0 0 0 no_sums (replicate 4 unreached) fresh_options blank_flash
    -- a lock that clears IFPR: no answer, finished, Silent
    ∷ playing
    fresh_options
    blank_flash
    (sheet 1 (lock 0xFF 0xFB 18))
    0x06
    1
    1
    0
    no_sums
    (1 ∷ unreached ∷ unreached ∷ unreached ∷ [])
    (flags 0xFF 0xFB)
    blank_flash
    -- a lock's bits hold for the steps behind it: SEPR 0 and an erase; WRPR 0 and a write of two pages
    ∷ playing
    fresh_options
    blank_flash
    (sheet 2 (lock 0xFB 0xFF 30 ++ entry 1 0x10 0x10 30))
    0x10
    1
    2
    0
    no_sums
    (1 ∷ 1 ∷ unreached ∷ unreached ∷ [])
    (flags 0xFB 0xFF)
    blank_flash
    ∷ playing
    fresh_options
    blank_flash
    (sheet 2 (lock 0xEF 0xFF 30 ++ entry 2 0x10 0x11 30 ++ filled 0xA5 ++ filled 0x5A))
    0x10
    1
    4
    0
    no_sums
    (1 ∷ 3 ∷ unreached ∷ unreached ∷ [])
    (flags 0xEF 0xFF)
    blank_flash
    -- stray bits stay: SF1 57h, SF2 BFh
    ∷ playing
    (flags 0x57 0xBF)
    blank_flash
    (sheet 3 (lock 0x00 0xFF 42 ++ entry 4 0x10 0x10 42 ++ lock 0xFF 0x00 42))
    0x06
    3
    3
    0
    (0 ∷ 0x0100 ∷ 0 ∷ 0 ∷ [])
    (1 ∷ 1 ∷ 1 ∷ unreached ∷ [])
    (flags 0x41 0xBA)
    blank_flash
    -- blank checks: of all data flash before a write, of the written block behind it
    ∷ playing
    fresh_options
    blank_flash
    (sheet 4
    (entry 5 0x10 0x17 54 ++ entry 2 0x10 0x10 54 ++ entry 5 0x10 0x10 310 ++ lock 0xFF 0xFF 310 ++ filled 0xA5))
    0x1B
    2
    4
    0
    no_sums
    (1 ∷ 2 ∷ 1 ∷ unreached ∷ [])
    fresh_options
    (paged 0 0xA5 blank_flash)
    ∷ []

-- ---- player calls: what is due to a lock, and P2 of the new kinds ----

abbrev calling : List ℕ → Player → List ℕ → Number → Number → ℕ → ℕ → Calling
calling s p reply call status steps frames =
    record {
      sheet = s;
      player = p;
      reply = reply;
      room = 260;
      sums = 4;
      call = call;
      status = status;
      steps = steps;
      frames = frames;
      pieces = 0;
    }

abbrev clearing : List ℕ
clearing = sheet 1 (lock 0xFF 0xFB 18)

abbrev locking : List ℕ
locking = sheet 1 (lock 0xFB 0xFF 18)

abbrev blanking : List ℕ
blanking = sheet 1 (entry 5 0x10 0x17 18)

abbrev summing : List ℕ
summing = sheet 1 (entry 4 0x10 0x10 18)

abbrev locked : Player
locked = player (Commanded Lock) 0 0 1 0 well

abbrev checked : Player
checked = player (Commanded Blank) 0 0 1 0 well

unfoldable pub form_calls : List Calling
form_calls =
    calling clearing new_player [] (plain 8) (plain 0x06) 0 1
    ∷ calling blanking new_player [] (plain 12) (plain 0x06) 0 1
    -- to a lock that clears IFPR exactly none; of a lock the flags of the sheet given decide
    ∷ calling clearing locked [] (plain 0) (plain 0x06) 1 1
    ∷ calling clearing locked ack (plain 0) (L 1) 0 1
    ∷ calling clearing locked (one 0x10) (plain 0) (L 1) 0 1
    ∷ calling locking locked [] (plain 0) (L 1) 0 1
    ∷ calling locking locked ack (plain 0) (plain 0x06) 1 1
    ∷ calling locking locked (one 0x10) (plain 0) (plain 0x10) 0 1
    -- a blank check
    ∷ calling blanking checked ack (plain 0) (plain 0x06) 1 1
    ∷ calling blanking checked (one 0x1B) (plain 0) (plain 0x1B) 0 1
    ∷ calling blanking checked [] (plain 0) (L 1) 0 1
    ∷ calling blanking checked (ack ++ pair 0x00 0x01) (plain 0) (L 1) 0 1
    -- kinds 4, 5 and 6 are told apart; they have no pages
    ∷ calling summing checked ack (P 2) (plain 0x06) 0 1
    ∷ calling summing locked [] (P 2) (plain 0x06) 0 1
    ∷ calling blanking (player (Commanded Sum) 0 0 1 0 well) ack (P 2) (plain 0x06) 0 1
    ∷ calling blanking locked ack (P 2) (plain 0x06) 0 1
    ∷ calling clearing checked [] (P 2) (plain 0x06) 0 1
    ∷ calling blanking (player (Page Blank) 0 0 1 0 well) [] (P 2) (plain 0x06) 0 1
    ∷ calling clearing (player (Paged Lock) 0 0 1 0 well) [] (P 2) (plain 0x06) 0 1
    ∷ []

-- ---- moves: the sheet, the room, and what comes of each way ----

pub record Move : Type 0 where
  pub made : Moving
  pub room : ℕ
  pub due : Number
  pub bytes : List ℕ

-- a lent buffer of which no byte is one that a move would write by chance
abbrev lent : ℕ → List ℕ
lent n = replicate n 0x77

abbrev up : List ℕ → ℕ → Number → List ℕ → Move
up s room due bytes = record { made = move_up s (lent room); room = room; due = due; bytes = bytes }

abbrev down : List ℕ → ℕ → Number → List ℕ → Move
down s room due bytes = record { made = move_down s (lent room); room = room; due = due; bytes = bytes }

unfoldable pub moves : Move → Bool
moves t =
    same_number (moved_number t.made.moved) t.due
    && same t.made.out (t.bytes ++ lent (t.room - length t.bytes))

unfoldable pub all_move : List Move → Bool
all_move [] = true
all_move (t ∷ ts) = moves t && all_move ts

-- trial 16's sheet in both forms
abbrev lower : List ℕ
lower = 0x03 ∷ 0x00 ∷ (entry 1 0x10 0x10 38 ++ entry 2 0x10 0x10 38 ++ entry 4 0x10 0x10 294 ++ filled 0xA5)

abbrev upper : List ℕ
upper = sheet 3 (entry 1 0x10 0x10 42 ++ entry 2 0x10 0x10 42 ++ entry 4 0x10 0x10 298 ++ filled 0xA5)

unfoldable pub form_moves : List Move
form_moves =
    up lower 298 (plain 298) upper
    ∷ up lower 300 (plain 298) upper
    ∷ up lower 297 (J 16) []
    ∷ down upper 300 (plain 294) lower
    ∷ down upper 294 (plain 294) lower
    ∷ down upper 293 (J 16) []
    -- already there, or the way is not open: chip 2, kind 5, kind 6; before J16
    ∷ up upper 300 (J 15) []
    ∷ up upper 0 (J 15) []
    ∷ down lower 300 (J 15) []
    ∷ down lower 0 (J 15) []
    ∷ down (head 0x02 0x00 0) 8 (J 15) []
    ∷ down blanking 30 (J 15) []
    ∷ down locking 30 (J 15) []
    -- the sheet's own J number before both
    ∷ up (0x00 ∷ []) 0 (J 1) []
    ∷ down (head 0x03 0x00 0) 0 (J 11) []
    ∷ down (sheet 2 (lock 0xFF 0xFB 30 ++ entry 1 0x10 0x10 30)) 0 (J 12) []
    -- two writes to one page (M-107): before J15 and J16 too
    ∷ up (form_one 2 (write 0x10 0xA5 ++ write 0x10 0x5A)) 0 (J 13) []
    ∷ down (form_one 2 (write 0x10 0xA5 ++ write 0x10 0x5A)) 0 (J 13) []
    ∷ down (form_two 1 2 (write 0x10 0xA5 ++ write 0x10 0x5A)) 600 (J 13) []
    -- the empty sheet
    ∷ up (0x00 ∷ 0x00 ∷ []) 8 (plain 6) (sheet 0 [])
    ∷ down (sheet 0 []) 8 (plain 2) (0x00 ∷ 0x00 ∷ [])
    ∷ []
