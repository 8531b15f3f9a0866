-- 02, M-109: trials of the whole-frame engine. Assumes nothing.
use Rattle.std.specs.Prelude.{ℕ, Bool, true, ◌&&◌, List, [], ◌∷◌, ◌++◌, eqb, replicate}
use Rattle.rules.specs.declared.Chip.{Chip}
use Rattle.rules.specs.Notes.{Note, Empty, EndByte, Length}
use Rattle.rules.specs.declared.Options.{Options}
use Rattle.rules.specs.declared.numbers.Number.{Number}
use Rattle.rules.specs.Chip.{Memory, small, same, over}
use Rattle.rules.specs.Command.{phase_number}
use Rattle.rules.specs.Frame.{last_end, more_end}
use Rattle.rules.specs.Numbers.{call_number, note_numbers}
use Rattle.rules.specs.Options.{fresh_options}
use Rattle.trials_rows.specs.Rows.{plain, D, same_number, same_options, same_memory, blank_flash, mode, speed, ack, flags, ask_ident, page, one, pair, one_page, two_pages, paged}
use Rattle.rules.specs.StandIn.{feed, powered}
use Rattle.rules.specs.WholeFrame.{frame_call}

-- a chip powered on with those options and flashes, and bytes sent to it one by one; then the frame handed over, with a reply buffer of so many
-- bytes; what the call comes to in numbers, its answer and note, and what stands afterwards: phase, bytes half received, options, flash
pub record Handed : Type 0 where
  pub chip : Chip
  pub options : Options
  pub memory : Memory
  pub sent : List ℕ
  pub input : List ℕ
  pub reply : ℕ
  pub call : Number
  pub answer : List ℕ
  pub note : Note
  pub phase : ℕ
  pub half : List ℕ
  pub memory_after : Memory

unfoldable pub hands : Handed → Bool
hands t =
    let s = (feed t.chip (powered t.options t.memory) t.sent).state in
    let reply : List ℕ = replicate t.reply 0 in
    let o = frame_call t.chip s reply t.input in
    same_number (call_number o.call) t.call
    && same o.reply (over t.answer reply)
    && same (note_numbers o.note) (note_numbers t.note)
    && eqb (phase_number o.state.phase) t.phase
    && same o.state.got t.half
    && same_options o.state.options t.options
    && same_memory o.state.memory t.memory_after

unfoldable pub all_hand : List Handed → Bool
all_hand [] = true
all_hand (t ∷ ts) = hands t && all_hand ts

-- ---- what rows are made of ----

abbrev E1 : Number
E1 = record { letter = 0x45; number = 1 }

abbrev handed : Options → List ℕ → List ℕ → Number → List ℕ → Note → ℕ → List ℕ → Memory → Handed
handed o sent input call answer note phase half after =
    record {
      chip = small;
      options = o;
      memory = blank_flash;
      sent = sent;
      input = input;
      reply = 16;
      call = call;
      answer = answer;
      note = note;
      phase = phase;
      half = half;
      memory_after = after;
    }

-- a fresh chip in Command, after those bytes: answered, with a note, or refused with E1
abbrev told : List ℕ → List ℕ → ℕ → List ℕ → Note → Memory → Handed
told sent input size answer note after =
    handed fresh_options (mode ++ speed ++ sent) input (plain size) answer note 3 [] after

abbrev answers : List ℕ → ℕ → List ℕ → Note → Handed
answers input size answer note = told [] input size answer note blank_flash

abbrev not_awaited : List ℕ → List ℕ → List ℕ → Handed
not_awaited sent input half = handed fresh_options (mode ++ speed ++ sent) input E1 [] Empty 3 half blank_flash

-- Reset, in another phase: before the mode byte, after a wrong one, while IFPR is 0
abbrev reset : List ℕ
reset = 0x01 ∷ 0x01 ∷ 0x00 ∷ 0xFF ∷ 0x03 ∷ []

-- what is lent: counts of the chip, lengths, the length of the reply buffer; a frame that is not awaited, so that D comes before E1
abbrev lent : ℕ → ℕ → ℕ → ℕ → ℕ → Number → Handed
lent c d code dat reply call =
    let m : Memory = record { code = replicate code 0xFF; «data» = replicate dat 0xFF } in
    record {
      chip = record { code = c; «data» = d };
      options = fresh_options;
      memory = m;
      sent = [];
      input = [];
      reply = reply;
      call = call;
      answer = [];
      note = Empty;
      phase = 0;
      half = [];
      memory_after = m;
    }

unfoldable pub whole_frames : List Handed
whole_frames =
    -- a wrong SUM and a wrong end byte are answered, not refused
    answers reset 5 ack Empty
    ∷ answers (0x01 ∷ 0x01 ∷ 0x00 ∷ 0xFE ∷ 0x03 ∷ []) 5 (one 0x07) Empty
    ∷ answers (0x01 ∷ 0x01 ∷ 0x00 ∷ 0xFF ∷ 0x17 ∷ []) 5 (one 0x15) EndByte
    -- not one whole frame by its own LEN
    ∷ not_awaited [] [] []
    ∷ not_awaited [] (0x01 ∷ []) []
    ∷ not_awaited [] (0x01 ∷ 0x01 ∷ 0x00 ∷ 0xFF ∷ []) []
    ∷ not_awaited [] (reset ++ (0x00 ∷ [])) []
    ∷ not_awaited [] (reset ++ reset) []
    ∷ not_awaited [] (0x01 ∷ 0x00 ∷ 0x00 ∷ 0x03 ∷ []) []
    -- LEN 00h is 256 bytes: a whole frame, whose LEN is not the command's
    ∷ answers (0x01 ∷ 0x00 ∷ (replicate 257 0x00 ++ (0x03 ∷ []))) 5 (one 0x15) (Length 1 0)
    -- a data frame while a command is awaited, and the reverse
    ∷ not_awaited [] (page last_end 0xA5) []
    ∷ not_awaited (one_page 0x40) reset []
    ∷ not_awaited (one_page 0x13) reset []
    -- a frame half received
    ∷ not_awaited (0x01 ∷ []) reset (0x01 ∷ [])
    ∷ not_awaited (0x01 ∷ 0x01 ∷ []) reset (0x01 ∷ 0x01 ∷ [])
    -- the mode byte is awaited; the chip is Silent, by its mode byte and by IFPR
    ∷ handed fresh_options [] reset E1 [] Empty 0 [] blank_flash
    ∷ handed fresh_options (0x3B ∷ []) reset E1 [] Empty 4 [] blank_flash
    ∷ handed (flags 0xFF 0xFB) mode reset E1 [] Empty 4 [] blank_flash
    -- 9Ah in Speed, and in Ident
    ∷ handed fresh_options mode speed (plain 7) (0x02 ∷ 0x03 ∷ 0x06 ∷ 0x20 ∷ 0x00 ∷ 0xD7 ∷ 0x03 ∷ []) Empty 3 [] blank_flash
    ∷ handed ask_ident mode speed (plain 7) (0x02 ∷ 0x03 ∷ 0x06 ∷ 0x20 ∷ 0x00 ∷ 0xD7 ∷ 0x03 ∷ []) Empty 2 [] blank_flash
    ∷ handed ask_ident (mode ++ speed) speed (plain 5) (one 0x04) Empty 2 [] blank_flash
    -- a page is written; while two are due it is not the last
    ∷ told (one_page 0x40) (page last_end 0xA5) 6 (pair 0x06 0x06) Empty (paged 0 0xA5 blank_flash)
    ∷ told (two_pages 0x40) (page more_end 0xA5) 6 (pair 0x06 0x06) Empty (paged 0 0xA5 blank_flash)
    ∷ told (one_page 0x13) (page last_end 0xA5) 6 (pair 0x06 0x0F) Empty blank_flash
    -- what is lent comes first
    ∷ lent 16 32 32768 2048 15 (D 0)
    ∷ lent 16 8 32767 2047 15 (D 1)
    ∷ lent 16 8 32768 2047 15 (D 2)
    ∷ lent 16 8 32768 2048 15 (D 3)
    ∷ lent 16 8 32768 2048 16 E1
    ∷ []
