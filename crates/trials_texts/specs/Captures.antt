-- 02, M-111: captures and the verdicts on them, and whether the definitions give them. Assumes nothing.
use Rattle.std.specs.Prelude.{ℕ, Bool, true, ◌&&◌, List, [], ◌∷◌, ◌++◌, eqb, replicate}
use Rattle.rules.specs.declared.Chip.{Chip}
use Rattle.rules.specs.declared.Options.{Options}
use Rattle.rules.specs.declared.numbers.Number.{Number}
use Rattle.rules.specs.Chip.{Memory, small, large, fresh_memory}
use Rattle.rules.specs.Frame.{last_end}
use Rattle.rules.specs.Options.{fresh_options}
use Rattle.rules.specs.Text.{ascii, hex2}
use Rattle.trials_rows.specs.Rows.{plain, D, same_number, same_options, same_memory, blank_flash, flags, no_boot, command, page, pair, one_page, paged}
use Rattle.rules.specs.Capture.{Looked, sent_sign, given_sign, captured, capture_number, capture_line}

-- a stated chip, options and flash, and a text; the verdict's number and line, and options and flash as it leaves them
pub record Capture : Type 0 where
  pub chip : Chip
  pub options : Options
  pub memory : Memory
  pub text : List ℕ
  pub due : Number
  pub line : ℕ
  pub options_after : Options
  pub memory_after : Memory

abbrev pub looked_in : Capture → Looked
looked_in t = captured t.chip t.options t.memory t.text

unfoldable pub looks : Capture → Bool
looks t =
    let r = looked_in t in
    same_number (capture_number r.verdict) t.due
    && eqb (capture_line r.verdict) t.line
    && same_options r.options t.options_after
    && same_memory r.memory t.memory_after

unfoldable pub all_look : List Capture → Bool
all_look [] = true
all_look (t ∷ ts) = looks t && all_look ts

-- ---- what rows are made of ----

-- bytes as ` HH HH ..`, and as a line with a sign
unfoldable pub row_text : List ℕ → List ℕ
row_text [] = []
row_text (b ∷ bs) = ascii " " ++ hex2 b ++ row_text bs

unfoldable pub line_text : ℕ → List ℕ → List ℕ
line_text sign bs = (sign ∷ row_text bs) ++ ascii "\n"

abbrev sends : List ℕ → List ℕ
sends bs = line_text sent_sign bs

abbrev gives : List ℕ → List ℕ
gives bs = line_text given_sign bs

-- a session with a small chip: from these options and flash to those
abbrev ends : Options → Memory → List ℕ → Number → ℕ → Options → Memory → Capture
ends o m text due line after flash =
    record {
      chip = small;
      options = o;
      memory = m;
      text = text;
      due = due;
      line = line;
      options_after = after;
      memory_after = flash;
    }

-- with a fresh one, which stays as it is
abbrev on_fresh : List ℕ → Number → ℕ → Capture
on_fresh text due line = ends fresh_options blank_flash text due line fresh_options blank_flash

abbrev accepted : List ℕ → Capture
accepted text = on_fresh text (plain 0) 0

abbrev wrong_number : Number
wrong_number = record { letter = 0x43; number = 1 }

abbrev form_number : Number
form_number = record { letter = 0x43; number = 2 }

abbrev wrong_at : ℕ → List ℕ → Capture
wrong_at line text = on_fresh text wrong_number line

abbrev bad_at : ℕ → List ℕ → Capture
bad_at line text = on_fresh text form_number line

-- mode and 9Ah with its answer, and without
abbrev asked : List ℕ
asked = ascii "> 3A\n> 01 03 9A 00 21 42 03\n"

abbrev opened : List ℕ
opened = asked ++ ascii "< 02 03 06 20 00 D7 03\n"

-- Security Set that clears SEPR; a page of data flash written
abbrev locks : List ℕ
locks = sends (command (0xA0 ∷ 0xFB ∷ 0xFF ∷ 0x00 ∷ []))

abbrev no_erase : Options
no_erase = flags 0xFB 0xFF

abbrev acked : List ℕ
acked = ascii "< 02 01 06 F9 03\n"

abbrev writes : List ℕ
writes = sends (one_page 0x40) ++ acked ++ sends (page last_end 0xA5)

-- lent flashes of these lengths
abbrev lent : ℕ → ℕ → ℕ → ℕ → Number → Capture
lent c d code dat due =
    let m : Memory = record { code = replicate code 0xFF; «data» = replicate dat 0xFF } in
    record {
      chip = record { code = c; «data» = d };
      options = no_erase;
      memory = m;
      text = [];
      due = due;
      line = 0;
      options_after = no_erase;
      memory_after = m;
    }

unfoldable pub captures : List Capture
captures =
    -- nothing; a power-on; without its LF; two
    wrong_at 1 []
    ∷ accepted (ascii "!\n")
    ∷ bad_at 1 (ascii "!")
    ∷ accepted (ascii "!\n!\n")
    -- another line first
    ∷ wrong_at 1 (ascii "> 3A\n")
    ∷ wrong_at 1 (ascii "< 06\n")
    ∷ bad_at 1 (ascii "x\n")
    ∷ bad_at 1 (ascii "\n")
    -- an opening in either case of letter; twice; behind half a frame
    ∷ accepted (ascii "!\n" ++ opened)
    ∷ accepted (ascii "!\n> 3a\n> 01 03 9a 00 21 42 03\n< 02 03 06 20 00 d7 03\n")
    ∷ accepted (ascii "!\n" ++ opened ++ ascii "!\n" ++ opened)
    ∷ accepted (ascii "!\n> 3A\n> 01 03 9A\n!\n" ++ opened)
    -- no space, two spaces, a space at the end, no pair, CR LF; a sign that is none; half a pair; no digit; a line without LF
    ∷ bad_at 2 (ascii "!\n>3A\n")
    ∷ bad_at 2 (ascii "!\n>  3A\n")
    ∷ bad_at 2 (ascii "!\n> 3A \n")
    ∷ bad_at 2 (ascii "!\n>\n")
    ∷ bad_at 1 (0x21 ∷ 0x0D ∷ 0x0A ∷ [])
    ∷ bad_at 2 (ascii "!\n= 3A\n")
    ∷ bad_at 2 (ascii "!\n! \n")
    ∷ bad_at 2 (ascii "!\n> 3A 0\n")
    ∷ bad_at 2 (ascii "!\n> 3G\n")
    ∷ bad_at 2 (ascii "!\n> 3A")
    -- an answer to `!`; to a line that has none; twice
    ∷ wrong_at 2 (ascii "!\n< 06\n")
    ∷ wrong_at 3 (ascii "!\n> 3A\n< 06\n")
    ∷ wrong_at 5 (ascii "!\n" ++ opened ++ ascii "< 02 03 06 20 00 D7 03\n")
    -- an answer missing before `>`, before `!`, before a line of bad form, at the end
    ∷ wrong_at 4 (ascii "!\n" ++ asked ++ ascii "> 01 01 00 FF 03\n")
    ∷ wrong_at 4 (ascii "!\n" ++ asked ++ ascii "!\n")
    ∷ bad_at 4 (ascii "!\n" ++ asked ++ ascii "xx\n")
    ∷ wrong_at 4 (ascii "!\n" ++ asked)
    -- two answers to one line, in one line and in two
    ∷ accepted (ascii "!\n> 3A 01 03 9A 00 21 42 03 01 01 00 FF 03\n< 02 03 06 20 00 D7 03 02 01 06 F9 03\n")
    ∷ wrong_at 3 (ascii "!\n> 3A 01 03 9A 00 21 42 03 01 01 00 FF 03\n< 02 03 06 20 00 D7 03\n< 02 01 06 F9 03\n")
    -- a byte short, a byte long, another byte
    ∷ wrong_at 3 (ascii "!\n> 3A 01 03 9A 00 21 42 03\n< 02 03 06 20 00 D7\n")
    ∷ wrong_at 3 (ascii "!\n> 3A 01 03 9A 00 21 42 03\n< 02 03 06 20 00 D7 03 00\n")
    ∷ wrong_at 3 (ascii "!\n> 3A 01 03 9A 00 21 42 03\n< 02 03 06 20 00 D6 03\n")
    -- the first line decides
    ∷ wrong_at 4 (ascii "!\n" ++ asked ++ ascii "< 00\nxx\n")
    -- a chip that is silent
    ∷ accepted (ascii "!\n> 3B\n> 01 03 9A 00 21 42 03\n> 00\n")
    ∷ ends (flags 0xFF 0xFB) blank_flash (ascii "!\n" ++ asked) (plain 0) 0 (flags 0xFF 0xFB) blank_flash
    -- stated options: an erase of boot cluster 0 is refused, and so it is after the next power-on
    ∷ ends no_boot blank_flash (ascii "!\n" ++ opened ++ ascii "!\n" ++ opened ++ ascii "> 01 04 22 00 08 00 D2 03\n< 02 01 10 EF 03\n") (plain 0) 0 no_boot blank_flash
    -- options and flash as the lines before the one named left them: missing at the end, bad form, accepted
    ∷ ends fresh_options blank_flash (ascii "!\n" ++ opened ++ locks) wrong_number 6 no_erase blank_flash
    ∷ ends fresh_options blank_flash (ascii "!\n" ++ opened ++ locks ++ ascii "<\n") form_number 6 no_erase blank_flash
    ∷ ends fresh_options blank_flash (ascii "!\n" ++ opened ++ locks ++ acked) (plain 0) 0 no_erase blank_flash
    ∷ ends fresh_options blank_flash (ascii "!\n" ++ opened ++ locks ++ locks) wrong_number 6 no_erase blank_flash
    ∷ ends fresh_options blank_flash (ascii "!\n" ++ opened ++ writes ++ gives (pair 0x06 0x06)) (plain 0) 0 fresh_options (paged 0 0xA5 blank_flash)
    ∷ ends fresh_options blank_flash (ascii "!\n" ++ opened ++ writes ++ gives (pair 0x06 0x1C)) wrong_number 8 fresh_options (paged 0 0xA5 blank_flash)
    ∷ ends fresh_options (paged 0 0x00 blank_flash) (ascii "!\n" ++ opened ++ writes ++ gives (pair 0x06 0x1C)) (plain 0) 0 fresh_options (paged 0 0x00 blank_flash)
    -- what is lent comes first, before an empty text too
    ∷ lent 16 32 32768 2048 (D 0)
    ∷ lent 16 8 32767 2047 (D 1)
    ∷ lent 16 8 32768 2047 (D 2)
    ∷ lent 64 32 32768 8192 (D 1)
    -- the larger chip: Window Get shows its last block
    ∷ record {
      chip = large;
      options = fresh_options;
      memory = fresh_memory large;
      text = ascii "!\n" ++ opened ++ ascii "> 01 01 AD 52 03\n< 02 01 06 F9 03 02 04 00 80 3F 80 BD 03\n";
      due = plain 0;
      line = 0;
      options_after = fresh_options;
      memory_after = fresh_memory large;
    }
    ∷ []
