-- The chip that the lines of a file state (README, "Look over another programmer's session"). Assumes nothing.
use Rattle.std.specs.Prelude.{ℕ, ◌+◌, Bool, true, false, cond, List, [], ◌∷◌, ltb, length, drop, replicate}
use Rattle.rules.specs.declared.Chip.{Chip}
use Rattle.rules.specs.declared.Flash.{Flash}
use Rattle.rules.specs.declared.Flash.TheVariants.{Code, Data}
use Rattle.rules.specs.Chip.{Memory, small, known, flash_size, blank_byte}
use Rattle.rules.specs.Lines.{lines_of, row_bytes}
use Rattle.rules.specs.Options.{fresh_options}
use Rattle.text_script.specs.declared.chip_file.Stated.{Stated}
use Rattle.text_script.specs.Answers.{ChipFile, States, BadLine, Line, Bad, OfChip, Stored, Store, PowerOn, Bytes, Frame, Show, Sheet, Play}
use Rattle.text_script.specs.Script.{line_of}
use Rattle.text_script.specs.Chips.{stored_in}

-- what is stated, and the room that is lent for its flashes
pub record Stating : Type 0 where
  pub stated : Stated
  pub memory : Memory

abbrev pub stating : Stated → Memory → Stating
stating s m = record { stated = s; memory = m }

-- how many bytes of that room are the chip's flash; of a chip that is not known none are
unfoldable pub lent_of : Chip → Flash → ℕ → ℕ
lent_of chip f room = cond (known chip) (cond (ltb room (flash_size chip f)) room (flash_size chip f)) 0

-- a fresh chip
abbrev pub fresh_in : Chip → Memory → Stating
fresh_in chip m =
    stating
    (record { chip = chip; options = fresh_options })
    (record { code = replicate (length m.code) blank_byte; «data» = replicate (length m.«data») blank_byte })

-- a line that states something of a chip
abbrev pub is_stating : Line → Bool
is_stating Bad = false
is_stating (OfChip k) = true
is_stating (Stored o) = true
is_stating (Store f at) = true
is_stating PowerOn = false
is_stating Bytes = false
is_stating Frame = false
is_stating Show = false
is_stating Sheet = false
is_stating Play = false

-- what is stated after it
unfoldable pub stated_by : Line → List ℕ → Stating → Stating
stated_by Bad t s = s
stated_by (OfChip k) t s = fresh_in k s.memory
stated_by (Stored o) t s = stating (record { chip = s.stated.chip; options = o }) s.memory
stated_by (Store f at) t s = stating s.stated (stored_in f at (row_bytes (drop 10 t)) s.memory)
stated_by PowerOn t s = s
stated_by Bytes t s = s
stated_by Frame t s = s
stated_by Show t s = s
stated_by Sheet t s = s
stated_by Play t s = s

-- what a line says, by the chip stated so far
abbrev pub said_in : Stating → List ℕ → Line
said_in s t =
    line_of
    (lent_of s.stated.chip Code (length s.memory.code))
    (lent_of s.stated.chip Data (length s.memory.«data»))
    t

-- what comes of a file: the chip, or its first bad line; and the room then
pub record FileRead : Type 0 where
  pub file : ChipFile
  pub memory : Memory

abbrev pub file_read : ChipFile → Memory → FileRead
file_read f m = record { file = f; memory = m }

-- the lines, the bytes behind the last LF, how many lines were before, and what is stated so far
unfoldable pub lines_state : List (List ℕ) → List ℕ → ℕ → Stating → FileRead
lines_state [] [] n s = file_read (States s.stated) s.memory
lines_state [] (b ∷ left) n s = file_read (BadLine (n + 1)) s.memory
lines_state (l ∷ ls) left n s =
    cond (is_stating (said_in s l))
    (lines_state ls left (n + 1) (stated_by (said_in s l) l s))
    (file_read (BadLine (n + 1)) s.memory)

-- A FILE, from a fresh small chip on
unfoldable pub file_states : List ℕ → Memory → FileRead
file_states text m = lines_state (lines_of text).ended (lines_of text).rest 0 (fresh_in small m)
