-- The words for what a line says, and for what a chip file gives: an Option and a Result in code. Assumes nothing.
use Rattle.std.specs.Prelude.{ℕ, Option, Some, None, Result, Ok, Err}
use Rattle.rules.specs.declared.Chip.{Chip}
use Rattle.rules.specs.declared.Flash.{Flash}
use Rattle.rules.specs.declared.Options.{Options}
use Rattle.text_script.specs.declared.chip_file.Stated.{Stated}
use Rattle.text_script.specs.declared.chip_file.BadLine.{BadLine as Unstated}
use Rattle.text_script.specs.declared.script_line.Line.{Line as Said}
use Rattle.text_script.specs.declared.script_line.Line.TheVariants as said

-- ---- a line ----

abbrev pub Line : Type 0
Line = Option Said

pattern abbrev pub Bad : Line
Bad = None

pattern abbrev pub OfChip : Chip → Line
OfChip k = Some (said.OfChip k)

pattern abbrev pub Stored : Options → Line
Stored o = Some (said.Stored o)

pattern abbrev pub Store : Flash → ℕ → Line
Store f at = Some (said.Store f at)

pattern abbrev pub PowerOn : Line
PowerOn = Some said.PowerOn

pattern abbrev pub Bytes : Line
Bytes = Some said.Bytes

pattern abbrev pub Frame : Line
Frame = Some said.Frame

pattern abbrev pub Show : Line
Show = Some said.Show

pattern abbrev pub Sheet : Line
Sheet = Some said.Sheet

pattern abbrev pub Play : Line
Play = Some said.Play

-- ---- a chip file: the chip, or the number of its first bad line ----

abbrev pub ChipFile : Type 0
ChipFile = Result Stated Unstated

pattern abbrev pub States : Stated → ChipFile
States s = Ok s

abbrev pub BadLine : ℕ → ChipFile
BadLine n = Err (record { 0 = n })
