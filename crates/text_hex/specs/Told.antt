-- What the program `hex` writes of a refusal: the line and the fault, and what to do where there is a way out. Assumes nothing.
use Rattle.std.specs.Prelude.{ℕ, List, ◌++◌}
use Rattle.rules.specs.declared.hex.HexRefusal.{HexRefusal}
use Rattle.rules.specs.declared.hex.HexRefusal.TheVariants.{BadForm, WrongSum, OtherType, Outside, Twice, AfterEnd, NoEnd, ManySteps, ManyBytes, ShortBuffer}
use Rattle.rules.specs.Text.{ascii, decimal}

unfoldable pub line_told : ℕ → List ℕ → List ℕ
line_told n words = ascii "hex: line " ++ decimal n ++ words

unfoldable pub refusal_told : HexRefusal → List ℕ
refusal_told (BadForm n) = line_told n (ascii ": bad form\n")
refusal_told (WrongSum n) = line_told n (ascii ": wrong sum\n")
refusal_told (OtherType n) = line_told n (ascii ": record type other than 00, 01, 04: write the file with 04 records\n")
refusal_told (Outside n) = line_told n (ascii ": byte outside the flashes\n")
refusal_told (Twice n) = line_told n (ascii ": byte given twice\n")
refusal_told (AfterEnd n) = line_told n (ascii ": a line after the end record\n")
refusal_told NoEnd = ascii "hex: no end record\n"
refusal_told ManySteps = ascii "hex: over 64 steps: at most 21 blocks a sheet, split the image\n"
refusal_told ManyBytes = ascii "hex: over 65,536 bytes: at most 15 code blocks a sheet, split the image\n"
refusal_told ShortBuffer = ascii "hex: output buffer too short\n"
