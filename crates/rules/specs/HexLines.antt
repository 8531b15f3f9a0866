-- 02, M-103: a line of a HEX text by itself: a record of type 00, 01 or 04, or what is wrong with it. Assumes nothing.
use Rattle.std.specs.Prelude.{Result, Ok, Err}
use Rattle.rules.specs.declared.hex.HexLine.{HexLine as Record}
use Rattle.rules.specs.declared.hex.HexLine.TheVariants as is
use Rattle.rules.specs.declared.hex.HexFault.{HexFault}
use Rattle.rules.specs.declared.hex.HexFault.TheVariants as fault

abbrev pub HexLine : Type 0
HexLine = Result Record HexFault

pattern abbrev pub Bytes : HexLine
Bytes = Ok is.Bytes

pattern abbrev pub End : HexLine
End = Ok is.End

pattern abbrev pub Upper : HexLine
Upper = Ok is.Upper

pattern abbrev pub BadForm : HexLine
BadForm = Err fault.BadForm

pattern abbrev pub WrongSum : HexLine
WrongSum = Err fault.WrongSum

pattern abbrev pub OtherType : HexLine
OtherType = Err fault.OtherType
