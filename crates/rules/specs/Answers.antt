-- 01's words for the answers of calls, and for a command frame read: an Option or a Result in code. Assumes nothing.
use Rattle.std.specs.Prelude.{ℕ, Option, Some, None, Result, Ok, Err}
use Rattle.rules.specs.declared.Order.{Order}
use Rattle.rules.specs.declared.Refusal.{Refusal}
use Rattle.rules.specs.declared.hex.HexRefusal.{HexRefusal}
use Rattle.rules.specs.declared.hex.HexRead.{HexRead as Read}
use Rattle.rules.specs.declared.hex.HexRead.TheVariants as read
use Rattle.rules.specs.Faults.{Fault}
pub use Rattle.rules.specs.Verdicts.{Refused, Verdict, Accepted, Found, In, Nowhere, Range, Blocks, Invalid}

-- ---- the answers of calls ----

-- a power-on or a byte call: so many bytes answered
abbrev pub Call : Type 0
Call = Result ℕ Refusal

pattern abbrev pub Answer : ℕ → Call
Answer n = Ok n

-- a player call: a frame of so many bytes, or the end
abbrev pub Next : Type 0
Next = Result (Option ℕ) Refusal

pattern abbrev pub Frame : ℕ → Next
Frame n = Ok (Some n)

pattern abbrev pub End : Next
End = Ok None

-- a sheet made, by a move to the other form or of a HEX text: so many bytes
abbrev pub Moved : Type 0
Moved = Result ℕ Refusal

abbrev pub HexMade : Type 0
HexMade = Result ℕ HexRefusal

pattern abbrev pub Sheet : {E : Type 0} → ℕ → Result ℕ E
Sheet n = Ok n

-- a HEX text after a line: the next one is due, or it has its end record
abbrev pub HexRead : Type 0
HexRead = Result Read HexRefusal

pattern abbrev pub On : HexRead
On = Ok read.On

pattern abbrev pub Ended : HexRead
Ended = Ok read.Ended

-- ---- a command frame ----

-- the row of its code: the length that a code must have, and the number of the phase that allows it
abbrev pub CodeRow : Type 0
CodeRow = Option (ℕ × ℕ)

pattern abbrev pub Row : ℕ → ℕ → CodeRow
Row len phase = Some (len, phase)

pattern abbrev pub Unknown : CodeRow
Unknown = None

-- its information: an order, or not valid (05h)
abbrev pub Decoded : Type 0
Decoded = Option Order

pattern abbrev pub Is : Order → Decoded
Is order = Some order

pattern abbrev pub Bad : Decoded
Bad = None

-- the whole of it: an order to be done, or the verdict that refuses it
abbrev pub Judged : Type 0
Judged = Result Order Fault

pattern abbrev pub Faulty : Fault → Judged
Faulty v = Err v

pattern abbrev pub Ordered : Order → Judged
Ordered order = Ok order
