-- 01's words for what is accepted or refused, and for what an address names: an Option or a Result in code. Assumes nothing.
use Rattle.std.specs.Prelude.{Option, Some, None, Result, Ok, Err}
use Rattle.rules.specs.declared.Flash.{Flash}
use Rattle.rules.specs.declared.Block.{Block}
use Rattle.rules.specs.declared.Refusal.{Refusal}

-- ---- a call that is refused ----

pattern abbrev pub Refused : {A E : Type 0} → E → Result A E
Refused n = Err n

-- a sheet, or what is lent: nothing is broken, or the first rule that is
abbrev pub Verdict : Type 0
Verdict = Result (Unit {0}) Refusal

pattern abbrev pub Accepted : Verdict
Accepted = Ok tt

-- ---- what an address names ----

abbrev pub Found : Type 0
Found = Option (Flash × Block)

pattern abbrev pub In : Flash → Block → Found
In f b = Some (f, b)

pattern abbrev pub Nowhere : Found
Nowhere = None

-- a pair of them: the first and the last block
abbrev pub Range : Type 0
Range = Option (Flash × Block × Block)

pattern abbrev pub Blocks : Flash → Block → Block → Range
Blocks f a b = Some (f, a, b)

pattern abbrev pub Invalid : Range
Invalid = None
