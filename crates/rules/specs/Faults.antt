-- The verdict on a frame (01, Status bytes and their order): it is well, or the first row of the status table that applies. Assumes nothing.
use Rattle.std.specs.Prelude.{ℕ, Result, Ok, Err}
use Rattle.rules.specs.declared.Fault.{Fault as Row}
use Rattle.rules.specs.declared.Fault.TheVariants as row
use Rattle.rules.specs.Notes.{Note}

abbrev pub Fault : Type 0
Fault = Result (Unit {0}) Row

pattern abbrev pub Well : Fault
Well = Ok tt

pattern abbrev pub EndByte : Fault
EndByte = Err row.EndByte

pattern abbrev pub Sum : Fault
Sum = Err row.Sum

pattern abbrev pub Code : Fault
Code = Err row.Code

pattern abbrev pub Length : ℕ → ℕ → Fault
Length due found = Err (row.Length due found)

pattern abbrev pub Parameter : Fault
Parameter = Err row.Parameter

pattern abbrev pub Ident : Fault
Ident = Err row.Ident

pattern abbrev pub NotBlank : Note → Fault
NotBlank note = Err (row.NotBlank note)

pattern abbrev pub Protected : Fault
Protected = Err row.Protected

pattern abbrev pub PageNotBlank : Fault
PageNotBlank = Err row.PageNotBlank

pattern abbrev pub Difference : Fault
Difference = Err row.Difference
