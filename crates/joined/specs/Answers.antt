-- The words for the answer of a joined call: played to the end, or why not. Assumes nothing.
use Rattle.std.specs.Prelude.{Result, Ok, Err}
use Rattle.rules.specs.declared.Refusal.{Refusal}
use Rattle.joined.specs.declared.NotPlayed.{NotPlayed}
use Rattle.joined.specs.declared.NotPlayed.TheVariants as why

abbrev pub Answer : Type 0
Answer = Result (Unit {0}) NotPlayed

pattern abbrev pub Played : Answer
Played = Ok tt

pattern abbrev pub Refused : Refusal → Answer
Refused n = Err (why.Refused n)

pattern abbrev pub NotAtStep : Answer
NotAtStep = Err why.NotAtStep

pattern abbrev pub Busy : Answer
Busy = Err why.Busy
