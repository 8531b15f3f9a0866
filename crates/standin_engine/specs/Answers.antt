-- The engine's words for what a byte changes, which may be refused. Assumes nothing.
use Rattle.std.specs.Prelude.{ℕ, Result, Ok, Err}
use Rattle.rules.specs.declared.Refusal.{Refusal}
use Rattle.standin_state.specs.declared.Response.{Response}
use Rattle.standin_engine.specs.declared.Change.{Change as Taking}
use Rattle.standin_engine.specs.declared.Change.TheVariants as taking

abbrev pub Change : Type 0
Change = Result Taking Refusal

pattern abbrev pub Refused : Refusal → Change
Refused n = Err n

pattern abbrev pub Held : ℕ → Change
Held n = Ok (taking.Held n)

pattern abbrev pub Whole : Response → Change
Whole h = Ok (taking.Whole h)
