-- What a whole device shows, and what its calls came to. Assumes nothing.
use Rattle.std.specs.Prelude.{ℕ, List}
use Rattle.rules.specs.Chip.{Memory}
use Rattle.rules.specs.StandIn.{State, Powered, Outcome}
use Rattle.standin_engine.specs.View.{view, call_outcome}
use Rattle.standin.specs.declared.call.Device.{Device}
use Rattle.standin.specs.declared.call.Answered.{Answered}
use Rattle.standin.specs.declared.call.PoweredOn.{PoweredOn}

abbrev pub shows : Device → Memory → State
shows d m = view d.core d.held m

-- a power-on
abbrev pub powered_as : PoweredOn → Memory → Powered
powered_as a m = record { state = shows a.device m; call = a.call }

-- a byte call
abbrev pub answered_as : Answered → Memory → List ℕ → Outcome
answered_as a m reply = call_outcome (shows a.device m) a.answer.call a.answer.note reply
