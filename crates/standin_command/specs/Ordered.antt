-- A command whose frame is well: what its information comes to. Assumes nothing.
use Rattle.std.specs.Prelude.{ℕ, Option, Some, None, List}
use Rattle.rules.specs.declared.Chip.{Chip}
use Rattle.rules.specs.declared.Pages.{Pages}
use Rattle.rules.specs.declared.Task.{Task}
use Rattle.rules.specs.Answers.{Decoded, Range, Blocks, Invalid}
use Rattle.rules.specs.Faults.{Parameter}
use Rattle.rules.specs.Chip.{Memory}
use Rattle.rules.specs.Command.{pages_awaited, ack_task, judged_order}
use Rattle.rules.specs.StandIn.{State, Out, refused, on_judged}
use Rattle.standin_state.specs.declared.Core.{Core}
use Rattle.standin_state.specs.View.{idle}

-- rows 5 to 8 of the status table, and what the order does where none of them applies
abbrev pub on_order : Chip → Core → Memory → List ℕ → Decoded → Out
on_order chip c m f d = on_judged (judged_order c.options m f d) chip (idle c m)

-- the pages of an address pair, where it is valid
abbrev pub awaited : Range → Option Pages
awaited (Blocks f a b) = Some (pages_awaited f a b)
awaited Invalid = None

-- a command begun, or 05h where there is none to begin
abbrev pub begun : Option Task → State → Out
begun (Some task) s = ack_task task s
begun None s = refused Parameter s
