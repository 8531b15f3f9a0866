-- `standin_command::orders::begin` meets its contract: a task is begun, or 05h. Assumes nothing.
use mathlib.Core.Path.{sym, ap}
use Rattle.std.proofs.Common.{Option}
use Rattle.rules.specs.declared.Task.{Task}
use Rattle.standin_state.specs.View.{idle}
use Rattle.standin_command.specs.Ordered.{begun}
use Rattle.standin_state.proofs.Handed.{same_out}
use Rattle.standin_command.proofs.orders.begin.Goals as goal

pub returns-in-Some : goal.returns-in-Some
returns-in-Some c =
    λ m. same_out _ _ _ _ _ _ (ap (λ (t : Option Task). begun t (idle c.args.c m)) (sym c.in-Some.is)) (c.acknowledge.ensures m)

pub returns-in-None : goal.returns-in-None
returns-in-None c =
    λ m. same_out _ _ _ _ _ _ (ap (λ (t : Option Task). begun t (idle c.args.c m)) (sym c.in-None.is)) (c.refuse_information.ensures m)
