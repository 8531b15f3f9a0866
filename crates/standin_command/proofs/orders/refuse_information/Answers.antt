-- `standin_command::orders::refuse_information` meets its contract: 05h, which can silence. Assumes nothing.
use mathlib.Core.Path.{ap}
use Rattle.rules.specs.declared.Phase.{Phase}
use Rattle.rules.specs.declared.Task.TheVariants.{Idle}
use Rattle.rules.specs.Frame.{one}
use Rattle.rules.specs.State.{out, rest}
use Rattle.standin_state.proofs.Handed.{same_out}
use Rattle.standin_command.proofs.orders.refuse_information.Goals as goal

pub returns : goal.returns
returns c =
    let a = c.args in
    λ m. same_out _ _ _ _ _ _ (ap (λ (p : Phase). out (rest p Idle a.o m) (one 0x05)) c.silenced-after.ensures.0) (c.refuse_with.ensures m)
