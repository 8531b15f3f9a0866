-- `standin_command::orders::set_speed` meets its contract: BRT and VDD decide. Assumes nothing.
use mathlib.Core.Path.{sym, ap, ◌∙◌}
use mathlib.Core.Bool.{Bool, cond}
use Rattle.rules.specs.declared.Order.TheVariants.{BaudRate}
use Rattle.rules.specs.Answers.{Is, Bad}
use Rattle.rules.specs.First.{first}
use Rattle.rules.specs.Command.{order_checks, unless, judged_order, done}
use Rattle.rules.specs.StandIn.{on_judged}
use Rattle.standin_command.specs.Ordered.{on_order}
use Rattle.standin_state.proofs.Handed.{same_out}
use Rattle.standin_command.proofs.orders.set_speed.Goals as goal

pub returns-then-rated : goal.returns-then-rated
unfolding on_judged judged_order unless order_checks first done
returns-then-rated c =
    let a = c.args in
    λ chip m f. same_out _ _ _ _ _ _ (ap (λ (t : Bool). on_order chip a.c m f (cond t (Is BaudRate) Bad)) (sym c.if-rated.true ∙ c.rated.ensures)) (c.tell_speed.ensures m)

pub returns : goal.returns
unfolding on_judged judged_order unless order_checks first done
returns c =
    let a = c.args in
    λ chip m f. same_out _ _ _ _ _ _ (ap (λ (t : Bool). on_order chip a.c m f (cond t (Is BaudRate) Bad)) (sym c.if-rated.false ∙ c.rated.ensures)) (c.refuse_information.ensures m)
