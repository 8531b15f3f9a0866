-- `standin_command::orders::identify` meets its contract: the ID decides. Assumes nothing.
use mathlib.Core.Path.{sym, ◌∙◌}
use Rattle.rules.specs.declared.Order.TheVariants.{Identity}
use Rattle.rules.specs.Command.{done}
use Rattle.chip_finder.specs.LentFlashes.{memory}
use Rattle.standin_verdict.proofs.Verdicts.{no_row}
use Rattle.standin_state.proofs.Handed.{same_out}
use Rattle.standin_command.proofs.Refusals.{ident_refused, answered_ident, order_done, order_refused}
use Rattle.standin_command.proofs.orders.identify.Goals as goal

pub returns-in-Err : goal.returns-in-Err
returns-in-Err c =
    let a = c.args in
    λ chip d. let m = memory a.code.now d in
    let e = sym c.in-Err.is ∙ c.ident_fault.ensures a.c.options d in
    let is = ident_refused a.c.options m a.f.now _ e (no_row _) in
    same_out _ _ _ _ _ _ (answered_ident a.c.phase _ _ m _ _ is c.status_byte-status.ensures c.silenced.ensures.1 ∙ order_refused chip a.c m a.f.now Identity _ e) (c.refuse_with.ensures m)

pub returns : goal.returns
unfolding done
returns c =
    let a = c.args in
    λ chip d. same_out _ _ _ _ _ _ (order_done chip a.c (memory a.code.now d) a.f.now Identity (sym c.in_default.is ∙ c.ident_fault.ensures a.c.options d)) (c.acknowledge.ensures (memory a.code.now d))
