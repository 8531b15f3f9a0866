-- `standin_command::orders::set_window` meets its contract: FSPR decides. Assumes nothing.
use mathlib.Core.Path.{sym, ap, ◌∙◌}
use Rattle.rules.specs.declared.Options.{Options}
use Rattle.rules.specs.declared.Order.TheVariants.{WindowSet}
use Rattle.rules.specs.Command.{ack_options, done}
use Rattle.standin_state.specs.View.{idle}
use Rattle.standin_state.proofs.Handed.{same_out}
use Rattle.standin_command.proofs.Refusals.{window_quiet, order_done, quiet_refused}
use Rattle.standin_command.proofs.orders.set_window.Goals as goal

pub returns-in-Err : goal.returns-in-Err
returns-in-Err c =
    let a = c.args in
    λ chip m f. same_out _ _ _ _ _ _ (quiet_refused chip a.c m f (WindowSet a.sws a.swe) _ (sym c.in-Err.is ∙ c.window_fault.ensures m f _ _) (window_quiet a.c.options m f a.sws a.swe) _ c.status_byte.ensures) (c.refuse_with.ensures m)

pub returns : goal.returns
unfolding done
returns c =
    let a = c.args in
    λ chip m f. same_out _ _ _ _ _ _ (ap (λ (o : Options). ack_options o (idle a.c m)) c.window_set.ensures ∙ order_done chip a.c m f (WindowSet a.sws a.swe) (sym c.in_default.is ∙ c.window_fault.ensures m f _ _)) (c.acknowledge.ensures m)
