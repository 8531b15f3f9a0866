-- `standin_command::orders::release` meets its contract: flash and flags decide. Assumes nothing.
use mathlib.Core.Path.{sym, ap, ◌∙◌}
use Rattle.rules.specs.declared.Options.{Options}
use Rattle.rules.specs.declared.Order.TheVariants.{Release}
use Rattle.rules.specs.Command.{ack_options, done}
use Rattle.chip_finder.specs.LentFlashes.{memory}
use Rattle.standin_state.specs.View.{idle}
use Rattle.standin_state.proofs.Handed.{same_out}
use Rattle.standin_command.proofs.Refusals.{release_quiet, order_done, quiet_refused}
use Rattle.standin_command.proofs.orders.release.Goals as goal

pub returns-in-Err : goal.returns-in-Err
returns-in-Err c =
    let a = c.args in
    let m = memory a.code.now a.«data».now in
    λ chip f. same_out _ _ _ _ _ _ (quiet_refused chip a.c m f Release _ (sym c.in-Err.is ∙ c.release_fault.ensures f) (release_quiet a.c.options m f) _ c.status_byte.ensures) (c.refuse_with.ensures m)

pub returns : goal.returns
unfolding done
returns c =
    let a = c.args in
    let m = memory a.code.now a.«data».now in
    λ chip f. same_out _ _ _ _ _ _ (ap (λ (o : Options). ack_options o (idle a.c m)) c.release.ensures ∙ order_done chip a.c m f Release (sym c.in_default.is ∙ c.release_fault.ensures f)) (c.acknowledge.ensures m)
