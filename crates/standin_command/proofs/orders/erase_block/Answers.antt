-- `standin_command::orders::erase_block` meets its contract: protection decides. Assumes nothing.
use mathlib.Core.Path.{sym, ap, ◌∙◌}
use Rattle.rules.specs.declared.Order.TheVariants.{Erase}
use Rattle.rules.specs.declared.Task.TheVariants.{Idle}
use Rattle.rules.specs.Chip.{Memory}
use Rattle.rules.specs.State.{out, rest}
use Rattle.rules.specs.Command.{ack, done}
use Rattle.chip_finder.specs.LentFlashes.{memory}
use Rattle.standin_state.proofs.Handed.{same_out}
use Rattle.standin_command.proofs.Refusals.{erase_quiet, order_done, quiet_refused}
use Rattle.standin_command.proofs.Found.{erased_found}
use Rattle.standin_command.proofs.orders.erase_block.Goals as goal

pub returns-in-Err : goal.returns-in-Err
returns-in-Err c =
    let a = c.args in
    let m = memory a.code.now a.«data».now in
    λ f. same_out _ _ _ _ _ _ (quiet_refused a.chip a.c m f (Erase a.g a.b) _ (sym c.in-Err.is ∙ c.erase_fault.ensures m f) (erase_quiet a.c.options m f a.g a.b) _ c.status_byte.ensures) (c.refuse_with.ensures m)

pub returns : goal.returns
unfolding done
returns c =
    let a = c.args in
    let m = memory a.code.now a.«data».now in
    let gone = c.erase_block.ensures ∙ erased_found a.chip m c.requires.0.in_code c.requires.0.in_data _ _ c.requires.1 in
    λ f. same_out _ _ _ _ _ _ (ap (λ (n : Memory). out (rest a.c.phase Idle a.c.options n) ack) gone ∙ order_done a.chip a.c m f (Erase a.g a.b) (sym c.in_default.is ∙ c.erase_fault.ensures m f)) (c.acknowledge.ensures _)
