-- `standin_command::orders::erase` meets its contract: the block that begins there is erased, or 05h. Assumes nothing.
use mathlib.Core.Path.{sym, ap, ◌∙◌}
use Rattle.rules.specs.Answers.{Found}
use Rattle.rules.specs.Command.{at_block, judged_order}
use Rattle.rules.specs.StandIn.{on_judged}
use Rattle.chip_finder.specs.LentFlashes.{memory}
use Rattle.chip_finder.proofs.ThereAndBack.{erase_inside}
use Rattle.standin_command.specs.Ordered.{on_order}
use Rattle.standin_state.proofs.Handed.{same_out}
use Rattle.standin_command.proofs.orders.erase.Goals as goal

pub erase_block-requires : goal.erase_block-requires
erase_block-requires c = (c.requires, erase_inside c.args.chip c.args.sad _ _ (sym c.erase_address.ensures ∙ c.in-Some.is))

pub returns-in-Some : goal.returns-in-Some
returns-in-Some c =
    let a = c.args in
    let m = memory a.code.now a.«data».now in
    λ f. same_out _ _ _ _ _ _ (ap (λ (x : Found). on_order a.chip a.c m f (at_block x)) (sym c.in-Some.is ∙ c.erase_address.ensures)) (c.erase_block.ensures f)

pub returns-in-None : goal.returns-in-None
unfolding on_judged judged_order
returns-in-None c =
    let a = c.args in
    let m = memory a.code.now a.«data».now in
    λ f. same_out _ _ _ _ _ _ (ap (λ (x : Found). on_order a.chip a.c m f (at_block x)) (sym c.in-None.is ∙ c.erase_address.ensures)) (c.refuse_information.ensures m)
