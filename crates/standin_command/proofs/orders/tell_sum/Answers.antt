-- `standin_command::orders::tell_sum` meets its contract: the bytes of the range are summed, or 05h. Assumes nothing.
use mathlib.Core.Path.{sym, ap, ◌∙◌}
use Prim.Native.Nat.{ℕ}
use Rattle.rules.specs.Answers.{Range}
use Rattle.rules.specs.declared.Order.TheVariants.{Checksum}
use Rattle.rules.specs.First.{first}
use Rattle.rules.specs.Chip.{word_bytes, checksum}
use Rattle.rules.specs.Command.{sad_of, ead_of, over_blocks, order_checks, unless, judged_order, ack_data, done}
use Rattle.rules.specs.StandIn.{on_judged}
use Rattle.chip_finder.specs.LentFlashes.{memory}
use Rattle.chip_finder.proofs.ThereAndBack.{range_inside}
use Rattle.standin_state.specs.View.{idle}
use Rattle.standin_command.specs.Ordered.{on_order}
use Rattle.standin_state.proofs.Handed.{same_out}
use Rattle.standin_command.proofs.Found.{shown_found}
use Rattle.standin_command.proofs.orders.tell_sum.Goals as goal

pub returns-in-Some : goal.returns-in-Some
unfolding on_judged judged_order unless order_checks first done
returns-in-Some c =
    let a = c.args in
    let m = memory a.code.now a.«data».now in
    let e = sym c.blocks_named.ensures ∙ c.in-Some.is in
    let i = range_inside a.chip (sad_of a.f.now) (ead_of a.f.now) _ _ _ e in
    let sum = c.checksum-sum.ensures ∙ ap checksum (c.range_part.ensures ∙ shown_found a.chip m c.requires.in_code c.requires.in_data _ _ _ i.0 i.1) in
    same_out _ _ _ _ _ _ (ap (λ (n : ℕ). ack_data (word_bytes n) (idle a.c m)) sum ∙ ap (λ (x : Range). on_order a.chip a.c m a.f.now (over_blocks Checksum x)) (sym e)) (c.tell_word.ensures m)

pub returns-in-None : goal.returns-in-None
unfolding on_judged judged_order unless order_checks first done
returns-in-None c =
    let a = c.args in
    let m = memory a.code.now a.«data».now in
    same_out _ _ _ _ _ _ (ap (λ (x : Range). on_order a.chip a.c m a.f.now (over_blocks Checksum x)) (sym c.in-None.is ∙ c.blocks_named.ensures)) (c.refuse_information.ensures m)
