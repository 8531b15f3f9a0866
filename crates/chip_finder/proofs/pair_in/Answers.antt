-- `chip_finder::pair_in` meets its contract: one law for each answer. Assumes nothing.
use Rattle.std.proofs.Common.{sym, ◌∙◌}
use Rattle.chip_finder.proofs.Spots.{pair_turned, pair_no_first, pair_no_last, pair_both}
use Rattle.chip_finder.proofs.pair_in.Goals as goal

pub returns-then-ead-sad : goal.returns-then-ead-sad
returns-then-ead-sad c = sym (pair_turned _ _ _ _ c.if-ead-sad.true)

pub returns-in_err-first : goal.returns-in_err-first
returns-in_err-first c = c.from_residual.ensures ∙ sym (pair_no_first _ _ _ _ (sym c.in_err-first.ensures))

pub returns-in_err-last : goal.returns-in_err-last
returns-in_err-last c =
    c.from_residual-in_err-last.ensures
    ∙ sym (pair_no_last _ _ _ _ (rw c.last_offset.ensures at (sym c.in_err-last.ensures)))

pub returns : goal.returns
returns c =
    sym
    (pair_both _ _ _ _ _ _ _ _ c.if-ead-sad.false (sym c.in_ok-first.ensures)
    (rw c.last_offset.ensures at (sym c.in_ok-last.ensures)))
