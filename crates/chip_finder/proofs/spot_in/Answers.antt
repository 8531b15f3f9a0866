-- `chip_finder::spot_in` meets its contract: one law for each answer. Assumes nothing.
use Rattle.std.proofs.Common.{sym, ◌∙◌, arith}
use Rattle.chip_finder.proofs.Spots.{spot_before, spot_past, spot_inside}
use Rattle.chip_finder.proofs.spot_in.Goals as goal

pub returns-in_err-o : goal.returns-in_err-o
returns-in_err-o c = c.from_residual.ensures ∙ sym (spot_before _ _ _ _ (omega (arith, c.in_err-o.ensures)))

pub returns-then-o-count : goal.returns-then-o-count
returns-then-o-count c =
    let o = c.in_ok-o.ensures in
    rw o.1 (sym (spot_inside _ _ _ _ o.0 (rw o.1 at c.if-o-count.true)))

pub returns : goal.returns
returns c =
    let o = c.in_ok-o.ensures in
    sym (spot_past _ _ _ _ o.0 (rw o.1 at c.if-o-count.false))
