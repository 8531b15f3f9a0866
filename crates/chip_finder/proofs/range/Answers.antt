-- `chip_finder::range` meets its contract: code flash first, then data flash. Assumes nothing.
use Rattle.std.proofs.Common.{◌∙◌, rules}
use Rattle.chip_finder.specs.OneFlash.{pair_of}
use Rattle.rules.specs.declared.Flash.TheVariants.{Data}
use Rattle.chip_finder.proofs.Spots.{or_else_is, range_either}
use Rattle.chip_finder.proofs.range.Goals as goal

pub returns : goal.returns
returns c =
    let a = c.args in
    let other = pair_of a.chip Data a.sad a.ead in
    or_else_is c.pair_in.result other c.or_else.result c.or_else.ensures (λ e. search rules) ∙ rw c.pair_in.ensures (range_either a.chip a.sad a.ead)
