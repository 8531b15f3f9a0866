-- `chip_finder::erase_address` meets its contract: code flash first, then data flash. Assumes nothing.
use Rattle.std.proofs.Common.{◌∙◌, rules}
use Rattle.chip_finder.specs.OneFlash.{byte_in}
use Rattle.rules.specs.declared.Flash.TheVariants.{Data}
use Rattle.chip_finder.proofs.Spots.{or_else_is, erase_either}
use Rattle.chip_finder.proofs.erase_address.Goals as goal

pub returns : goal.returns
returns c =
    let a = c.args in
    let other = byte_in a.chip Data 0 a.a in
    or_else_is c.byte_in.result other c.or_else.result c.or_else.ensures (λ e. search rules) ∙ rw c.byte_in.ensures (erase_either a.chip a.a)
