-- `chip_options::protect::erase_protected`: protection by SEPR. Assumes nothing.
use Rattle.rules.specs.Options.{erase_protected}
use Rattle.chip_options.proofs.protect.erase_protected.Goals as goal

pub returns : goal.returns
unfolding erase_protected
returns c = rw (c.protected.ensures, c.in_boot_cluster.ensures, c.sepr.ensures)
