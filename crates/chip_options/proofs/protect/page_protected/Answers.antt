-- `chip_options::protect::page_protected`: protection by WRPR. Assumes nothing.
use Rattle.rules.specs.Options.{write_protected}
use Rattle.chip_options.proofs.protect.page_protected.Goals as goal

pub returns : goal.returns
unfolding write_protected
returns c = rw (c.protected.ensures, c.page_in_boot_cluster.ensures, c.wrpr.ensures)
