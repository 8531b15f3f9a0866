-- `chip_options::read::shown_fswe`: the window's last block as it reads back. Assumes nothing.
use Rattle.rules.specs.Options.{shownFSWE}
use Rattle.chip_options.proofs.read.shown_fswe.Goals as goal

pub returns : goal.returns
unfolding shownFSWE
returns c = rw (c.shown_end.ensures, c.last_code_block-last.ensures, c.fswe.ensures)
