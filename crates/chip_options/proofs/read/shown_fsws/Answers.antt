-- `chip_options::read::shown_fsws`: the window's first block as it reads back. Assumes nothing.
use Rattle.rules.specs.Options.{shownFSWS}
use Rattle.chip_options.proofs.read.shown_fsws.Goals as goal

pub returns : goal.returns
unfolding shownFSWS
returns c = rw (c.shown_end.ensures, c.fsws.ensures)
