-- `chip_options::read::shown_sws`: the block that is shown, and FSPR. Assumes nothing.
use Rattle.rules.specs.Options.{shownSWS}
use Rattle.chip_options.proofs.read.shown_sws.Goals as goal

pub returns : goal.returns
unfolding shownSWS
returns c = rw (c.shown_word.ensures, c.fspr.ensures, c.shown_fsws.ensures)
