-- `chip_options::read::shown_swe`: the block that is shown, and FSWC. Assumes nothing.
use Rattle.rules.specs.Options.{shownSWE}
use Rattle.chip_options.proofs.read.shown_swe.Goals as goal

pub returns : goal.returns
unfolding shownSWE
returns c = rw (c.shown_word.ensures, c.fswc.ensures, c.shown_fswe.ensures)
