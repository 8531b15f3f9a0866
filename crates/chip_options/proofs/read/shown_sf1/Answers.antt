-- `chip_options::read::shown_sf1`: the sum of the named bits of SF1 and BTFLG. Assumes nothing.
use Rattle.rules.specs.Options.{shownSF1}
use Rattle.chip_options.proofs.read.shown_sf1.Goals as goal

pub returns : goal.returns
unfolding shownSF1
returns c = rw (c.wrpr.ensures, c.sepr.ensures, c.btpr.ensures)
