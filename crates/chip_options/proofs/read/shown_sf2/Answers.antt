-- `chip_options::read::shown_sf2`: the sum of the named bits of SF2. Assumes nothing.
use Rattle.rules.specs.Options.{shownSF2}
use Rattle.chip_options.proofs.read.shown_sf2.Goals as goal

pub returns : goal.returns
unfolding shownSF2
returns c = rw (c.cmpr.ensures, c.swpr.ensures, c.ifpr.ensures, c.iden.ensures)
