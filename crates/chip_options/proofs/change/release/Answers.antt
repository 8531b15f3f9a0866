-- `chip_options::change::release`: one bit after another, in the order of the definition, and both window words. Assumes nothing.
use Rattle.rules.specs.Options.{release}
use Rattle.chip_options.proofs.change.release.Goals as goal

pub returns : goal.returns
unfolding release
returns c = rw (c.window_word-2.ensures, c.window_word.ensures, c.with_bit-6.ensures, c.with_bit-5.ensures, c.with_bit-4.ensures, c.with_bit-3.ensures, c.with_bit-2.ensures, c.with_bit.ensures)
