-- `chip_options::change::security_set`: one bit after another, in the order of the definition. Assumes nothing.
use Rattle.rules.specs.Options.{security_set}
use Rattle.chip_options.proofs.change.security_set.Goals as goal

pub returns : goal.returns
unfolding security_set
returns c = rw (c.and_bit-5.ensures, c.and_bit-4.ensures, c.and_bit-3.ensures, c.and_bit-2.ensures, c.and_bit.ensures)
