-- `chip_options::change::window_set`: both window words, with the flag bytes as they were. Assumes nothing.
use Rattle.rules.specs.Options.{window_set}
use Rattle.chip_options.proofs.change.window_set.Goals as goal

pub returns : goal.returns
unfolding window_set
returns c = rw (c.window_word-2.ensures, c.window_word.ensures, c.window_block-2.ensures, c.window_flag-2.ensures, c.window_block.ensures, c.window_flag.ensures)
