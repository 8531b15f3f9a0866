-- `chip_finder::part_of` meets its contract: a run of one part. Assumes nothing.
use mathlib.Core.Path.{◌∙◌}
use Rattle.chip_finder.proofs.Places.{one_shown}
use Rattle.chip_finder.proofs.part_of.Goals as goal

pub returns : goal.returns
returns c = c.parts_of.ensures ∙ one_shown _ _ _ _
