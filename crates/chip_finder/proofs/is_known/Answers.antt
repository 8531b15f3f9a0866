-- `chip_finder::is_known` meets its contract: the one chip or the other. Assumes nothing.
use Rattle.rules.specs.Chip.{known}
use Rattle.chip_finder.proofs.is_known.Goals as goal

pub returns-then-same_counts : goal.returns-then-same_counts
unfolding known
returns-then-same_counts c = let e = rw c.small.ensures at c.same_counts.ensures in let t = c.if-same_counts.true in rw (t, ← e, t)

pub returns-else-same_counts : goal.returns-else-same_counts
unfolding known
returns-else-same_counts c = let e = rw c.small.ensures at c.same_counts.ensures in rw (← e, c.if-same_counts.false, c.same_counts-else-same_counts.ensures, c.large.ensures)
