-- `chip_finder::parts_of` meets its contract: what is cut out at the place of the parts. Assumes nothing.
use mathlib.Core.Path.{sym}
use Rattle.chip_finder.proofs.Places.{placed, parts_cut, parts_none}
use Rattle.chip_finder.proofs.parts_of.Goals as goal

pub slice_bounds-result-count : goal.slice_bounds-result-count
slice_bounds-result-count c = (placed _ _ _ _ _ (sym c.in-Some.ensures)).forward

pub slice_bounds-result-start : goal.slice_bounds-result-start
slice_bounds-result-start c = (placed _ _ _ _ _ (sym c.in-Some.ensures)).forward

pub slice_bounds-result-end : goal.slice_bounds-result-end
slice_bounds-result-end c = (placed _ _ _ _ _ (sym c.in-Some.ensures)).room

pub returns-in-Some : goal.returns-in-Some
returns-in-Some c = parts_cut _ _ _ (placed _ _ _ _ _ (sym c.in-Some.ensures))

pub returns-in-None : goal.returns-in-None
returns-in-None c =
    sym (parts_none _ _ _ _ _ (sym c.in-None.ensures))
