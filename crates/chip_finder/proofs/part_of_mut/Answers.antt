-- `chip_finder::part_of_mut` meets its contract: what is cut out at the place of the part. Assumes nothing.
use mathlib.Core.Path.{sym, ◌∙◌}
use Rattle.chip_finder.proofs.Places.{placed, parts_cut, parts_none, one_shown}
use Rattle.chip_finder.proofs.part_of_mut.Goals as goal

pub slice_bounds-result-count : goal.slice_bounds-result-count
slice_bounds-result-count c = (placed _ _ _ _ _ (sym c.in-Some.ensures)).forward

pub slice_bounds-flash-start : goal.slice_bounds-flash-start
slice_bounds-flash-start c = (placed _ _ _ _ _ (sym c.in-Some.ensures)).forward

pub slice_bounds-flash-end : goal.slice_bounds-flash-end
slice_bounds-flash-end c = (placed _ _ _ _ _ (sym c.in-Some.ensures)).room

pub returns-in-Some : goal.returns-in-Some
returns-in-Some c = parts_cut _ _ _ (placed _ _ _ _ _ (sym c.in-Some.ensures)) ∙ one_shown _ _ _ _

pub returns-in-None : goal.returns-in-None
returns-in-None c =
    sym (parts_none _ _ _ _ _ (sym c.in-None.ensures)) ∙ one_shown _ _ _ _
