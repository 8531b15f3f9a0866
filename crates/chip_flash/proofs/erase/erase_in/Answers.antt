-- `chip_flash::erase::erase_in` meets its contract: one law for each outcome. Assumes nothing.
use mathlib.Core.Path.{sym, ◌∙◌}
use Rattle.chip_finder.proofs.Places.{placed}
use Rattle.chip_flash.proofs.Writes.{erased_there, erased_missing}
use Rattle.chip_flash.proofs.erase.erase_in.Goals as goal

pub returns-in_default : goal.returns-in_default
returns-in_default c = erased_missing _ _ _ _ (sym c.block_place.ensures ∙ c.in_default.is)

pub slice_bounds-fill-count : goal.slice_bounds-fill-count
slice_bounds-fill-count c = (placed _ _ _ _ _ (sym c.in-Some.ensures)).forward

pub slice_bounds-fill-start : goal.slice_bounds-fill-start
slice_bounds-fill-start c = (placed _ _ _ _ _ (sym c.in-Some.ensures)).forward

pub slice_bounds-fill-end : goal.slice_bounds-fill-end
slice_bounds-fill-end c = (placed _ _ _ _ _ (sym c.in-Some.ensures)).room

pub returns : goal.returns
returns c = erased_there _ _ _ _ (placed _ _ _ _ _ (sym c.in-Some.ensures)) _ c.fill.ensures
