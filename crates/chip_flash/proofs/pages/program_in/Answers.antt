-- `chip_flash::pages::program_in` meets its contract: one law for each outcome. Assumes nothing.
use mathlib.Core.Path.{sym, ap, ◌∙◌}
use native.Mathlib.Omega.{arith}
use lib.ListN.{length}
use Rattle.chip_finder.proofs.Places.{placed, cut_length}
use Rattle.chip_flash.proofs.Writes.{program_missing, program_left, program_done}
use Rattle.chip_flash.proofs.pages.program_in.Goals as goal

pub returns-in_default : goal.returns-in_default
returns-in_default c = program_missing _ _ _ _ _ (sym c.page_place.ensures ∙ c.in_default.is)

pub slice_bounds-page_status-count : goal.slice_bounds-page_status-count
slice_bounds-page_status-count c = (placed _ _ _ _ _ (sym c.in-Some.ensures)).forward

pub slice_bounds-page_status-start : goal.slice_bounds-page_status-start
slice_bounds-page_status-start c = (placed _ _ _ _ _ (sym c.in-Some.ensures)).forward

pub slice_bounds-page_status-end : goal.slice_bounds-page_status-end
slice_bounds-page_status-end c = (placed _ _ _ _ _ (sym c.in-Some.ensures)).room

pub returns-then-status-ne6 : goal.returns-then-status-ne6
returns-then-status-ne6 c = program_left _ _ _ _ _ (placed _ _ _ _ _ (sym c.in-Some.ensures)) _ c.page_status-status.ensures c.if-status-ne6.true

pub slice_bounds-part-count : goal.slice_bounds-part-count
slice_bounds-part-count c = let p = placed _ _ _ _ _ (sym c.in-Some.ensures) in omega (arith, p.forward, p.room)

pub slice_bounds-part-start : goal.slice_bounds-part-start
slice_bounds-part-start c = let p = placed _ _ _ _ _ (sym c.in-Some.ensures) in omega (arith, p.forward, p.room)

pub slice_bounds-part-end : goal.slice_bounds-part-end
slice_bounds-part-end c = let p = placed _ _ _ _ _ (sym c.in-Some.ensures) in omega (arith, p.forward, p.room)

pub returns : goal.returns
returns c =
    let p = placed _ _ _ _ _ (sym c.in-Some.ensures) in
    let s = cut_length _ _ _ p in
    let h = c.page_for_writing-page.ensures.value s in
    let l = ap length (ap (λ x. x.now) h) ∙ s ∙ sym c.body_of-body.ensures.result_len in
    program_done _ _ _ _ _ p _ c.page_status-status.ensures c.if-status-ne6.false _
    (c.part-2-1.given.1.0 (sym (ap (λ x. x.ghost_name) h)) ∙ c.copy.ensures.dst_after l ∙ c.body_of-body.ensures.result_value)
