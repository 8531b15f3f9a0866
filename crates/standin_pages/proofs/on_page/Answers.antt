-- `standin_pages::on_page` meets its contract: taken where what is lent fits and a page is left. Assumes nothing.
use mathlib.Core.Path.{sym, ◌∙◌}
use mathlib.Core.Bool.{cond}
use native.Mathlib.Omega.{arith}
use Rattle.rules.specs.StandIn.{ahead, on_page}
use Rattle.chip_finder.specs.LentFlashes.{memory}
use Rattle.frame_build.specs.Buffer.{frame_in}
use Rattle.standin_state.specs.View.{idle, unanswered}
use Rattle.standin_state.proofs.Lending.{lent_fits}
use Rattle.standin_state.proofs.Handed.{stands, page_taken, no_page, came_in_room, room_fits}
use Rattle.standin_pages.proofs.DataFrames.{page_short}
use Rattle.standin_pages.proofs.on_page.Goals.{in_default-via-in-Ok+else-ahead, in_default-via-in_default}
use Rattle.standin_pages.proofs.on_page.Goals as goal

pub program-requires : goal.program-requires
program-requires c =
    let f = lent_fits _ _ _ _ (sym c.lent_verdict.ensures ∙ c.in-Ok.is) in
    (sym c.ahead.ensures ∙ c.if-ahead.true, room_fits _ _ f.room c.in-Some.ensures.cases.same _ _ _ f)

pub returns-in-Some : goal.returns-in-Some
returns-in-Some c =
    let a = c.args in
    let s = idle a.c (memory a.code.now a.«data».now) in
    let x = on_page a.p s (frame_in a.frame.now) in
    let f = lent_fits _ _ _ _ (sym c.lent_verdict.ensures ∙ c.in-Ok.is) in
    let came = came_in_room _ _ f.room c.in-Some.ensures.cases.same _ (memory c.program.new.code c.program.new.«data») x _ (page_short a.p s (frame_in a.frame.now)) c.program.ensures in
    page_taken _ _ _ _ s _ x a.chip a.p (sym c.in-Ok.is ∙ c.lent_verdict.ensures) (sym c.ahead.ensures ∙ c.if-ahead.true) came

pub returns-in-None : goal.returns-in-None
returns-in-None c =
    let f = lent_fits _ _ _ _ (sym c.lent_verdict.ensures ∙ c.in-Ok.is) in
    absurd (omega (arith, f.room, c.in-None.ensures.cases))

pub returns-in_default : goal.returns-in_default
returns-in_default c =
    let a = c.args in
    let s = idle a.c (memory a.code.now a.«data».now) in
    let x = on_page a.p s (frame_in a.frame.now) in
    elim c.in_default.branch [
      | in_default-via-in-Ok+else-ahead w ↦ no_page _ _ _ _ s _ x a.chip a.p (sym w.in-Ok.is ∙ c.lent_verdict.ensures) (sym w.ahead.ensures ∙ w.if-ahead.false) (c.unanswered-in_default.ensures _ _)
      | in_default-via-in_default w ↦ stands _ _ _ _ s _ (cond (ahead a.chip a.p) x (unanswered s)) _ (sym w.in_default.is ∙ c.lent_verdict.ensures) (c.unanswered-in_default.ensures _ _)
    ]
