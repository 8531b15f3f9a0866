-- `standin_command::on_command` meets its contract: taken where what is lent fits, and answered in the first bytes of the reply buffer. Assumes nothing.
use mathlib.Core.Path.{sym, ◌∙◌}
use native.Mathlib.Omega.{arith}
use Rattle.rules.specs.StandIn.{on_command}
use Rattle.chip_finder.specs.LentFlashes.{memory}
use Rattle.frame_build.specs.Buffer.{frame_in}
use Rattle.standin_state.specs.View.{idle}
use Rattle.standin_state.proofs.Lending.{lent_fits}
use Rattle.standin_state.proofs.Handed.{stands, taken, came_in_room, room_fits}
use Rattle.standin_command.proofs.Answers.{command_short}
use Rattle.standin_command.proofs.on_command.Goals as goal

pub returns-in-Err : goal.returns-in-Err
returns-in-Err c = stands _ _ _ _ _ _ _ _ (sym c.in-Err.is ∙ c.lent_verdict.ensures) (c.unanswered-in-Err.ensures _ _)

pub judged-requires : goal.judged-requires
judged-requires c =
    let f = lent_fits _ _ _ _ (sym c.lent_verdict.ensures ∙ c.in-Ok.is) in
    room_fits _ _ f.room c.in-Some.ensures.cases.same _ _ _ f

pub returns-in-None : goal.returns-in-None
returns-in-None c =
    let f = lent_fits _ _ _ _ (sym c.lent_verdict.ensures ∙ c.in-Ok.is) in
    absurd (omega (arith, f.room, c.in-None.ensures.cases))

pub returns-in-Some : goal.returns-in-Some
returns-in-Some c =
    let a = c.args in
    let s = idle a.c (memory a.code.now a.«data».now) in
    let x = on_command a.chip s (frame_in a.frame.now) in
    let m = memory c.judged.new.code c.judged.new.«data» in
    let f = lent_fits _ _ _ _ (sym c.lent_verdict.ensures ∙ c.in-Ok.is) in
    taken _ _ _ _ _ _ _ (sym c.in-Ok.is ∙ c.lent_verdict.ensures) (came_in_room _ _ f.room c.in-Some.ensures.cases.same _ m x _ (command_short a.chip s (frame_in a.frame.now)) c.judged.ensures)
