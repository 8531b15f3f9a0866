-- `standin_engine::frames::on_frame` meets its contract. Assumes nothing.
use Rattle.rules.specs.StandIn.{on_command, on_page, on_compare}
use Rattle.chip_finder.specs.LentFlashes.{memory}
use Rattle.frame_build.specs.Buffer.{frame_in}
use Rattle.standin_state.specs.View.{idle}
use Rattle.standin_state.proofs.Handed.{handed_as, page_handed}
use Rattle.standin_engine.proofs.Begun.{begun_ahead, as_command, as_page, as_compare}
use Rattle.standin_engine.proofs.frames.on_frame.Goals as goal

pub returns-in-Idle : goal.returns-in-Idle
returns-in-Idle c =
    let a = c.args in
    let s = idle a.c (memory a.code.now a.«data».now) in
    let f = frame_in a.frame.now in
    handed_as _ _ _ _ s _ (on_command a.chip s f) _ (as_command a.chip s f _ c.task_now.ensures c.in-Idle.is) c.on_command.ensures

pub returns-in-Programming : goal.returns-in-Programming
returns-in-Programming c =
    let a = c.args in
    let s = idle a.c (memory a.code.now a.«data».now) in
    let f = frame_in a.frame.now in
    let e = c.task_now.ensures in
    let p = c.in-Programming.p in
    let q = c.in-Programming.is in
    handed_as _ _ _ _ s _ (on_page p s f) _ (as_page a.chip s f _ e p q) (page_handed _ _ _ _ s _ (on_page p s f) a.chip p (begun_ahead _ _ _ _ _ e q) c.on_page.ensures)

pub returns-in-Verifying : goal.returns-in-Verifying
returns-in-Verifying c =
    let a = c.args in
    let s = idle a.c (memory a.code.now a.«data».now) in
    let f = frame_in a.frame.now in
    let e = c.task_now.ensures in
    let p = c.in-Verifying.p in
    let q = c.in-Verifying.is in
    handed_as _ _ _ _ s _ (on_compare p s f) _ (as_compare a.chip s f _ e p q) (page_handed _ _ _ _ s _ (on_compare p s f) a.chip p (begun_ahead _ _ _ _ _ e q) c.on_compare.ensures)
