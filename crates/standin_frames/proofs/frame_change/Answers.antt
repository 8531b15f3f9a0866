-- `standin_frames::frame_change` meets its contract: the refusals, then what a whole frame does. Assumes nothing.
use mathlib.Core.Path.{◌≡◌, refl, sym, ap, ◌∙◌}
use mathlib.Core.List.{List, ◌++◌}
use Prim.Native.Nat.{ℕ, ◌≤◌}
use native.Mathlib.Omega.{arith}
use lib.ListN.{length}
use lib.Seq.{length-take-le}
use Rattle.rules.specs.Answers.{Answer}
use Rattle.rules.specs.StandIn.{on_frame, answered}
use Rattle.chip_finder.specs.LentFlashes.{memory}
use borrow.Rule.Slice.PartMut.{post_of}
use Rattle.frame_build.specs.Buffer.{frame_in}
use Rattle.standin_state.specs.View.{idle}
use Rattle.standin_state.proofs.Lending.{lent_fits}
use Rattle.standin_state.proofs.Handed.{fits_taken}
use Rattle.standin_engine.specs.Answers.{Change, Refused}
use Rattle.standin_engine.specs.Change.{change_outcome}
use Rattle.standin_engine.proofs.Stays.{handed_on as refusal_handed_on}
use Rattle.standin_engine.specs.View.{view, call_outcome}
use Rattle.standin_engine.proofs.Receives.{none_got}
use Rattle.standin_frames.proofs.Frames.{frame_held, one_frame, not_lent, not_awaited_lem, handed_on}
use Rattle.standin_frames.proofs.frame_change.Goals as goal

pub returns-in_err-lent_verdict-clause-reply_after : goal.returns-in_err-lent_verdict-clause-reply_after
returns-in_err-lent_verdict-clause-reply_after c =
    let a = c.args in
    let m = memory a.code.now a.«data».now in
    let same : c.from_residual.result ≡ Refused _ = refusal_handed_on _ _ c.from_residual.ensures.1 in
    ap (λ (r : Change). change_outcome a.c r a.held.now m a.reply.now) same
    ∙ not_lent a.chip (view a.c a.held.now m) a.reply.now a.input.now _ (sym c.lent_verdict.ensures ∙ c.in_err-lent_verdict.was)

pub returns-then-not-is_awaited-clause-reply_after : goal.returns-then-not-is_awaited-clause-reply_after
returns-then-not-is_awaited-clause-reply_after c =
    not_awaited_lem _ _ _ _ (sym c.lent_verdict.ensures ∙ c.in_ok-lent_verdict.was) (sym c.if-not-is_awaited.ensures.value)

pub returns-clause-reply_after : goal.returns-clause-reply_after
returns-clause-reply_after c =
    let f = c.on_frame in
    let a = c.args in
    let k = f.result.core in
    let lent = memory a.code.now a.«data».now in
    let later = post_of 0 (length a.input.now) a.held.now in
    let held = c.copy.new.dst ++ later in
    let accepted = sym c.lent_verdict.ensures ∙ c.in_ok-lent_verdict.was in
    let asked = sym c.if-not-is_awaited.ensures.value in
    let most = c.if-not-is_awaited.ensures.input_len_bound refl in
    let room : length a.input.now ≤ length a.held.now = omega arith in
    let there = ap (λ (x : List ℕ). frame_in (x ++ later)) (c.copy.ensures.dst_after (length-take-le (length a.input.now) a.held.now room)) ∙ frame_held a.input.now later (one_frame _ _ _ _ _ asked) in
    let t = fits_taken a.chip a.code.now a.«data».now a.reply.now (lent_fits _ _ _ _ accepted) _ _ _ _ (idle a.c lent) _ f.ensures in
    ap
    (λ (g : List ℕ). call_outcome (record { phase = k.phase; task = k.task; options = k.options; got = g; memory = memory f.new.code f.new.«data» }) (Answer f.result.answered) f.result.note f.new.reply)
    (none_got k.have held t.1)
    ∙ t.0
    ∙ ap (λ (y : List ℕ). answered (on_frame a.chip (idle a.c lent) y) a.reply.now) there
    ∙ handed_on a.chip (view a.c a.held.now lent) a.reply.now a.input.now accepted asked
