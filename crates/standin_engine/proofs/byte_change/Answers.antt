-- `standin_engine::byte_change` meets its contract. Assumes nothing.
use mathlib.Core.Path.{◌≡◌, refl, sym, ap, ◌∙◌}
use mathlib.Core.List.{List}
use Prim.Native.Nat.{ℕ}
use Rattle.rules.specs.Notes.{Empty}
use Rattle.rules.specs.declared.Phase.{Phase}
use Rattle.rules.specs.declared.Task.TheVariants.{Idle}
use Rattle.rules.specs.Answers.{Answer}
use Rattle.rules.specs.StandIn.{Out, answered, rest, received, after_mode}
use Rattle.chip_finder.specs.LentFlashes.{memory}
use Rattle.standin_state.specs.declared.Core.{Core}
use Rattle.standin_state.specs.View.{resting, idle, Fits}
use Rattle.standin_state.proofs.Handed.{fits_taken}
use Rattle.standin_state.proofs.Lending.{lent_fits}
use Rattle.standin_engine.specs.View.{view, call_outcome}
use Rattle.standin_engine.specs.Answers.{Change, Refused}
use Rattle.standin_engine.specs.Change.{change_outcome}
use Rattle.standin_engine.proofs.Stays.{handed_on}
use Rattle.standin_engine.proofs.Receives.{refused_byte, taken, unanswered, silent_phase, mode_phase, only_mode, takes_frames, frame_step, none_got}
use Rattle.standin_engine.proofs.byte_change.Goals as goal

pub returns-in_err-lent_verdict-clause-reply_after : goal.returns-in_err-lent_verdict-clause-reply_after
returns-in_err-lent_verdict-clause-reply_after c =
    let a = c.args in
    let m = memory a.code.now a.«data».now in
    let same : c.from_residual.result ≡ Refused _ = handed_on _ _ c.from_residual.ensures.1 in
    ap (λ (r : Change). change_outcome a.c r a.held.now m a.reply.now) same
    ∙ refused_byte a.chip (view a.c a.held.now m) a.byte a.reply.now _ (sym c.lent_verdict.ensures ∙ c.in_err-lent_verdict.was)

pub returns-in-Silent-clause-reply_after : goal.returns-in-Silent-clause-reply_after
returns-in-Silent-clause-reply_after c =
    let a = c.args in
    let v = view a.c a.held.now (memory a.code.now a.«data».now) in
    unanswered v a.reply.now
    ∙ ap (λ (o : Out). answered o a.reply.now) (silent_phase a.chip v a.byte c.in-Silent.is)
    ∙ taken a.chip v a.byte a.reply.now (sym c.lent_verdict.ensures ∙ c.in_ok-lent_verdict.was)

pub returns-in_default-clause-reply_after : goal.returns-in_default-clause-reply_after
unfolding received
returns-in_default-clause-reply_after c =
    let a = c.args in
    let m = memory a.code.now a.«data».now in
    let v = view a.c a.held.now m in
    ap (λ (k : Core). call_outcome (view k a.held.now m) (Answer 0) Empty a.reply.now) (c.at_rest.ensures ∙ ap (λ (p : Phase). resting p Idle a.c.options) c.after_mode.ensures)
    ∙ unanswered (rest (after_mode a.byte) Idle a.c.options m) a.reply.now
    ∙ ap (λ (o : Out). answered o a.reply.now) (mode_phase a.chip v a.byte (only_mode a.c.phase (sym c.listens.ensures ∙ c.if-not-listens.true) c.in_default.not-Silent))
    ∙ taken a.chip v a.byte a.reply.now (sym c.lent_verdict.ensures ∙ c.in_ok-lent_verdict.was)

pub returns-in-Some : goal.returns-in-Some
returns-in-Some c =
    let a = c.args in
    let v = view a.c a.held.now (memory a.code.now a.«data».now) in
    let frames = takes_frames a.c.phase (sym c.listens.ensures ∙ c.if-not-listens.false) in record {
      reply_after =
          c.in-Some.ensures v.memory a.reply.now
          ∙ ap (λ (o : Out). answered o a.reply.now) (frame_step a.chip v a.byte frames.0 frames.1)
          ∙ taken a.chip v a.byte a.reply.now (sym c.lent_verdict.ensures ∙ c.in_ok-lent_verdict.was);
      stands = λ refused. absurd (refused refl);
    }

pub returns : goal.returns
returns c =
    let a = c.args in
    let m = memory a.code.now a.«data».now in
    let v = view a.c a.held.now m in
    let f = c.on_frame in
    let accepted = sym c.lent_verdict.ensures ∙ c.in_ok-lent_verdict.was in
    let frames = takes_frames a.c.phase (sym c.listens.ensures ∙ c.if-not-listens.false) in
    let lent : Fits a.chip a.code.now a.«data».now a.reply.now = lent_fits _ _ _ _ accepted in
    let t = fits_taken _ _ _ _ lent _ _ _ _ (idle a.c m) _ f.ensures in record {
      reply_after =
          ap
          (λ (g : List ℕ). call_outcome (record { phase = f.result.core.phase; task = f.result.core.task; options = f.result.core.options; got = g; memory = memory f.new.code f.new.«data» }) (Answer f.result.answered) f.result.note f.new.reply)
          (none_got f.result.core.have c.receive.new.held t.1)
          ∙ t.0
          ∙ ap (λ (o : Out). answered o a.reply.now) (c.in_default-receive.ensures m ∙ frame_step a.chip v a.byte frames.0 frames.1)
          ∙ taken a.chip v a.byte a.reply.now accepted;
      stands = λ refused. absurd (refused refl);
    }
