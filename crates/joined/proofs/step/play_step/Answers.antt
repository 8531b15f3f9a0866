-- `joined::step::play_step` meets its contract: it is played, or told why not. Assumes nothing.
use mathlib.Core.Path.{refl, sym, ap, ◌∙◌}
use Rattle.rules.specs.Run.{Joined}
use Rattle.joined.specs.Rigs.{rigged}
use Rattle.joined.specs.Plays.{answer_number, outcome, Outcome}
use Rattle.joined.specs.Answers.{Played}
use Rattle.joined.proofs.Calls.{plays, step_asked, step_not, step_played_lem, starts}
use Rattle.joined.proofs.step.play_step.Goals as goal

pub returns-in-Err : goal.returns-in-Err
returns-in-Err c =
    let a = c.args in
    let start : Joined =
    rigged (record { player = a.p; core = a.c; arrived = 0 }) a.held.now a.code.now a.«data».now a.reply.now a.frame.now a.sums.now in
    let o = step_not a.chip a.sheet.now start _ (step_asked a.chip a.sheet.now start _ c.lent_sizes-lent.ensures _ c.starts_step-starts.ensures _ (c.in-Err.ensures _)) in record {
      sums_after = o;
      answer_value = ap (λ (x : Outcome). answer_number x.answer) o;
      stands = λ n. refl;
    }

pub step_through-end-requires : goal.step_through-end-requires
step_through-end-requires c =
    let a = c.args in
    let start : Joined =
    rigged (record { player = a.p; core = a.c; arrived = 0 }) a.held.now a.code.now a.«data».now a.reply.now a.frame.now a.sums.now in
    starts a.chip a.sheet.now start
    (plays _ _ _ (sym (step_asked a.chip a.sheet.now start _ c.lent_sizes-lent.ensures _ c.starts_step-starts.ensures _ (c.in_default.ensures _))))

pub returns : goal.returns
returns c =
    let a = c.args in
    let start : Joined =
    rigged (record { player = a.p; core = a.c; arrived = 0 }) a.held.now a.code.now a.«data».now a.reply.now a.frame.now a.sums.now in
    let played = plays _ _ _ (sym (step_asked a.chip a.sheet.now start _ c.lent_sizes-lent.ensures _ c.starts_step-starts.ensures _ (c.in_default.ensures _))) in
    let o = ap (outcome Played) c.step_through-end.ensures ∙ sym (step_played_lem a.chip a.sheet.now start played) in record {
      sums_after = o;
      answer_value = ap (λ (x : Outcome). answer_number x.answer) o;
      stands = λ n. absurd (n refl);
    }
