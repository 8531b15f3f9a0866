-- `text_capture::heard::hear` meets its contract: by the sign of the line. Assumes nothing.
use mathlib.Core.Path.{sym, ap, ◌∙◌}
use mathlib.Core.List.{List}
use Prim.Native.Nat.{ℕ}
use Rattle.rules.specs.Chip.{same}
use Rattle.rules.specs.Lines.{row_bytes}
use Rattle.rules.specs.Capture.{Heard, given, hears}
use Rattle.rules.specs.StandIn.{received}
use Rattle.chip_finder.specs.LentFlashes.{memory}
use Rattle.standin_state.specs.declared.Core.{Core}
use Rattle.standin_engine.specs.View.{view}
use Rattle.text_session.proofs.Matches.{none_due}
use Rattle.text_capture.proofs.Hearing.{sent_state, sent_due, hears_power, hears_else}
use Rattle.text_capture.proofs.heard.hear.Goals as goal

pub returns-then-sign-eq62 : goal.returns-then-sign-eq62
returns-then-sign-eq62 c =
    let t = c.hear_row in
    let r = c.rest in
    let g = c.given_row-row in
    let a = c.args in
    let s = view a.c a.held.now (memory a.code.now a.«data».now) in
    let e = sym c.byte_at-sign.ensures ∙ c.if-sign-eq62.true in
    record {
      data_after = t.ensures.data_after ∙ sent_state a.chip s _ e _ r.ensures;
      right_value = t.ensures.right_value ∙ ap (λ (x : List ℕ). same x (row_bytes g.result.now)) (sent_due a.chip s _ e _ r.ensures) ∙ ap (λ (x : List ℕ). same (hears a.chip s a.before.now).due x) g.ensures;
    }

pub returns-then-sign-eq33 : goal.returns-then-sign-eq33
unfolding received
returns-then-sign-eq33 c =
    let a = c.args in
    let e = hears_power a.chip (view a.c a.held.now (memory a.code.now a.«data».now)) _ (sym c.byte_at-sign.ensures ∙ c.if-sign-eq33.true) in
    record {
      data_after = ap (λ (x : Core). view x a.held.now (memory a.code.now a.«data».now)) c.powered.ensures ∙ sym (ap (λ (h : Heard). h.state) e);
      right_value = none_due _ _ _ c.row_count-right.ensures c.given_row-row.ensures ∙ ap (λ (h : Heard). same h.due (given a.line.now)) (sym e);
    }

pub returns : goal.returns
returns c =
    let a = c.args in
    let y = c.byte_at-sign in
    let e = hears_else a.chip (view a.c a.held.now (memory a.code.now a.«data».now)) _ (λ q. c.if-sign-eq33.false (y.ensures ∙ q)) (λ q. c.if-sign-eq62.false (y.ensures ∙ q)) in
    record {
      data_after = sym (ap (λ (h : Heard). h.state) e);
      right_value = none_due _ _ _ c.row_count-right.ensures c.given_row-row.ensures ∙ ap (λ (h : Heard). same h.due (given a.line.now)) (sym e);
    }
