-- `text_capture::look_at_lines` meets its contract: the lines from `at` on decide, once the line before them is heard. Assumes nothing.
use mathlib.Core.Path.{refl, sym, ap, ◌∙◌}
use Prim.Native.Nat.{◌+◌, ◌-◌}
use native.Mathlib.Omega.{arith}
use lib.ListN.{take, drop}
use Rattle.rules.specs.CaptureVerdicts.{Accepted, Wrong, BadForm}
use Rattle.rules.specs.StandIn.{State}
use Rattle.rules.specs.Capture.{looked, hears}
use Rattle.chip_finder.specs.LentFlashes.{memory}
use Rattle.standin_engine.specs.View.{view}
use Rattle.text_capture.proofs.Judging.{onward, ends_within, fits_as, from_rest, judge_end, judge_missing, judge_unended, judge_bad, judge_wrong, judge_more}
use borrow.Author.Rules.{rules}
use Rattle.text_capture.proofs.look_at_lines.Goals as goal
use Rattle.text_capture.proofs.look_at_lines.Goals.{then-end-text-via-then-end-text, then-end-text-via-else-end-text+then-not-is_line}

pub loop-at-init : goal.loop-at-init
unfolding hears
loop-at-init c = (omega arith, omega arith, refl, refl, omega arith, refl)

pub returns-then-end-text : goal.returns-then-end-text
returns-then-end-text c =
    let h = c.hear-h in
    let e = c.line_end-end in
    let l = c.loop-at in
    let from = ap (looked (BadForm (l.done + 1))) h.ensures.data_after in
    elim c.then-end-text.branch [
      | then-end-text-via-then-end-text w ↦
          from ∙ sym (from_rest _ _ _ _ _ _ c.at_rest-core.ensures ∙ l.invariant.5 ∙ judge_unended _ _ l.at l.done _ e.result e.ensures c.loop-at-test.true (omega (arith, w.if-end-text.true)))
      | then-end-text-via-else-end-text+then-not-is_line w ↦
          from ∙ sym (from_rest _ _ _ _ _ _ c.at_rest-core.ensures ∙ l.invariant.5 ∙ judge_bad _ _ l.at l.done _ e.result e.ensures (omega (arith, w.if-end-text.false)) (sym w.is_line.ensures ∙ w.if-not-is_line.true))
    ]

pub returns-then-not-fits : goal.returns-then-not-fits
returns-then-not-fits c =
    let h = c.hear-h in
    let e = c.line_end-end in
    let l = c.loop-at in
    ap (looked (Wrong (l.done + 1))) h.ensures.data_after ∙ sym (from_rest _ _ _ _ _ _ c.at_rest-core.ensures ∙ l.invariant.5 ∙ judge_wrong _ _ l.at l.done _ e.result e.ensures (omega (arith, c.if-end-text.false)) (sym c.is_line.ensures ∙ c.if-not-is_line.false) (fits_as _ _ _ _ h.ensures.right_value ∙ sym c.fits.ensures ∙ c.if-not-fits.true))

pub loop-at-preserved : goal.loop-at-preserved
loop-at-preserved c =
    let h = c.hear-h in
    let e = c.line_end-end in
    let l = c.loop-at in
    let a = c.args in
    let t = a.text.now in
    let before = hears a.chip (view l.core l.held (memory l.code l.«data»)) l.before.now in
    (omega arith, omega (arith, e.ensures, l.invariant.1), search rules, search rules, l.invariant.4, l.invariant.5 ∙ judge_more a.chip t l.at l.done before e.result e.ensures (omega (arith, c.if-end-text.false)) (sym c.is_line.ensures ∙ c.if-not-is_line.false) (fits_as _ _ _ _ h.ensures.right_value ∙ sym c.fits.ensures ∙ c.if-not-fits.false) ∙ ap (λ (s : State). onward a.chip t (e.result + 1) (l.done + 1) (hears a.chip s (take (e.result - l.at) (drop l.at t)))) (sym h.ensures.data_after))

pub returns-then-not-fits-2 : goal.returns-then-not-fits-2
returns-then-not-fits-2 c =
    let h = c.hear-h-2 in
    let l = c.loop-at in
    ap (looked (Wrong (l.done + 1))) h.ensures.data_after ∙ sym (from_rest _ _ _ _ _ _ c.at_rest-core.ensures ∙ l.invariant.5 ∙ judge_missing _ _ l.at l.done _ (omega (arith, c.loop-at-test.false)) (fits_as _ _ _ _ h.ensures.right_value ∙ sym c.fits-2.ensures ∙ c.if-not-fits-2.true))

pub returns : goal.returns
returns c =
    let h = c.hear-h-2 in
    let l = c.loop-at in
    ap (looked Accepted) h.ensures.data_after ∙ sym (from_rest _ _ _ _ _ _ c.at_rest-core.ensures ∙ l.invariant.5 ∙ judge_end _ _ l.at l.done _ (omega (arith, c.loop-at-test.false)) (fits_as _ _ _ _ h.ensures.right_value ∙ sym c.fits-2.ensures ∙ c.if-not-fits-2.false))

pub slice_bounds-line-end : goal.slice_bounds-line-end
slice_bounds-line-end c =
    let e = c.line_end-end in
    let l = c.loop-at in
    ends_within _ l.at e.result e.ensures l.invariant.0
