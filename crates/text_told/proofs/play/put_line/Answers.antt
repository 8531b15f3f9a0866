-- `text_told::play::put_line` meets its contract: each outcome of a step's line is a way out. Assumes nothing.
use mathlib.Core.Path.{◌≡◌, sym, ◌∙◌}
use native.Mathlib.Omega.{arith}
use Rattle.text_out.proofs.Appended.{add_none}
use Rattle.text_told.proofs.StepLines.{line_finished, line_none, line_stopped, line_not_begun}
use Rattle.text_told.proofs.play.put_line.Goals as goal

pub returns-then-i-report : goal.returns-then-i-report
returns-then-i-report c =
    let a = c.args in
    rw (
      c.put_step.ensures,
      c.entry_of-sum.ensures,
      c.entry_of-sent.ensures,
      c.step_at-t.ensures,
      line_finished a.chip a.sheet.now a.report a.sums.now a.frames.now a.i c.if-i-report.true,
    )

pub returns-then-report-i : goal.returns-then-report-i
returns-then-report-i c =
    let a = c.args in
    rw (line_none a.chip a.sheet.now a.report a.sums.now a.frames.now a.i c.if-report-i.true, add_none)

pub returns-then-is_stopped : goal.returns-then-is_stopped
returns-then-is_stopped c =
    let a = c.args in
    let last : a.i ≡ a.report.steps = omega arith in
    rw (
      c.put_step-then-is_stopped.ensures,
      c.entry_of-sent.ensures,
      c.step_at-t.ensures,
      line_stopped a.chip a.sheet.now a.report a.sums.now a.frames.now a.i last (sym c.is_stopped.ensures ∙ c.if-is_stopped.true),
    )

pub returns : goal.returns
returns c =
    let a = c.args in
    let last : a.i ≡ a.report.steps = omega arith in
    rw (line_not_begun a.chip a.sheet.now a.report a.sums.now a.frames.now a.i last (sym c.is_stopped.ensures ∙ c.if-is_stopped.false), add_none)
