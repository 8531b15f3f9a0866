-- `text_capture::told::put_verdict` meets its contract: by its case. Assumes nothing.
use mathlib.Core.Path.{ap, ◌∙◌}
use Rattle.std.specs.Prelude.{Err}
use Rattle.rules.specs.CaptureVerdicts.{Accepted, Wrong, BadForm, Refused}
use Rattle.text_capture.specs.Told.{verdict_told}
use Rattle.text_capture.proofs.Telling.{told_as}
use Rattle.text_capture.proofs.told.put_verdict.Goals as goal

pub returns-in_default : goal.returns-in_default
unfolding verdict_told
returns-in_default c = told_as _ Accepted c.in_default.is _ c.args.buf.now _ c.put_bytes.ensures

pub returns-in-Wrong : goal.returns-in-Wrong
unfolding verdict_told
returns-in-Wrong c = told_as _ (Wrong c.in-Wrong.n) (c.in-Err.is ∙ ap Err c.in-Wrong.is) _ c.args.buf.now _ c.put_line.ensures

pub returns-in-BadForm : goal.returns-in-BadForm
unfolding verdict_told
returns-in-BadForm c = told_as _ (BadForm c.in-BadForm.n) (c.in-Err.is ∙ ap Err c.in-BadForm.is) _ c.args.buf.now _ c.put_line-in-BadForm.ensures

pub returns-in-Refused : goal.returns-in-Refused
unfolding verdict_told
returns-in-Refused c = told_as _ (Refused c.in-Refused.refusal) (c.in-Err.is ∙ ap Err c.in-Refused.is) _ c.args.buf.now _ c.put_refused.ensures.0
