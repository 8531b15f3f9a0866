-- `text_serve::log::put_turn` meets its contract: the line of what was sent, and the answer's where there is one. Assumes nothing.
use mathlib.Core.Path.{ap, ◌∙◌}
use Rattle.rules.specs.Capture.{given_sign}
use Rattle.text_out.specs.Out.{Out, out, add}
use Rattle.text_out.proofs.Appended.{filled}
use Rattle.text_serve.specs.Log.{line_told}
use Rattle.text_serve.proofs.Telling.{told_alone, told_both}
use Rattle.text_serve.proofs.log.put_turn.Goals as goal

pub returns-then-answer-eq0 : goal.returns-then-answer-eq0
returns-then-answer-eq0 c =
    let a = c.args in
    filled _ _ _ _ (c.put_line-at.ensures ∙ told_alone a.sent.now a.answer.now (out 0 a.buf.now) c.if-answer-eq0.true)

pub returns : goal.returns
returns c =
    let a = c.args in
    filled _ _ _ _
    (c.put_line.ensures
    ∙ ap (λ (o : Out). add (line_told given_sign a.answer.now) o) c.put_line-at.ensures
    ∙ told_both a.sent.now a.answer.now (out 0 a.buf.now) c.if-answer-eq0.false)
