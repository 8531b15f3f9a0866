-- `text_session::line::is_line` meets its contract. Assumes nothing.
use mathlib.Core.Path.{sym, ap, ◌∙◌}
use Rattle.text_read.specs.Bytes.{is_bytes}
use Rattle.text_session.proofs.Signs.{is_power, line_power, line_unsigned, line_signed}
use Rattle.text_session.proofs.line.is_line.Goals as goal

pub returns-then-eq : goal.returns-then-eq
returns-then-eq c = sym (line_power _ (sym (is_power _ _ _ c.eq.ensures c.as_slice.ensures) ∙ c.if-eq.true))

pub returns-then-not-has_sign : goal.returns-then-not-has_sign
returns-then-not-has_sign c =
    sym (line_unsigned _ (sym (is_power _ _ _ c.eq.ensures c.as_slice.ensures) ∙ c.if-eq.false) (sym c.has_sign.ensures ∙ c.if-not-has_sign.true))

pub returns : goal.returns
returns c =
    c.is_bytes.ensures ∙ ap is_bytes c.rest.ensures ∙ sym (line_signed _ (sym (is_power _ _ _ c.eq.ensures c.as_slice.ensures) ∙ c.if-eq.false) (sym c.has_sign.ensures ∙ c.if-not-has_sign.false))
