-- `text_capture::look_over` meets its contract: refused, or the lines. Assumes nothing.
use mathlib.Core.Path.{sym, ◌∙◌}
use Rattle.chip_finder.specs.LentFlashes.{memory}
use Rattle.text_capture.proofs.Judging.{captured_refused, captured_taken, numbered}
use Rattle.text_capture.proofs.look_over.Goals as goal

pub returns-in-Err : goal.returns-in-Err
returns-in-Err c =
    let a = c.args in
    let e = numbered _ _ (sym (captured_refused a.chip a.options (memory a.code.now a.«data».now) a.text.now c.in-Err.refusal (sym c.flash_verdict.ensures ∙ c.in-Err.is))) in
    record { data_after = e.0; verdict_value = e.1; verdict_value_2 = e.2 }

pub returns : goal.returns
returns c =
    let a = c.args in
    let e = numbered _ _ (c.look_at_lines.ensures ∙ sym (captured_taken a.chip a.options (memory a.code.now a.«data».now) a.text.now (sym c.flash_verdict.ensures ∙ c.in_default.is))) in
    record { data_after = e.0; verdict_value = e.1; verdict_value_2 = e.2 }
