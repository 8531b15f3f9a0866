-- `text_show::words::put_form` meets its contract: by the form. Assumes nothing.
use mathlib.Core.Path.{sym, ◌∙◌}
use Rattle.text_show.specs.Words.{form_line}
use Rattle.text_show.proofs.words.put_form.Goals as goal

pub returns-then-form_two : goal.returns-then-form_two
unfolding form_line
returns-then-form_two c =
    rw (sym c.form_two.ensures ∙ c.if-form_two.true) c.put_bytes.ensures

pub returns : goal.returns
unfolding form_line
returns c =
    rw (sym c.form_two.ensures ∙ c.if-form_two.false) c.put_bytes-2.ensures
