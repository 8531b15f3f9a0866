-- `text_show::entries::last_kind` meets its contract: by the form. Assumes nothing.
use mathlib.Core.Path.{sym, ap, ◌∙◌}
use mathlib.Core.Bool.{Bool, cond}
use Rattle.rules.specs.Sheet.{two, one, last_kind}
use Rattle.text_show.proofs.entries.last_kind.Goals as goal

pub returns-then-form_two : goal.returns-then-form_two
unfolding last_kind
returns-then-form_two c = sym (ap (λ (b : Bool). (cond b two one).kinds) (sym c.form_two.ensures ∙ c.if-form_two.true))

pub returns : goal.returns
unfolding last_kind
returns c = sym (ap (λ (b : Bool). (cond b two one).kinds) (sym c.form_two.ensures ∙ c.if-form_two.false))
