-- `sheet::table::offset_due` meets its contract: the end of the table, or that of the body before. Assumes nothing.
use mathlib.Core.Path.{sym, ap, ◌∙◌}
use native.Mathlib.Omega.{arith}
use Rattle.rules.specs.Sheet.{body_end}
use Rattle.sheet.proofs.Fields.{says, due_first, due_later}
use Rattle.sheet.proofs.table.offset_due.Goals as goal

pub returns-in-Some : goal.returns-in-Some
returns-in-Some c =
    let a = c.args in
    let e = says a.sheet.now c.in-Some.before c.entry_at.result c.entry_at.ensures in
    c.body_end.ensures ∙ e.end ∙ ap (body_end a.sheet.now) c.in-Some.ensures.1 ∙ sym (due_later a.sheet.now a.i (λ z. omega (arith, c.in-Some.ensures.0)))

pub returns-in-None : goal.returns-in-None
returns-in-None c =
    let a = c.args in
    c.table_end.ensures ∙ sym (due_first a.sheet.now a.i (omega (arith, c.in-None.ensures)))
