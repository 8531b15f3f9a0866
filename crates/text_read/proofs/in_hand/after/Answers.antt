-- `text_read::in_hand::after` meets its contract. Assumes nothing.
use mathlib.Core.Path.{sym, ap, ◌∙◌}
use Rattle.text_read.specs.Bytes.{Stored}
use Rattle.text_read.specs.Sheets.{grown}
use Rattle.text_read.proofs.Stores.{another_line, a_sheet_line}
use Rattle.text_read.proofs.in_hand.after.Goals as goal

pub returns-then-not-begins : goal.returns-then-not-begins
returns-then-not-begins c = sym (another_line _ _ _ (sym c.begins.ensures ∙ c.if-not-begins.true))

pub returns : goal.returns
returns c =
    ap (λ (x : Stored). grown x) (rw (c.rest.ensures, c.beginning.ensures) at c.store-end.ensures)
    ∙ sym (a_sheet_line _ _ _ (sym c.begins.ensures ∙ c.if-not-begins.false))
