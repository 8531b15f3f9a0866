-- `text_hex::make` meets its contract: the text into cells, and the cells into a sheet. Assumes nothing.
use mathlib.Core.Path.{◌≡◌, sym, ap, ◌∙◌}
use borrow.Author.Rules.{rules}
use Rattle.std.specs.Prelude.{Ok}
use Rattle.rules.specs.declared.hex.HexRead.{HexRead as Read}
use Rattle.rules.specs.Answers.{On, Ended, Refused}
use Rattle.text_hex.proofs.NamedBlocks.{read_to, no_end, text_refused, text_ended}
use Rattle.text_hex.proofs.make.Goals as goal

pub returns-in_err-read_cells : goal.returns-in_err-read_cells
returns-in_err-read_cells c =
    let h = c.in_err-read_cells.field-0.0 in
    let out : c.from_residual.result ≡ Refused h = search rules in
    rw out (sym (text_refused _ _ _ h (read_to _ _ _ _ (Refused h) c.none-cells.ensures c.read_cells.ensures.data_after c.in_err-read_cells.was)))

pub returns-in-On : goal.returns-in-On
returns-in-On c =
    let on = c.in_ok-read_cells.was ∙ ap (λ (r : Read). Ok r) c.in-On.is in
    sym (no_end _ _ _ (read_to _ _ _ _ On c.none-cells.ensures c.read_cells.ensures.data_after on))

pub returns-in-Ended : goal.returns-in-Ended
returns-in-Ended c =
    let ended = c.in_ok-read_cells.was ∙ ap (λ (r : Read). Ok r) c.in-Ended.is in
    c.make_sheet.ensures
    ∙ sym (text_ended _ _ _ (read_to _ _ _ _ Ended c.none-cells.ensures c.read_cells.ensures.data_after ended))
