-- `standin_pages::compare` meets its contract: each of its answers is an outcome of `on_compare`. Assumes nothing.
use mathlib.Core.Path.{refl, sym, ap, ◌∙◌}
use borrow.Author.Tests.{eq-eqb, ne_eqb}
use Rattle.rules.specs.declared.Task.TheVariants.{Verifying}
use Rattle.rules.specs.Frame.{status_byte, note_of}
use Rattle.chip_finder.specs.LentFlashes.{memory}
use Rattle.standin_state.specs.View.{idle}
use Rattle.standin_state.proofs.Handed.{same_out}
use Rattle.standin_pages.proofs.DataFrames.{told_last, told_more, compare_refused, compare_done, no_row}
use Rattle.standin_pages.proofs.compare.Goals as goal

pub returns-in-Err : goal.returns-in-Err
returns-in-Err c =
    let a = c.args in
    let m = memory a.code.now a.«data».now in
    let fault = sym c.in-Err.is ∙ c.judge_data.ensures in
    let o = compare_refused a.p (idle a.c m) a.frame.now _ (c.status_byte-line.ensures ∙ ap status_byte fault) _ (c.note_of-note.ensures ∙ ap note_of fault) (λ six. no_row _ (sym c.status_byte-line.ensures ∙ six)) in
    same_out _ _ _ _ _ _ o (c.paired.ensures m)

pub returns-then-last : goal.returns-then-last
returns-then-last c =
    let a = c.args in
    let m = memory a.code.now a.«data».now in
    let s = idle a.c m in
    let o = told_last Verifying a.p s c.compared-told.result m (eq-eqb _ _ c.if-last.true) in
    let done = compare_done a.p s a.frame.now 0x06 (ap status_byte (sym c.in_default.is ∙ c.judge_data.ensures)) a.chip c.requires refl
    c.page_equals.result c.page_equals.ensures c.compared-told.result c.compared-told.ensures in
    same_out _ _ _ _ _ _ (o ∙ done) (c.paired-then-last.ensures m)

pub returns : goal.returns
returns c =
    let a = c.args in
    let m = memory a.code.now a.«data».now in
    let s = idle a.c m in
    let o = told_more Verifying a.p s c.compared-told.result m (ne_eqb _ _ c.if-last.false) c.later.result c.later.ensures in
    let done = compare_done a.p s a.frame.now 0x06 (ap status_byte (sym c.in_default.is ∙ c.judge_data.ensures)) a.chip c.requires refl
    c.page_equals.result c.page_equals.ensures c.compared-told.result c.compared-told.ensures in
    same_out _ _ _ _ _ _ (o ∙ done) (c.paired-2.ensures m)
