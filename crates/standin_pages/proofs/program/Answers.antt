-- `standin_pages::program` meets its contract: each of its answers is an outcome of `on_page`. Assumes nothing.
use mathlib.Core.Path.{refl, sym, ap, ◌∙◌}
use native.Mathlib.Omega.{arith}
use borrow.Author.Tests.{eq-eqb, ne_eqb}
use Rattle.rules.specs.declared.Task.TheVariants.{Programming}
use Rattle.rules.specs.Notes.{Empty}
use Rattle.rules.specs.Frame.{status_byte, note_of}
use Rattle.chip_finder.specs.LentFlashes.{memory}
use Rattle.standin_state.specs.View.{idle}
use Rattle.standin_state.proofs.Handed.{same_out}
use Rattle.standin_pages.proofs.DataFrames.{told_last, told_more, page_refused, page_stopped, page_done, no_row}
use Rattle.standin_pages.proofs.program.Goals as goal

pub returns-in-Err : goal.returns-in-Err
returns-in-Err c =
    let a = c.args in
    let m = memory a.code.now a.«data».now in
    let fault = sym c.in-Err.is ∙ c.judge_data.ensures in
    let o = page_refused a.p (idle a.c m) a.frame.now _ (c.status_byte-line.ensures ∙ ap status_byte fault) _ (c.note_of-note.ensures ∙ ap note_of fault) (λ six. no_row _ (sym c.status_byte-line.ensures ∙ six)) in
    same_out _ _ _ _ _ _ o (c.paired.ensures m)

pub returns-then-status_before-ne6 : goal.returns-then-status_before-ne6
returns-then-status_before-ne6 c =
    let a = c.args in
    let m = memory a.code.now a.«data».now in
    let well = sym c.in_default.is ∙ c.judge_data.ensures in
    let o = page_stopped a.p (idle a.c m) a.frame.now 0x06 (ap status_byte well) Empty (ap note_of well) refl c.if-status_before-ne6.true in
    same_out _ _ _ _ _ _ o (c.paired-then-status_before-ne6.ensures m)

pub returns-then-last : goal.returns-then-last
returns-then-last c =
    let a = c.args in
    let s = idle a.c (memory a.code.now a.«data».now) in
    let x = c.program_page-st in
    let m = memory x.new.code x.new.«data» in
    let o = told_last Programming a.p s x.result m (eq-eqb _ _ c.if-last.true) in
    let done = page_done a.p s a.frame.now 0x06 (ap status_byte (sym c.in_default.is ∙ c.judge_data.ensures)) a.chip c.requires refl (omega arith)
    c.page_protected-guarded.result c.page_protected-guarded.ensures _ _ x.ensures in
    same_out _ _ _ _ _ _ (o ∙ done) (c.paired-then-last.ensures m)

pub returns : goal.returns
returns c =
    let a = c.args in
    let s = idle a.c (memory a.code.now a.«data».now) in
    let x = c.program_page-st in
    let m = memory x.new.code x.new.«data» in
    let o = told_more Programming a.p s x.result m (ne_eqb _ _ c.if-last.false) c.later.result c.later.ensures in
    let done = page_done a.p s a.frame.now 0x06 (ap status_byte (sym c.in_default.is ∙ c.judge_data.ensures)) a.chip c.requires refl (omega arith)
    c.page_protected-guarded.result c.page_protected-guarded.ensures _ _ x.ensures in
    same_out _ _ _ _ _ _ (o ∙ done) (c.paired-2.ensures m)
