-- `sheet::twice::any_taken` meets its contract: the marks are those of the entries passed, and the entries that are left decide. Assumes nothing.
use mathlib.Core.Path.{sym}
use native.Mathlib.Omega.{arith}
use Rattle.sheet.proofs.Marks.{Asked, going_first, going_next, ends_again, goes_on_lem, ends_once}
use Rattle.sheet.proofs.twice.any_taken.Goals as goal

pub loop-e-init : goal.loop-e-init
loop-e-init c = λ s asked. going_first s _ _ _ asked

pub returns-then-entry_taken : goal.returns-then-entry_taken
returns-then-entry_taken c = λ s table accepted code dat.
    let l = c.loop-e in
    let a = c.args in
    let asked : Asked s a.table.now a.code.now a.«data».now = record { table_is = table; accepted = accepted; code_free = code; data_free = dat } in
    let going = l.invariant s asked in
    sym
    (ends_again s _ _ _ asked l.e-index _ going (omega arith) _
    (going_next s _ _ _ asked l.e-index _ going (omega arith) _ _ c.whole_entry.ensures c.entry_taken.ensures)
    c.if-entry_taken.true)

pub loop-e-preserved : goal.loop-e-preserved
loop-e-preserved c = λ s asked.
    let l = c.loop-e in
    let going = l.invariant s asked in
    goes_on_lem s _ _ _ asked l.e-index _ going (omega arith) _
    (going_next s _ _ _ asked l.e-index _ going (omega arith) _ _ c.whole_entry.ensures c.entry_taken.ensures)
    c.if-entry_taken.false

pub returns : goal.returns
returns c = λ s table accepted code dat.
    let l = c.loop-e in
    let a = c.args in
    let asked : Asked s a.table.now a.code.now a.«data».now = record { table_is = table; accepted = accepted; code_free = code; data_free = dat } in
    sym (ends_once s _ _ _ asked l.e-index _ (l.invariant s asked) (omega arith))
