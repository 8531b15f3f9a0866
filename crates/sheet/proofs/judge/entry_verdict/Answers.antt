-- `sheet::judge::entry_verdict` meets its contract: one law for each answer. Assumes nothing.
use mathlib.Core.Path.{sym, ap, ◌∙◌}
use Prim.Native.Nat.{ℕ, ◌+◌}
use native.Mathlib.Omega.{arith}
use lib.Dec.{eqb}
use Rattle.sheet.specs.Entry.{lock_wrong}
use Rattle.sheet.proofs.Fields.{heads, says}
use Rattle.sheet.proofs.Verdicts.{kind_under, kind_over, zero_broken, pair_broken, lock_broken, offset_broken, body_broken, entry_allowed}
use Rattle.sheet.proofs.judge.entry_verdict.Goals.{then-e-lt1-via-then-e-lt1, then-e-lt1-via-else-e-lt1+then-last_kind-e}
use Rattle.sheet.proofs.judge.entry_verdict.Goals as goal

pub returns-then-e-lt1 : goal.returns-then-e-lt1
returns-then-e-lt1 c =
    let a = c.args in
    let s = a.sheet.bytes.now in
    let h = heads _ _ a.sheet.head_value in
    let e = says s a.i a.e c.requires.entry_value.1 in
    elim c.then-e-lt1.branch [
      | then-e-lt1-via-then-e-lt1 w ↦ sym (kind_under a.chip s a.i (omega (arith, w.if-e-lt1.true, e.kind)))
      | then-e-lt1-via-else-e-lt1+then-last_kind-e w ↦ sym (kind_over a.chip s a.i (omega (arith, w.if-last_kind-e.true, w.last_kind.ensures, e.kind, h.kinds)))
    ]

pub returns-then-e-ne0 : goal.returns-then-e-ne0
returns-then-e-ne0 c =
    let a = c.args in
    let s = a.sheet.bytes.now in
    let h = heads _ _ a.sheet.head_value in
    let e = says s a.i a.e c.requires.entry_value.1 in
    sym (zero_broken a.chip s a.i (omega (arith, e.kind)) (omega (arith, e.kind, c.last_kind.ensures, h.kinds)) (λ z. c.if-e-ne0.true (e.zero ∙ z)))

pub returns-then-no_pair : goal.returns-then-no_pair
returns-then-no_pair c =
    let a = c.args in
    let s = a.sheet.bytes.now in
    let h = heads _ _ a.sheet.head_value in
    let e = says s a.i a.e c.requires.entry_value.1 in
    sym (pair_broken a.chip s a.i (omega (arith, e.kind)) (omega (arith, e.kind, c.last_kind.ensures, h.kinds)) (omega (arith, e.zero)) (sym (c.pair_wrong-no_pair.ensures ∙ e.pair _) ∙ c.if-no_pair.true))

pub returns-then-lock_wrong : goal.returns-then-lock_wrong
returns-then-lock_wrong c =
    let a = c.args in
    let s = a.sheet.bytes.now in
    let h = heads _ _ a.sheet.head_value in
    let e = says s a.i a.e c.requires.entry_value.1 in
    sym (lock_broken a.chip s a.i (omega (arith, e.kind)) (omega (arith, e.kind, c.last_kind.ensures, h.kinds)) (omega (arith, e.zero)) (sym (c.pair_wrong-no_pair.ensures ∙ e.pair _) ∙ c.if-no_pair.false) (sym (c.lock_wrong.ensures ∙ ap (λ (n : ℕ). lock_wrong a.e (eqb (a.i + 1) n)) h.steps ∙ e.lock) ∙ c.if-lock_wrong.true))

pub returns-then-e-due : goal.returns-then-e-due
returns-then-e-due c =
    let a = c.args in
    let s = a.sheet.bytes.now in
    let h = heads _ _ a.sheet.head_value in
    let e = says s a.i a.e c.requires.entry_value.1 in
    sym (offset_broken a.chip s a.i (omega (arith, e.kind)) (omega (arith, e.kind, c.last_kind.ensures, h.kinds)) (omega (arith, e.zero)) (sym (c.pair_wrong-no_pair.ensures ∙ e.pair _) ∙ c.if-no_pair.false) (sym (c.lock_wrong.ensures ∙ ap (λ (n : ℕ). lock_wrong a.e (eqb (a.i + 1) n)) h.steps ∙ e.lock) ∙ c.if-lock_wrong.false) (λ o. c.if-e-due.true (e.offset ∙ o ∙ sym c.requires.due_value)))

pub returns-then-sheet-body_end : goal.returns-then-sheet-body_end
returns-then-sheet-body_end c =
    let a = c.args in
    let s = a.sheet.bytes.now in
    let h = heads _ _ a.sheet.head_value in
    let e = says s a.i a.e c.requires.entry_value.1 in
    sym (body_broken a.chip s a.i (omega (arith, e.kind)) (omega (arith, e.kind, c.last_kind.ensures, h.kinds)) (omega (arith, e.zero)) (sym (c.pair_wrong-no_pair.ensures ∙ e.pair _) ∙ c.if-no_pair.false) (sym (c.lock_wrong.ensures ∙ ap (λ (n : ℕ). lock_wrong a.e (eqb (a.i + 1) n)) h.steps ∙ e.lock) ∙ c.if-lock_wrong.false) (sym e.offset ∙ c.if-e-due.false ∙ c.requires.due_value) (omega (arith, e.end, c.body_end.ensures)))

pub returns : goal.returns
returns c =
    let a = c.args in
    let s = a.sheet.bytes.now in
    let h = heads _ _ a.sheet.head_value in
    let e = says s a.i a.e c.requires.entry_value.1 in
    sym (entry_allowed a.chip s a.i (omega (arith, e.kind)) (omega (arith, e.kind, c.last_kind.ensures, h.kinds)) (omega (arith, e.zero)) (sym (c.pair_wrong-no_pair.ensures ∙ e.pair _) ∙ c.if-no_pair.false) (sym (c.lock_wrong.ensures ∙ ap (λ (n : ℕ). lock_wrong a.e (eqb (a.i + 1) n)) h.steps ∙ e.lock) ∙ c.if-lock_wrong.false) (sym e.offset ∙ c.if-e-due.false ∙ c.requires.due_value) (omega (arith, e.end, c.body_end.ensures)))
