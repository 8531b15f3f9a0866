-- `sheet::table::head_of` meets its contract: by the form. Assumes nothing.
use mathlib.Core.Path.{◌≡◌, sym, ap, ◌∙◌}
use Prim.Native.Nat.{ℕ, ◌-◌, ◌≤◌}
use native.Mathlib.Omega.{arith}
use Rattle.rules.specs.Chip.{word_at}
use Rattle.sheet.specs.Head.{form_of}
use Rattle.sheet.proofs.Fields.{head_formed_lem}
use Rattle.sheet.proofs.table.head_of.Goals.{then-two, else-two}
use Rattle.sheet.proofs.table.head_of.Goals as goal

pub returns : goal.returns
returns c =
    let s = c.args.sheet.now in
    let size : c.if-two.size ≡ (form_of c.form_two-two.result).head =
    elim c.if-two.branch [ then-two w ↦ rw w.if-two.true w.size-is | else-two w ↦ rw w.if-two.false w.size-is ] in
    let bound : c.if-two.size ≤ 12 = elim c.if-two.branch [ then-two w ↦ omega (arith, w.size-is) | else-two w ↦ omega (arith, w.size-is) ] in
    (rw size (head_formed_lem s c.form_two-two.result c.from.result (sym c.form_two-two.ensures) (c.from.ensures ∙ c.word_at.ensures ∙ ap (λ (n : ℕ). word_at s (n - 2)) size)), bound, omega arith)
