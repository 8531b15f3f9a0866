-- `text_read::chips::counted` meets its contract. Assumes nothing.
use mathlib.Core.Path.{sym, ap, ◌∙◌}
use Prim.Native.Nat.{ℕ, ◌+◌}
use lib.ListN.{drop}
use Rattle.rules.specs.Lines.{between}
use Rattle.text_read.specs.Answers.{Number}
use Rattle.text_read.specs.Numerals.{decimal_of}
use Rattle.text_read.specs.Chips.{counts_of}
use Rattle.text_read.proofs.NamedChips.{counts_none, counts_some}
use Rattle.text_read.proofs.chips.counted.Goals as goal

pub returns-then-byte_at-ne32 : goal.returns-then-byte_at-ne32
returns-then-byte_at-ne32 c =
    sym (counts_none _ (λ z. c.if-byte_at-ne32.true (c.byte_at.ensures ∙ rw c.space_in-k.ensures.0 z)))

pub returns : goal.returns
returns c =
    let t = c.args.text.now in
    c.counts.ensures
    ∙ ap (λ (x : Number). counts_of x c.decimal-data.result) (c.decimal-code.ensures ∙ ap (decimal_of 255) (c.between.ensures ∙ ap (λ (n : ℕ). between 0 n t) c.space_in-k.ensures.0))
    ∙ ap (counts_of _) (c.decimal-data.ensures ∙ ap (decimal_of 255) (c.rest.ensures ∙ ap (λ (n : ℕ). drop (n + 1) t) c.space_in-k.ensures.0))
    ∙ sym (counts_some _ (rw (← c.space_in-k.ensures.0) (sym c.byte_at.ensures ∙ c.if-byte_at-ne32.false)))
