-- `text_read::chips::space_in` meets its contract. Assumes nothing.
use mathlib.Core.Path.{sym, ◌∙◌}
use native.Mathlib.Omega.{arith}
use Rattle.text_read.proofs.NamedChips.{space_1, space_2, space_3}
use Rattle.text_read.proofs.chips.space_in.Goals as goal

pub returns-then-byte_at-eq32 : goal.returns-then-byte_at-eq32
returns-then-byte_at-eq32 c = (sym (space_1 _ (sym c.byte_at.ensures ∙ c.if-byte_at-eq32.true)), omega arith)

pub returns-then-byte_at-eq32-2 : goal.returns-then-byte_at-eq32-2
returns-then-byte_at-eq32-2 c =
    (sym (space_2 _ (λ z. c.if-byte_at-eq32.false (c.byte_at.ensures ∙ z)) (sym c.byte_at-2.ensures ∙ c.if-byte_at-eq32-2.true)), omega arith)

pub returns : goal.returns
returns c =
    (sym (space_3 _ (λ z. c.if-byte_at-eq32.false (c.byte_at.ensures ∙ z)) (λ z. c.if-byte_at-eq32-2.false (c.byte_at-2.ensures ∙ z))), omega arith)
