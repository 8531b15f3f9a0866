-- `text_record::kind_of` meets its contract. Assumes nothing.
use Rattle.std.proofs.Common.{ℕ, List, sym, ap, ◌∙◌}
use Rattle.rules.specs.Lines.{is_pairs, pair_bytes}
use Rattle.rules.specs.Hex.{record_kind}
use Rattle.text_record.proofs.Records.{no_colon, no_pairs, of_pairs}
use Rattle.text_record.proofs.kind_of.Goals as goal

pub returns-then-byte_at-ne58 : goal.returns-then-byte_at-ne58
returns-then-byte_at-ne58 c = sym (no_colon _ (λ z. c.if-byte_at-ne58.true (c.byte_at.ensures ∙ z)))

pub returns-then-not-is_pairs : goal.returns-then-not-is_pairs
returns-then-not-is_pairs c =
    sym (no_pairs _ (sym c.byte_at.ensures ∙ c.if-byte_at-ne58.false) (ap is_pairs (sym c.rest-row.ensures) ∙ sym c.is_pairs.ensures ∙ c.if-not-is_pairs.true))

pub returns : goal.returns
returns c =
    c.record_kind.ensures
    ∙ ap (λ (q : List ℕ). record_kind (pair_bytes q)) c.rest-row.ensures
    ∙ sym (of_pairs _ (sym c.byte_at.ensures ∙ c.if-byte_at-ne58.false) (ap is_pairs (sym c.rest-row.ensures) ∙ sym c.is_pairs.ensures ∙ c.if-not-is_pairs.false))
