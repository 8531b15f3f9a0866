-- `text_record::record_kind` meets its contract. Assumes nothing.
use Rattle.std.proofs.Common.{sym, ap, ◌∙◌, arith}
use Rattle.rules.specs.Lines.{pair_bytes}
use Rattle.rules.specs.Hex.{typed}
use Rattle.text_record.proofs.Records.{other_length, other_form, other_sum, well_typed}
use Rattle.text_record.proofs.record_kind.Goals as goal

pub returns-then-pairs_count-wide : goal.returns-then-pairs_count-wide
returns-then-pairs_count-wide c =
    let bs = pair_bytes c.args.row.now in
    sym (other_length bs (λ h. c.if-pairs_count-wide.true (omega arith)))

pub returns-then-not-type_form : goal.returns-then-not-type_form
returns-then-not-type_form c =
    let bs = pair_bytes c.args.row.now in
    sym (other_form bs (omega arith) (sym c.type_form.ensures ∙ c.if-not-type_form.true))

pub returns-then-sum_of-ne0 : goal.returns-then-sum_of-ne0
returns-then-sum_of-ne0 c =
    let bs = pair_bytes c.args.row.now in
    sym (other_sum bs (omega arith) (sym c.type_form.ensures ∙ c.if-not-type_form.false) (λ z. c.if-sum_of-ne0.true (c.sum_of.ensures ∙ z)))

pub returns : goal.returns
returns c =
    let bs = pair_bytes c.args.row.now in
    c.typed.ensures
    ∙ ap typed c.pairs_byte-2.ensures
    ∙ sym (well_typed bs (omega arith) (sym c.type_form.ensures ∙ c.if-not-type_form.false) (sym c.sum_of.ensures ∙ c.if-sum_of-ne0.false))
