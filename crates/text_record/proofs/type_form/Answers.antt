-- `text_record::type_form` meets its contract. Assumes nothing.
use Rattle.std.proofs.Common.{sym, ◌∙◌, arith}
use Rattle.text_record.proofs.Records.{form_bytes, form_end, form_upper, form_other}
use Rattle.text_record.proofs.type_form.Goals as goal

pub returns-in-0 : goal.returns-in-0
returns-in-0 c =
    let o = c.joined.ensures.0 in
    let b1 = c.pairs_byte-in-0.ensures in
    let b2 = c.pairs_byte-in-0-2.ensures in
    sym (form_bytes _ c.pairs_byte-kind.result c.pairs_byte-kind.ensures c.wide-n.result (c.wide-n.ensures.0 ∙ c.pairs_byte.ensures) c.joined.result (omega arith) c.in-0.is)

pub returns-in-1 : goal.returns-in-1
returns-in-1 c =
    let k = c.in-1.is in
    sym (form_end _ c.pairs_byte-kind.result c.pairs_byte-kind.ensures c.wide-n.result (c.wide-n.ensures.0 ∙ c.pairs_byte.ensures) (λ z. omega (arith, k, z)) k)

pub returns-in-4 : goal.returns-in-4
returns-in-4 c =
    let k = c.in-4.is in
    sym (form_upper _ c.pairs_byte-kind.result c.pairs_byte-kind.ensures c.wide-n.result (c.wide-n.ensures.0 ∙ c.pairs_byte.ensures) (λ z. omega (arith, k, z)) (λ z. omega (arith, k, z)) k)

pub returns-in_default : goal.returns-in_default
returns-in_default c =
    sym (form_other _ c.pairs_byte-kind.result c.pairs_byte-kind.ensures c.wide-n.result (c.wide-n.ensures.0 ∙ c.pairs_byte.ensures) (λ z. omega arith) (λ z. omega arith) (λ z. omega arith))
