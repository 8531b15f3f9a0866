-- `text_read::hex::two_digits` meets its contract. Assumes nothing.
use mathlib.Core.Path.{◌≡◌, sym, ◌∙◌}
use native.Mathlib.Omega.{arith}
use borrow.Author.Rules.{rules}
use Rattle.std.specs.Prelude.{None}
use Rattle.text_read.proofs.Digits.{some_below, no_high, no_low, both_digits}
use Rattle.text_read.proofs.hex.two_digits.Goals as goal

pub returns-in_err-digit : goal.returns-in_err-digit
returns-in_err-digit c =
    let out : c.from_residual.result ≡ None = search rules in
    out ∙ sym (no_high _ _ (sym c.in_err-digit.was ∙ c.digit.ensures))

pub overflow_mul-result : goal.overflow_mul-result
overflow_mul-result c =
    let p = some_below 16 _ c.in_ok-digit.field-0 (sym c.in_ok-digit.was ∙ c.digit.ensures) in
    omega (arith, p.1)

pub returns-in_err-digit-2 : goal.returns-in_err-digit-2
returns-in_err-digit-2 c =
    let out : c.from_residual-in_err-digit-2.result ≡ None = search rules in
    out ∙ sym (no_low _ _ c.in_ok-digit.field-0 (sym c.in_ok-digit.was ∙ c.digit.ensures) (sym c.in_err-digit-2.was ∙ c.digit-2.ensures))

pub overflow_add-result : goal.overflow_add-result
overflow_add-result c =
    let p = some_below 16 _ c.in_ok-digit.field-0 (sym c.in_ok-digit.was ∙ c.digit.ensures) in
    let q = some_below 16 _ c.in_ok-digit-2.field-0 (sym c.in_ok-digit-2.was ∙ c.digit-2.ensures) in
    omega (arith, p.1, q.1)

pub returns : goal.returns
returns c =
    sym (both_digits _ _ c.in_ok-digit.field-0 (sym c.in_ok-digit.was ∙ c.digit.ensures) c.in_ok-digit-2.field-0 (sym c.in_ok-digit-2.was ∙ c.digit-2.ensures))
