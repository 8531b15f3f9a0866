-- `text_read::number::numeral` meets its contract: the digits that are left decide. Assumes nothing.
use mathlib.Core.Path.{◌≡◌, sym, ◌∙◌}
use native.Mathlib.Omega.{arith}
use borrow.Author.Rules.{rules}
use Rattle.std.specs.Prelude.{None}
use Rattle.text_read.proofs.Digits.{none_below, some_below}
use Rattle.text_read.proofs.Numerals.{no_digit, too_much, one_more, no_more}
use Rattle.text_read.proofs.number.numeral.Goals as goal

pub returns-in_err-digit : goal.returns-in_err-digit
returns-in_err-digit c =
    let a = c.args in
    let l = c.loop-b in
    let out : c.from_residual.result ≡ None = search rules in
    let d = none_below 16 _ (sym c.in_err-digit.was ∙ c.digit.ensures) in
    out ∙ sym (l.invariant ∙ no_digit a.base a.most l.n a.text.now l.b-index (omega arith) (omega (arith, d)))

pub returns-then-digit-base : goal.returns-then-digit-base
returns-then-digit-base c =
    let a = c.args in
    let l = c.loop-b in
    let d = some_below 16 _ c.in_ok-digit.digit (sym c.in_ok-digit.was ∙ c.digit.ensures) in
    sym (l.invariant ∙ no_digit a.base a.most l.n a.text.now l.b-index (omega arith) (omega (arith, d.0)))

pub returns-then-next-most : goal.returns-then-next-most
returns-then-next-most c =
    let a = c.args in
    let l = c.loop-b in
    let d = some_below 16 _ c.in_ok-digit.digit (sym c.in_ok-digit.was ∙ c.digit.ensures) in
    sym (l.invariant ∙ too_much a.base a.most l.n a.text.now l.b-index (omega arith) (omega (arith, d.0)) (omega (arith, d.0)))

pub loop-b-preserved : goal.loop-b-preserved
loop-b-preserved c =
    let a = c.args in
    let l = c.loop-b in
    let d = some_below 16 _ c.in_ok-digit.digit (sym c.in_ok-digit.was ∙ c.digit.ensures) in
    rw (c.longer-next.ensures, ← d.0) (l.invariant ∙ one_more a.base a.most l.n a.text.now l.b-index (omega arith) (omega (arith, d.0)) (omega (arith, d.0)))

pub returns : goal.returns
returns c =
    let a = c.args in
    let l = c.loop-b in
    sym (l.invariant ∙ no_more a.base a.most l.n a.text.now l.b-index (omega arith))
