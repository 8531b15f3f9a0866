-- `text_show::refused::first_to_break` meets its contract: the first is among those that are left. Assumes nothing.
use mathlib.Core.Path.{◌≡◌, sym, ◌∙◌}
use Prim.Native.Nat.{◌<◌}
use native.Mathlib.Omega.{arith}
use Rattle.text_show.proofs.Breaking.{this_breaks, later_breaks, none_breaks}
use Rattle.text_show.proofs.refused.first_to_break.Goals as goal

pub returns-then-breaks : goal.returns-then-breaks
returns-then-breaks c =
    let l = c.loop-i in
    let a = c.args in
    let h : l.i < c.count-n.result = omega arith in
    sym (l.invariant.2 ∙ this_breaks a.refusal a.sheet.now l.i c.count-n.result h (sym c.breaks.ensures ∙ c.if-breaks.true))

pub loop-i-preserved : goal.loop-i-preserved
loop-i-preserved c =
    let l = c.loop-i in
    let a = c.args in
    let h : l.i < c.count-n.result = omega arith in
    (omega arith, l.invariant.1, l.invariant.2 ∙ later_breaks a.refusal a.sheet.now l.i c.count-n.result h (sym c.breaks.ensures ∙ c.if-breaks.false))

pub returns : goal.returns
returns c =
    let l = c.loop-i in
    let a = c.args in
    let last : c.count-n.result ≡ l.i = omega arith in
    last ∙ sym (l.invariant.2 ∙ none_breaks a.refusal a.sheet.now l.i c.count-n.result (omega arith))
