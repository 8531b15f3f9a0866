-- `text_script::chip_file::read` meets its contract: the lines from `at` on decide. Assumes nothing.
use mathlib.Core.Path.{sym, ap, ◌∙◌}
use Prim.Native.Nat.{◌+◌, ◌-◌}
use native.Mathlib.Omega.{arith}
use lib.ListN.{take, drop}
use Rattle.chip_finder.specs.LentFlashes.{memory}
use Rattle.text_script.specs.Answers.{Line}
use Rattle.text_script.specs.ChipFiles.{Stating, stating, is_stating, stated_by}
use Rattle.text_script.proofs.FileLines.{onward, said_as, file_more}
use borrow.Author.Rules.{rules}
use Rattle.text_script.proofs.chip_file.read.Goals as goal

pub loop-at-preserved : goal.loop-at-preserved
loop-at-preserved c =
    let e = c.line_end-end in
    let l = c.loop-at in
    let t = c.args.text.now in
    let s = stating l.s (memory l.code l.«data») in
    let line = take (e.result - l.at) (drop l.at t) in
    let ended = c.if-end-text.false in
    let said = (sym c.in-Some.is ∙ c.parse.ensures ∙ said_as _ _ _ _ _ c.lent.ensures.0 c.lent-in-loop-at.ensures.0) in
    (l.invariant.0, omega (arith, l.invariant.1, e.ensures), omega (arith, ended), search rules, search rules, l.invariant.5 ∙ file_more t l.at l.number s e.result e.ensures (omega (arith, ended)) (sym (c.states.ensures ∙ ap is_stating said) ∙ c.if-not-states.false) ∙ ap (λ (q : Stating). onward t (e.result + 1) (l.number + 1) q) (sym (c.after-s.ensures ∙ ap (λ (x : Line). stated_by x line s) said)))
