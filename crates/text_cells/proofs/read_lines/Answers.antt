-- `text_cells::read_lines` meets its contract: the lines from `at` on decide, with the cells so far. Assumes nothing.
use mathlib.Core.Path.{◌≡◌, refl, sym, ◌∙◌}
use native.Mathlib.Omega.{arith}
use Rattle.rules.specs.Answers.{On, Ended, Refused}
use Rattle.rules.specs.Hex.{hex_read}
use Rattle.chip_finder.specs.LentFlashes.{memory}
use Rattle.text_cells.proofs.TakenLines.{read_end, read_unended, read_more, read_refused, read_ended, read_after}
use borrow.Author.Rules.{rules}
use Rattle.text_cells.proofs.read_lines.Goals as goal

pub loop-at-init : goal.loop-at-init
unfolding hex_read
loop-at-init c = (omega arith, omega arith, omega arith, refl)

pub returns-then-end-text : goal.returns-then-end-text
returns-then-end-text c =
    let l = c.loop-at in
    let t = c.args.text.now in
    let e = c.line_end-end in
    sym (l.invariant.3 ∙ read_unended t l.at l.done l.upper (memory l.code l.«data») e.result e.ensures (omega arith) (omega arith))

pub returns-then-end-text-2 : goal.returns-then-end-text-2
returns-then-end-text-2 c =
    let l = c.loop-at in
    let t = c.args.text.now in
    let e = c.line_end-end in
    let k = c.take_line in
    let ended : k.result ≡ Ended = cc in
    sym (l.invariant.3 ∙ read_after t l.at l.done l.upper _ e.result e.ensures (omega arith) k.result _ _ k.ensures.data_after ended (omega arith))

pub returns-in-Ended : goal.returns-in-Ended
returns-in-Ended c =
    let l = c.loop-at in
    let t = c.args.text.now in
    let e = c.line_end-end in
    let k = c.take_line in
    let ended : k.result ≡ Ended = cc in
    sym (l.invariant.3 ∙ read_ended t l.at l.done l.upper _ e.result e.ensures (omega arith) k.result _ _ k.ensures.data_after ended (omega arith))

pub returns-in_err-take_line : goal.returns-in_err-take_line
returns-in_err-take_line c =
    let l = c.loop-at in
    let t = c.args.text.now in
    let e = c.line_end-end in
    let k = c.take_line in
    let h = c.in_err-take_line.field-0.0 in
    let out : c.from_residual.result ≡ Refused h = search rules in
    rw out (sym (l.invariant.3 ∙ read_refused t l.at l.done l.upper _ e.result e.ensures (omega arith) k.result _ _ k.ensures.data_after h c.in_err-take_line.was))

pub loop-at-preserved : goal.loop-at-preserved
loop-at-preserved c =
    let l = c.loop-at in
    let t = c.args.text.now in
    let e = c.line_end-end in
    let k = c.take_line in
    let on : k.result ≡ On = cc in
    (omega arith, omega arith, omega (arith, k.ensures.upper_bound), l.invariant.3 ∙ read_more t l.at l.done l.upper _ e.result e.ensures (omega arith) k.result _ _ k.ensures.data_after on)

pub returns : goal.returns
returns c = let l = c.loop-at in sym (l.invariant.3 ∙ read_end _ l.at l.done l.upper (memory l.code l.«data») (omega arith))
