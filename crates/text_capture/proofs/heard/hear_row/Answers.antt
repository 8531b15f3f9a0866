-- `text_capture::heard::hear_row` meets its contract: the bytes that are left decide, with what was matched so far. Assumes nothing.
use mathlib.Core.Path.{refl, sym, ap, ◌∙◌}
use mathlib.Core.List.{List}
use Prim.Native.Nat.{ℕ, ◌≤◌}
use native.Mathlib.Omega.{arith}
use lib.ListN.{length}
use Rattle.rules.specs.Lines.{row_bytes}
use Rattle.standin_state.proofs.Lending.{all_lent}
use Rattle.text_session.specs.Session.{matches}
use Rattle.text_capture.proofs.Hearing.{row_state, row_answers, row_end_state, row_end_answers}
use borrow.Author.Rules.{rules}
use Rattle.text_capture.proofs.heard.hear_row.Goals as goal

pub loop-k-init : goal.loop-k-init
unfolding matches
loop-k-init c = (omega arith, c.row_count-k-end.ensures, refl, refl, search rules, refl, refl)

pub loop-k-preserved : goal.loop-k-preserved
loop-k-preserved c =
    let h = c.hear_byte-h in
    let r = c.row_byte in
    let l = c.loop-k in
    let a = c.args in
    let less = c.loop-k-test.true in
    let bs = row_bytes a.sent.now in
    (omega (arith, less), l.invariant.1, search rules, search rules, search rules, l.invariant.5 ∙ row_state _ _ bs l.k (omega (arith, l.invariant.1, less)) _ r.ensures _ h.ensures.data_after, l.invariant.6 ∙ ap (λ (x : List ℕ). matches l.stands x (row_bytes a.row.now)) (row_answers _ _ bs l.k (omega (arith, l.invariant.1, less)) _ r.ensures _ h.ensures.data_after _ (h.ensures.reply_after.0)) ∙ sym (c.compare-stands.ensures _))

pub returns-clause-data_after : goal.returns-clause-data_after
returns-clause-data_after c =
    let l = c.loop-k in
    let bs = row_bytes c.args.sent.now in
    let e : length bs ≤ l.k = omega (arith, l.invariant.1) in
    sym (l.invariant.5 ∙ row_end_state _ _ bs l.k e)

pub returns-clause-right_value : goal.returns-clause-right_value
returns-clause-right_value c =
    let l = c.loop-k in
    let a = c.args in
    let bs = row_bytes a.sent.now in
    let e : length bs ≤ l.k = omega (arith, l.invariant.1) in
    c.is_all.ensures ∙ sym (l.invariant.6 ∙ ap (λ (x : List ℕ). matches l.stands x (row_bytes a.row.now)) (row_end_answers _ _ bs l.k e))

pub hear_byte-h-requires : goal.hear_byte-h-requires
hear_byte-h-requires c =
    let l = c.loop-k in
    sym (all_lent _ _ _ _ (rw (l.invariant.2, l.invariant.3) c.requires) (omega arith))
