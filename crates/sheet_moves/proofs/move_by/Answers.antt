-- `sheet_moves::move_by` meets its contract: the sheet's own rules, the way, the room, and the bytes put. Assumes nothing.
use native.Mathlib.Omega.{arith}
use mathlib.Core.Path.{sym, ap, ◌∙◌}
use mathlib.Core.List.{List}
use Prim.Native.Nat.{ℕ}
use lib.ListN.{length}
use Rattle.std.proofs.lemmas.Result.{err_from_is_err_and}
use Rattle.rules.specs.Answers.{Sheet}
use Rattle.text_out.proofs.Appended.{put_over}
use Rattle.sheet_forms.proofs.Outcomes.{own_refusal, way_closed, no_room, is_moved}
use Rattle.sheet_moves.specs.Way.{closed, moved}
use Rattle.sheet_moves.proofs.Answers.{table, moved_size, head_down}
use Rattle.sheet_moves.proofs.move_by.Goals as goal

pub returns-in_err-sheet_verdict : goal.returns-in_err-sheet_verdict
returns-in_err-sheet_verdict c =
    let s = c.args.sheet.now in
    let w = c.args.way in
    let p = err_from_is_err_and c.from_residual.result c.from_residual.ensures.1 in
    rw (p.1, p.2) (sym (own_refusal s (closed w s) (moved w s) c.args.buf.now _ (sym c.in_err-sheet_verdict.ensures)))

pub returns-then-is_closed : goal.returns-then-is_closed
returns-then-is_closed c =
    let s = c.args.sheet.now in
    let w = c.args.way in
    sym (way_closed s (closed w s) (moved w s) c.args.buf.now (sym c.in_ok-sheet_verdict.ensures) (sym c.is_closed.ensures ∙ c.if-is_closed.true))

pub returns-then-buf-size : goal.returns-then-buf-size
returns-then-buf-size c =
    let s = c.args.sheet.now in
    let w = c.args.way in
    let kept = sym c.in_ok-sheet_verdict.ensures in
    let way = sym c.is_closed.ensures ∙ c.if-is_closed.false in
    sym (no_room s (closed w s) (moved w s) c.args.buf.now kept way (omega (arith, moved_size s kept w way, c.moved_size-size.ensures)))

pub put_moved-requires : goal.put_moved-requires
put_moved-requires c =
    let s = c.args.sheet.now in
    let kept = sym c.in_ok-sheet_verdict.ensures in
    (table s kept, λ down. head_down s kept c.args.way down (sym c.is_closed.ensures ∙ c.if-is_closed.false))

pub returns : goal.returns
returns c =
    let s = c.args.sheet.now in
    let w = c.args.way in
    let kept = sym c.in_ok-sheet_verdict.ensures in
    let way = sym c.is_closed.ensures ∙ c.if-is_closed.false in
    let n = moved_size s kept w way in
    let size = c.moved_size-size.ensures in
    let o = put_over (moved w s) c.put_moved.result c.args.buf.now _ c.put_moved.ensures (omega (arith, n, size)) in
    ap (λ (i : ℕ). record { moved = Sheet i; out = c.put_moved.new.buf }) (size ∙ sym n)
    ∙ ap (λ (q : List ℕ). record { moved = Sheet (length (moved w s)); out = q }) o
    ∙ sym (is_moved s (closed w s) (moved w s) c.args.buf.now kept way (omega (arith, n, size)))
