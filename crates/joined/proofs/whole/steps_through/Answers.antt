-- `joined::whole::steps_through` meets its contract: the run of the sheet leads to every step. Assumes nothing.
use mathlib.Core.Path.{sym, ap, ◌∙◌}
use mathlib.Core.List.{List, ◌++◌}
use Prim.Native.Nat.{ℕ, ◌<◌}
use native.Mathlib.Omega.{arith}
use lib.ListN.{length, set, drop, take-append-drop, length-set}
use lib.Seq.{length-take-le}
use Rattle.std.proofs.lemmas.List.{set-append_left, set-get_or}
use Rattle.joined.specs.Rigs.{rigged}
use Rattle.joined.proofs.Within.{few_steps, rooms_kept}
use Rattle.joined.proofs.Through.{opened, ended, told_over, all_done, may_start, step_done_lem}
use Rattle.joined.proofs.whole.steps_through.Goals as goal

pub slice_bounds-took-items-end : goal.slice_bounds-took-items-end
slice_bounds-took-items-end c = omega (arith, few_steps _ _ _ c.requires.rooms, c.count-n.ensures.0)

pub loop-took-init : goal.loop-took-init
loop-took-init c =
    let a = c.args in
    let t = c.absorb-begun in (
      rw (take-append-drop c.count-n.result a.each.now) (opened a.chip a.sheet.now (rigged a.r a.held.now a.code.now a.«data».now a.reply.now a.frame.now a.sums.now) _ _ _ t.ensures c.requires t.auto.sums a.each.now),
      c.count-n.ensures.0,
      length-take-le c.count-n.result a.each.now (omega (arith, few_steps _ _ _ c.requires.rooms, c.count-n.ensures.0, c.told-each)),
    )

pub returns-then-is_over : goal.returns-then-is_over
returns-then-is_over c =
    let a = c.args in
    let l = c.loop-took in
    let v = l.invariant in
    let e = told_over _ _ _ _ _ _ _ v.0 (omega (arith, c.loop-took-test.true, v.1, v.2)) (sym c.if-is_over.ensures) in
    ended a.chip a.sheet.now (rigged a.r a.held.now a.code.now a.«data».now a.reply.now a.frame.now a.sums.now) _ _ _ c.absorb-begun.ensures c.requires.fresh _ _ _ e.0
    (ap (λ (xs : List ℕ). xs ++ drop c.count-n.result a.each.now) (set-get_or l.took-items l.took-index 0) ∙ e.1)

pub step_through-rig-requires : goal.step_through-rig-requires
step_through-rig-requires c =
    let v = c.loop-took.invariant in
    may_start _ _ _ _ _ _ _ v.0 (omega (arith, c.loop-took-test.true, v.1, v.2)) (sym c.if-is_over.ensures)

pub loop-took-preserved : goal.loop-took-preserved
loop-took-preserved c =
    let l = c.loop-took in
    let v = l.invariant in
    let a = c.args in
    let t = c.step_through-rig in
    let lt : l.took-index < length l.took-items = omega (arith, c.loop-took-test.true, v.2) in
    let put = sym (set-append_left l.took-items (drop c.count-n.result a.each.now) l.took-index c.saturating_sub.result lt) in (
      step_done_lem _ _ _ _ _ _ _ v.0 (omega (arith, c.loop-took-test.true, v.1, v.2)) (sym c.if-is_over.ensures) _ t.ensures (rooms_kept _ _ _ _ v.0.rooms t.auto.sums t.auto.frame t.auto.reply) _
          (put ∙ ap (set (l.took-items ++ drop c.count-n.result a.each.now) l.took-index) c.saturating_sub.ensures),
      v.1,
      length-set l.took-items l.took-index c.saturating_sub.result ∙ v.2,
    )

pub returns : goal.returns
returns c =
    let a = c.args in
    let v = c.loop-took.invariant in
    let e = all_done _ _ _ _ _ _ _ v.0 (omega (arith, c.loop-took-test.false, v.1, v.2)) in
    ended a.chip a.sheet.now (rigged a.r a.held.now a.code.now a.«data».now a.reply.now a.frame.now a.sums.now) _ _ _ c.absorb-begun.ensures c.requires.fresh _ _ _ e.0 e.1
