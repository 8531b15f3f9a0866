-- `joined::stepping::step_through` meets its contract: the run of the step leads to every turn. Assumes nothing.
use mathlib.Core.Path.{sym, ap, ◌∙◌}
use Rattle.rules.specs.Run.{most_frames}
use Rattle.joined.proofs.Within.{rooms_kept, starting, turnable, ends_here, goes_on_lem}
use Rattle.joined.proofs.stepping.step_through.Goals as goal

pub loop-turn-init : goal.loop-turn-init
loop-turn-init c = starting _ _ _ c.requires _ (c.most_frames-most.ensures.0 ∙ ap most_frames c.step_at.ensures)

pub turn-rig-requires : goal.turn-rig-requires
turn-rig-requires c = turnable _ _ _ _ _ _ c.loop-turn.invariant

pub returns-then-between : goal.returns-then-between
returns-then-between c = ends_here _ _ _ _ _ _ c.loop-turn.invariant _ c.turn-rig.ensures (sym c.if-between.ensures)

pub loop-turn-preserved : goal.loop-turn-preserved
loop-turn-preserved c =
    let v = c.loop-turn.invariant in
    let t = c.turn-rig in
    goes_on_lem _ _ _ _ _ _ v _ t.ensures (sym c.if-between.ensures) (rooms_kept _ _ _ _ v.rooms t.auto.sums t.auto.frame t.auto.reply)
