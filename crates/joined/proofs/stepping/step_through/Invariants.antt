-- `joined::stepping::step_through` meets its contract: the run of the step leads to every turn. Assumes nothing.
use Rattle.joined.specs.Rigs.{rigged}
use Rattle.joined.proofs.Within.{Within}
use Rattle.joined.proofs.stepping.step_through.Given as goal

abbrev pub invariant-loop-turn : goal.invariant-loop-turn
invariant-loop-turn l =
    Within l.chip l.sheet (rigged l.initial.rig l.initial.held l.initial.code l.initial.data l.initial.reply l.initial.frame l.initial.sums) l.most l._turn (rigged l.rig l.held l.code l.data l.reply l.frame l.sums)
