-- `joined::whole::steps_through` meets its contract: the run of the sheet leads to every step. Assumes nothing.
use mathlib.Core.Path.{◌≡◌}
use mathlib.Core.List.{◌++◌}
use lib.ListN.{length, drop}
use Rattle.rules.specs.Sheet.{count}
use Rattle.joined.specs.Rigs.{rigged}
use Rattle.joined.proofs.Through.{Through}
use Rattle.joined.proofs.whole.steps_through.Given as goal

abbrev pub invariant-loop-took : goal.invariant-loop-took
invariant-loop-took l =
    (Through l.chip l.sheet (rigged l.initial.rig l.initial.held l.initial.code l.initial.data l.initial.reply l.initial.frame l.initial.sums) l.fn.each l.took-index (rigged l.rig l.held l.code l.data l.reply l.frame l.sums) (l.took-items ++ drop l.n l.fn.each))
    × (l.n ≡ count l.sheet)
    × (length l.took-items ≡ l.n)
