-- `text_show::refused::first_to_break` meets its contract: the first is among those that are left. Assumes nothing.
use mathlib.Core.Path.{◌≡◌}
use Prim.Native.Nat.{◌-◌, ◌<◌, ◌≤◌}
use Rattle.rules.specs.Sheet.{count}
use Rattle.text_show.specs.Refused.{first_to_break}
use Rattle.text_show.proofs.refused.first_to_break.Given as goal

abbrev pub invariant-loop-i : goal.invariant-loop-i
invariant-loop-i l =
    (l.i ≤ l.n) × (l.n < 65536) × (first_to_break l.refusal l.sheet 0 (count l.sheet) ≡ first_to_break l.refusal l.sheet l.i (l.n - l.i))

abbrev pub decreases-loop-i : goal.decreases-loop-i
decreases-loop-i l = l.n - l.i
