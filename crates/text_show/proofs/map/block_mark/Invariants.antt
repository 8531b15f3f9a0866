-- `text_show::map::block_mark` meets its contract: after the steps that were gone through. Assumes nothing.
use mathlib.Core.Path.{◌≡◌}
use Prim.Native.Nat.{◌-◌, ◌<◌, ◌≤◌}
use Rattle.rules.specs.Sheet.{count}
use Rattle.text_show.specs.Map.{mark_after}
use Rattle.text_show.proofs.map.block_mark.Given as goal

abbrev pub invariant-loop-i : goal.invariant-loop-i
invariant-loop-i l =
    (l.i ≤ l.i-end) × (l.i-end < 65536) × (l.i-end ≡ count l.sheet) × (l.c ≡ mark_after l.chip l.sheet l.f l.b l.i)

abbrev pub decreases-loop-i : goal.decreases-loop-i
decreases-loop-i l = l.i-end - l.i
