-- `text_cells::read_lines` meets its contract: the lines from `at` on decide, with the cells so far. Assumes nothing.
use mathlib.Core.Path.{◌≡◌}
use Prim.Native.Nat.{◌-◌, ◌<◌, ◌≤◌}
use lib.ListN.{length}
use Rattle.rules.specs.Hex.{hex_read}
use Rattle.chip_finder.specs.LentFlashes.{memory}
use Rattle.text_cells.proofs.TakenLines.{onward}
use Rattle.text_cells.proofs.read_lines.Given as goal

abbrev pub invariant-loop-at : goal.invariant-loop-at
invariant-loop-at l =
    (l.at ≤ length l.text)
    × (l.done ≤ l.at)
    × (l.upper < 65536)
    × (hex_read l.text (memory l.initial.code l.initial.data) ≡ onward l.text l.at l.done l.upper (memory l.code l.data))

abbrev pub decreases-loop-at : goal.decreases-loop-at
decreases-loop-at l = length l.text - l.at
