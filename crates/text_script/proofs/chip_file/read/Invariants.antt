-- `text_script::chip_file::read` meets its contract: the lines from `at` on decide. Assumes nothing.
use mathlib.Core.Path.{◌≡◌}
use Prim.Native.Nat.{◌-◌, ◌≤◌}
use lib.ListN.{length}
use Rattle.rules.specs.Lines.{lines_of}
use Rattle.chip_finder.specs.LentFlashes.{memory}
use Rattle.text_script.specs.ChipFiles.{stating, lines_state}
use Rattle.text_script.proofs.FileLines.{onward}
use Rattle.text_script.proofs.chip_file.read.Given as goal

abbrev pub invariant-loop-at : goal.invariant-loop-at
invariant-loop-at l =
    (length l.text ≤ 9223372036854775807)
    × (l.number ≤ l.at)
    × (l.at ≤ length l.text)
    × (length l.code ≡ length l.initial.code)
    × (length l.data ≡ length l.initial.data)
    × (lines_state (lines_of l.text).ended (lines_of l.text).rest 0 (stating l.initial.s (memory l.initial.code l.initial.data)) ≡ onward l.text l.at l.number (stating l.s (memory l.code l.data)))

abbrev pub decreases-loop-at : goal.decreases-loop-at
decreases-loop-at l =
    length l.text - l.at
