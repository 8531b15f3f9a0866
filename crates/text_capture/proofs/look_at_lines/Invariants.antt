-- `text_capture::look_at_lines` meets its contract: the lines from `at` on decide, once the line before them is heard. Assumes nothing.
use mathlib.Core.Path.{◌≡◌}
use mathlib.Core.List.{[]}
use Prim.Native.Nat.{◌-◌, ◌≤◌}
use lib.ListN.{length}
use Rattle.rules.specs.Lines.{lines_of}
use Rattle.rules.specs.Capture.{heard, hears, judged}
use Rattle.chip_finder.specs.LentFlashes.{memory}
use Rattle.standin_engine.specs.View.{view}
use Rattle.text_capture.proofs.Judging.{onward}
use Rattle.text_capture.proofs.look_at_lines.Given as goal

abbrev pub invariant-loop-at : goal.invariant-loop-at
invariant-loop-at l =
    (l.at ≤ length l.text)
    × (l.done ≤ l.at)
    × (length l.code ≡ length l.initial.code)
    × (length l.data ≡ length l.initial.data)
    × (length l.text ≤ 9223372036854775807)
    × (judged l.chip (lines_of l.text).ended (lines_of l.text).rest 0 (heard (view l.initial.core l.initial.held (memory l.initial.code l.initial.data)) []) ≡ onward l.chip l.text l.at l.done (hears l.chip (view l.core l.held (memory l.code l.data)) l.before))

abbrev pub decreases-loop-at : goal.decreases-loop-at
decreases-loop-at l =
    length l.text - l.at
