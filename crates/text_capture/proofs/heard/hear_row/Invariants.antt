-- `text_capture::heard::hear_row` meets its contract: the bytes that are left decide, with what was matched so far. Assumes nothing.
use mathlib.Core.Path.{◌≡◌}
use Prim.Native.Nat.{◌-◌, ◌≤◌}
use lib.ListN.{length, drop}
use Rattle.rules.specs.Chip.{same}
use Rattle.rules.specs.Lines.{row_bytes}
use Rattle.rules.specs.Run.{all_bytes}
use Rattle.rules.specs.StandIn.{feed}
use Rattle.chip_finder.specs.LentFlashes.{memory}
use Rattle.standin_engine.specs.View.{view}
use Rattle.text_session.specs.Session.{matches}
use Rattle.text_capture.proofs.heard.hear_row.Given as goal

abbrev pub invariant-loop-k : goal.invariant-loop-k
invariant-loop-k l =
    (l.k ≤ l.k-end)
    × (l.k-end ≡ length (row_bytes l.sent))
    × (length l.code ≡ length l.initial.code)
    × (length l.data ≡ length l.initial.data)
    × (length l.reply ≡ 16)
    × ((feed l.chip (view l.initial.core l.initial.held (memory l.initial.code l.initial.data)) (row_bytes l.sent)).state ≡ (feed l.chip (view l.core l.held (memory l.code l.data)) (drop l.k (row_bytes l.sent))).state)
    × (same (all_bytes (feed l.chip (view l.initial.core l.initial.held (memory l.initial.code l.initial.data)) (row_bytes l.sent)).answers) (row_bytes l.row) ≡ matches l.stands (all_bytes (feed l.chip (view l.core l.held (memory l.code l.data)) (drop l.k (row_bytes l.sent))).answers) (row_bytes l.row))

abbrev pub decreases-loop-k : goal.decreases-loop-k
decreases-loop-k l =
    l.k-end - l.k
