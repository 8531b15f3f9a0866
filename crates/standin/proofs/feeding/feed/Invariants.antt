-- `standin::feeding::feed` meets its contract. Assumes nothing.
use mathlib.Core.Path.{◌≡◌}
use Prim.Native.Nat.{◌*◌, ◌≤◌}
use lib.ListN.{length, drop}
use Rattle.chip_finder.specs.LentFlashes.{memory}
use Rattle.standin_engine.specs.View.{view}
use Rattle.standin.specs.Feeding.{feed_from, fed_into}
use Rattle.standin.proofs.feeding.feed.Given as goal

abbrev pub invariant-loop-i : goal.invariant-loop-i
invariant-loop-i l =
    (feed_from l.chip (view l.core l.held (memory l.code l.data)) l.answers l.w l.i (drop l.i l.bytes) ≡ fed_into l.chip (view l.initial.core l.initial.held (memory l.initial.code l.initial.data)) l.initial.answers l.bytes)
    × (l.i ≤ length l.bytes)
    × (l.w ≤ length l.answers)
    × (length l.answers ≡ length l.initial.answers)
    × (length l.code ≡ length l.initial.code)
    × (length l.data ≡ length l.initial.data)
    × (length l.answers ≤ 9223372036854775807)
    × (length l.bytes ≤ 9223372036854775807)
    × (l.i ≡ 0 → (l.core ≡ l.initial.core) × (l.held ≡ l.initial.held))
    × (l.w ≤ 16 * l.i)
