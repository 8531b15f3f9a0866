-- `text_hex::bodies::put_flash` meets its contract: the blocks that are left, added to what there is, are all. Assumes nothing.
use mathlib.Core.Path.{◌≡◌}
use mathlib.Core.List.{List, ◌++◌}
use Prim.Native.Nat.{◌-◌, ◌≤◌}
use lib.ListN.{length}
use Rattle.rules.specs.Chip.{small, blocks}
use Rattle.text_hex.specs.Gathered.{memory_of}
use Rattle.text_out.specs.Out.{out, add}
use Rattle.rules.specs.Hex.{Named, named_from, bodies_of}
use Rattle.text_hex.proofs.bodies.put_flash.Given as goal

abbrev pub invariant-loop-i : goal.invariant-loop-i
invariant-loop-i l =
    (l.i ≤ l.i-end)
    × (l.i-end ≡ blocks small l.f)
    × (l.i-end ≤ 16)
    × (length l.buf ≡ length l.initial.buf)
    × ((later : List Named) → add (bodies_of (memory_of l.cells) (named_from (memory_of l.cells) l.f l.i (l.i-end - l.i) ++ later)) (out l.next l.buf)
    ≡ add (bodies_of (memory_of l.cells) (named_from (memory_of l.cells) l.f 0 (blocks small l.f) ++ later)) (out l.at l.initial.buf))

abbrev pub decreases-loop-i : goal.decreases-loop-i
decreases-loop-i l = l.i-end - l.i
