-- `text_cells::cells::put_bytes` meets its contract: the bytes passed are in their cells. Assumes nothing.
use mathlib.Core.Path.{◌≡◌}
use Prim.Native.Nat.{ℕ, ◌<◌}
use lib.ListN.{length, get_or}
use Rattle.rules.specs.Lines.{pair_bytes}
use Rattle.rules.specs.Hex.{data_of}
use Rattle.text_cells.proofs.cells.put_bytes.Given as goal

abbrev pub invariant-loop-i : goal.invariant-loop-i
invariant-loop-i l =
    (length l.cells ≡ length (data_of (pair_bytes l.row)))
    × ((k : ℕ) → k < l.i → get_or l.cells k 0 ≡ get_or (data_of (pair_bytes l.row)) k 0)
