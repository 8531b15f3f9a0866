-- `text_read::rows::put` meets its contract: the bytes passed are in their places. Assumes nothing.
use mathlib.Core.Path.{◌≡◌}
use Prim.Native.Nat.{ℕ, ◌<◌}
use lib.ListN.{length, get_or}
use Rattle.rules.specs.Lines.{row_bytes}
use Rattle.text_read.proofs.rows.put.Given as goal

abbrev pub invariant-loop-k : goal.invariant-loop-k
invariant-loop-k l =
    (length l.bytes ≡ length (row_bytes l.row)) × ((k : ℕ) → k < l.k → get_or l.bytes k 0 ≡ get_or (row_bytes l.row) k 0)
