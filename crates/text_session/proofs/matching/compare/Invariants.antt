-- `text_session::matching::compare` meets its contract: what is left of the answer decides. Assumes nothing.
use mathlib.Core.Path.{◌≡◌}
use mathlib.Core.List.{List, ◌++◌}
use Prim.Native.Nat.{ℕ}
use lib.ListN.{drop}
use Rattle.rules.specs.Chip.{same}
use Rattle.rules.specs.Lines.{row_bytes}
use Rattle.text_session.proofs.matching.compare.Given as goal

abbrev pub invariant-loop-byte : goal.invariant-loop-byte
invariant-loop-byte l =
    (later : List ℕ) → same (l.answer ++ later) (drop l.initial.at (row_bytes l.row)) ≡ same (drop l.byte-index l.answer ++ later) (drop l.at (row_bytes l.row))
