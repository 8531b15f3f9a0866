-- `sheet::twice::any_taken` meets its contract: the marks are those of the entries passed, and the entries that are left decide. Assumes nothing.
use mathlib.Core.List.{List}
use Prim.Native.Nat.{ℕ}
use Rattle.chip_finder.specs.LentFlashes.{memory}
use Rattle.sheet.proofs.Marks.{Asked, Going}
use Rattle.sheet.proofs.twice.any_taken.Given as goal

abbrev pub invariant-loop-e : goal.invariant-loop-e
invariant-loop-e l = (s : List ℕ) → Asked s l.table l.fn.code l.fn.data → Going s l.e-index (memory l.code l.data)
