-- A step in code flash leaves the marks of the other flash. Assumes nothing.
use mathlib.Core.Path.{◌≡◌, ap}
use mathlib.Core.Bool.{Bool}
use mathlib.Core.List.{List}
use Prim.Native.Nat.{ℕ}
use Rattle.rules.specs.declared.Block.{Block}
use Rattle.rules.specs.declared.Flash.{Flash}
use Rattle.rules.specs.declared.Flash.TheVariants.{Code}
use Rattle.rules.specs.Answers.{Range, Blocks}
use Rattle.chip_finder.specs.LentFlashes.{memory}
use Rattle.sheet_marks.specs.Marks.{Marked}
use Rattle.sheet_marks.specs.Taken.{row_taken, Taken, step_taken}

-- a step, by its flash
module _ (kind : ℕ) (r : Range) (f : Flash) (first last : Block) (code dat new : List ℕ) (again : Bool) (blocks : r ≡ Blocks f first last) where
  pub code_taken : f ≡ Code → ◌≡◌ {A = Marked} (record { again = again; row = new }) (row_taken kind first last code)
      → ◌≡◌ {A = Taken} (record { again = again; rows = memory new dat }) (step_taken kind r (memory code dat))
  unfolding step_taken
  code_taken g t =
      rw (blocks, g) (ap (λ (x : Marked). record { again = x.again; rows = memory x.row dat }) t)
