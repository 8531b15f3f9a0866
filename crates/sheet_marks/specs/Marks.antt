-- A row of marks, one byte a block: 0 where the block does not stand written, 1 where it does. Assumes nothing.
use Rattle.std.specs.Prelude.{ℕ, zero, suc, ◌+◌, Bool, true, false, cond, List, eqb, get_or, set}

-- an erase: block b and those behind it, so many, do not stand written
unfoldable pub cleared : ℕ → ℕ → List ℕ → List ℕ
cleared b zero row = row
cleared b (suc left) row = cleared (b + 1) left (set row b 0)

-- a write: they stand written, up to the first that did already
pub record Marked : Type 0 where
  pub again : Bool
  pub row : List ℕ

unfoldable pub marked : ℕ → ℕ → List ℕ → Marked
marked b zero row = record { again = false; row = row }
marked b (suc left) row =
    let later = marked (b + 1) left (set row b 1) in cond (eqb (get_or row b 0) 0) later (record { again = true; row = row })
