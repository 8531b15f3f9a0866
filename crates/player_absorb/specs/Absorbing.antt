-- A reply taken in by itself, on every player and every sheet: a player whose step, block or page is not in the sheet stands. Assumes
-- nothing.
use Rattle.std.specs.Prelude.{ℕ, cond, List}
use Rattle.rules.specs.declared.Chip.{Chip}
use Rattle.rules.specs.declared.Player.{Player}
use Rattle.rules.specs.Player.{Absorbed, absorbs, absorbed, lost}

-- A REPLY IS TAKEN IN
unfoldable pub absorbed_in : Chip → List ℕ → Player → List ℕ → List ℕ → Absorbed
absorbed_in chip s p r sums = cond (lost chip s p) (absorbs p sums) (absorbed chip s p r sums)
