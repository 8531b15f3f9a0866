-- What has to be for a whole sheet. Assumes nothing.
use Rattle.std.specs.Prelude.{◌≡◌, true, List, ℕ}
use Rattle.rules.specs.declared.Chip.{Chip}
use Rattle.rules.specs.declared.Stage.TheVariants.{New}
use Rattle.rules.specs.Run.{Joined, waits}
use Rattle.joined.specs.Turn.{Rooms}
use Rattle.joined_laws.specs.Turns.{Sized, Fit}

-- a sheet: the player is a new one, and the stand-in waits for a command
pub record PlayReady (chip : Chip) (s : List ℕ) (j : Joined) : Type 0 where
  pub rooms : Rooms chip s j
  pub sized : Sized chip
  pub fresh : j.player.stage ≡ New
  pub waiting : waits chip j.state ≡ true
  pub fit : Fit chip j.state.memory
