-- What has to be for a turn, and for a step. Assumes nothing.
use Rattle.std.specs.Prelude.{ℕ, ◌≤◌, ◌≡◌, false, List, length}
use Rattle.rules.specs.declared.Chip.{Chip}
use Rattle.rules.specs.Answers.{Accepted}
use Rattle.rules.specs.Sheet.{verdict}
use Rattle.rules.specs.Player.{lost}
use Rattle.rules.specs.Run.{Joined}
use Rattle.joined_laws.specs.Turns.{Sized, Fit, AtBeginning, Framed}

-- the sheet is accepted, and the buffers have room
pub record Rooms (chip : Chip) (s : List ℕ) (j : Joined) : Type 0 where
  pub accepted : verdict chip s (length j.sums) ≡ Accepted
  pub frame : 260 ≤ length j.frame
  pub reply : 16 ≤ length j.reply

-- a turn: the player is in the sheet, and the frame that it sends is a whole one of the kind awaited
pub record TurnReady (chip : Chip) (s : List ℕ) (j : Joined) : Type 0 where
  pub rooms : Rooms chip s j
  pub found : lost chip s j.player ≡ false
  pub fit : Fit chip j.state.memory
  pub framed : Framed chip s j

-- a step: the player is at its beginning
pub record StepReady (chip : Chip) (s : List ℕ) (j : Joined) : Type 0 where
  pub rooms : Rooms chip s j
  pub sized : Sized chip
  pub begins : AtBeginning chip s j
