-- What a joined call of a whole sheet came to: it was played, and its end is that of the plain meaning. Assumes nothing.
use Rattle.std.specs.Prelude.{◌≡◌, List, ℕ}
use Rattle.rules.specs.declared.Chip.{Chip}
use Rattle.rules.specs.declared.Stage.TheVariants.{Over}
use Rattle.rules.specs.Meaning.{Ended}
use Rattle.rules.specs.Run.{Joined}
use Rattle.joined_laws.specs.Turns.{Settled, end_of}
use Rattle.joined.specs.Answers.{Answer, Played}

-- flash, options, report and list of sums are those, and so is the list of each step's frames; the player is at its end, and the stand-in waits
-- for a command, or is Silent where IFPR is 0 (02, M-106)
pub record CameTo (chip : Chip) (e : Ended) (each : List ℕ) (answer : Answer) (j : Joined) (list : List ℕ) : Type 0 where
  pub played : answer ≡ Played
  pub end : end_of j ≡ e
  pub frames : list ≡ each
  pub over : j.player.stage ≡ Over
  pub settled : Settled chip j.state
