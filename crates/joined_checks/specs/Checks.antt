-- What has to be before a step or a sheet is played: which refusal is named, and which tests are made. Assumes nothing.
use Rattle.std.specs.Prelude.{ℕ, ◌+◌, Bool, true, false, ◌&&◌, List, leb}
use Rattle.rules.specs.declared.Chip.{Chip}
use Rattle.rules.specs.declared.Player.{Player}
use Rattle.rules.specs.declared.Stage.{Stage}
use Rattle.rules.specs.declared.Stage.TheVariants.{New, Ready, Block, Commanded, Page, Paged, Over}
use Rattle.rules.specs.Answers.{Verdict}
use Rattle.rules.specs.StandIn.{lent_verdict}
use Rattle.rules.specs.First.{and_then}
use Rattle.rules.specs.Sheet.{step_at}
use Rattle.rules.specs.Player.{player_verdict}
use Rattle.rules.specs.Run.{most_frames}
use Rattle.joined_checks.specs.declared.LentSizes.{LentSizes}

-- J, P1, P2 as in a player call, then D1, D2, D3 as in a byte call
unfoldable pub joined_verdict : Chip → List ℕ → Player → LentSizes → Verdict
joined_verdict chip s p l =
    and_then (player_verdict chip s p l.frame l.sums)
    (lent_verdict chip l.code l.«data» l.reply)

-- a player at the beginning of a step, which can count the frames of it
abbrev pub is_ready : Stage → Bool
is_ready New = false
is_ready Ready = true
is_ready Block = false
is_ready (Commanded k) = false
is_ready (Page k) = false
is_ready (Paged k) = false
is_ready Over = false

unfoldable pub starts_step : Chip → List ℕ → Player → Bool
starts_step chip s p =
    is_ready p.stage && leb (p.frames + most_frames (step_at chip s p.step)) 0xFFFFFFFF
