-- The run of a step by itself comes to what it should, by computing it. Assumes nothing.
use mathlib.Core.Path.{◌≡◌, refl}
use mathlib.Core.Bool.{true}
use Rattle.rules.specs.declared.Stage.TheVariants.{Ready, Over}
use Rattle.rules.specs.declared.Status.TheVariants.{L1}
use Rattle.rules.specs.Player.{player, well}
use Rattle.rules.specs.Run.{clean}
use Rattle.rules.specs.Compute.{everything}
use Rattle.trials_frames.specs.StepRuns.{at_first, losing, first_step, second_step}

-- two frames, then the next step
pub first_step_lem : ((first_step clean).complete ≡ true) × ((first_step clean).reached.player ≡ player Ready 1 0 2 0 well)
unfolding everything at_first first_step
first_step_lem = (refl, refl)

-- and one more
pub second_step_lem : ((second_step clean).complete ≡ true) × ((second_step clean).reached.player ≡ player Over 2 0 3 0 well)
unfolding everything at_first first_step second_step
second_step_lem = (refl, refl)

-- the answer to the page is lost, and that to the sum
pub page_lost : ((first_step (losing 1)).complete ≡ true) × ((first_step (losing 1)).reached.player.status ≡ L1)
unfolding everything at_first first_step
page_lost = (refl, refl)

pub sum_lost : ((second_step (losing 2)).complete ≡ true) × ((second_step (losing 2)).reached.player.status ≡ L1)
unfolding everything at_first first_step second_step
sum_lost = (refl, refl)
