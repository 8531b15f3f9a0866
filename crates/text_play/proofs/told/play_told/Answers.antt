-- `text_play::told::play_told` meets its contract: the joined call's outcome, and its text. Assumes nothing.
use Rattle.text_play.proofs.Outcome.{told_as}
use Rattle.text_play.proofs.told.play_told.Goals as goal

pub returns-clause-filled : goal.returns-clause-filled
returns-clause-filled c =
    told_as _ _ _ _ _ _ _ _ _ _ c.report.ensures.value c.play-ended.ensures.each_after c.put_outcome-size.ensures
