-- `standin_frames::frame_core` meets its contract. Assumes nothing.
use mathlib.Core.Path.{◌∙◌}
use Rattle.standin_frames.proofs.frame_core.Goals as goal

pub returns-clause-reply_after : goal.returns-clause-reply_after
returns-clause-reply_after c = c.by_change.ensures.outcome _ _ _ ∙ c.frame_change.ensures.reply_after
