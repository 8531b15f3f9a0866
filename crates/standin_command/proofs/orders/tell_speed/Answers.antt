-- `standin_command::orders::tell_speed` meets its contract: there is room for its frame. Assumes nothing.
use mathlib.Core.Path.{ap, ◌∙◌}
use mathlib.Core.List.{[], ◌∷◌}
use native.Mathlib.Omega.{arith}
use Rattle.rules.specs.declared.Phase.{Phase}
use Rattle.rules.specs.declared.Task.TheVariants.{Idle}
use Rattle.rules.specs.Notes.{Empty}
use Rattle.rules.specs.Frame.{data_start, last_end}
use Rattle.frame_build.proofs.Buffers.{frame_bytes, length_frame}
use Rattle.standin_state.specs.View.{resting, response}
use Rattle.standin_command.proofs.Answers.{comes}
use Rattle.standin_command.proofs.orders.tell_speed.Goals as goal

pub returns : goal.returns
returns c =
    λ m. comes _ _ _ _ _ _ m _ _ _ (c.resting.ensures ∙ ap (λ (p : Phase). response (resting p Idle c.args.o) c.put_frame-n.result Empty) c.after_speed.ensures) (c.put_frame-n.ensures ∙ frame_bytes data_start last_end (0x06 ∷ 0x20 ∷ 0x00 ∷ []) _ (omega arith) (omega arith)) (omega (arith, length_frame data_start last_end (0x06 ∷ 0x20 ∷ 0x00 ∷ []))) c.told-reply
