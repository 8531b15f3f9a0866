-- `standin_command::orders::tell` meets its contract: there is room for the ACK and a short frame. Assumes nothing.
use mathlib.Core.Path.{◌∙◌}
use Rattle.standin_command.proofs.Answers.{comes, told_put, told_short}
use Rattle.standin_command.proofs.orders.tell.Goals as goal

pub returns : goal.returns
returns c =
    let body = c.args.body.now in
    λ m. comes _ _ _ _ _ _ m _ _ _ c.resting.ensures (c.put_ack_and-n.ensures ∙ told_put body _ c.requires.0 c.requires.1 c.told-reply) (told_short body c.requires.1) c.told-reply
