-- `standin_command::refuse_with` meets its contract. Assumes nothing.
use Rattle.standin_command.proofs.Answers.{comes, one_short}
use Rattle.standin_command.proofs.refuse_with.Goals as goal

pub returns : goal.returns
returns c = λ m. comes _ _ _ _ _ _ m _ _ _ c.resting.ensures c.put_one-n.ensures (one_short _) c.told-reply
