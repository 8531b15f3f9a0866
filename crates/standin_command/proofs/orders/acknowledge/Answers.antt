-- `standin_command::orders::acknowledge` meets its contract. Assumes nothing.
use Rattle.rules.specs.Command.{ack}
use Rattle.standin_command.proofs.Answers.{comes, one_short}
use Rattle.standin_command.proofs.orders.acknowledge.Goals as goal

pub returns : goal.returns
returns c = λ m. comes _ _ _ _ _ _ m ack _ _ c.resting.ensures c.put_one-n.ensures (one_short 0x06) c.told-reply
