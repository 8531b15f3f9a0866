-- `standin_command::orders::tell_word` meets its contract. Assumes nothing.
use Rattle.standin_command.proofs.orders.tell_word.Goals as goal

pub returns : goal.returns
returns c = λ m. rw (← c.low_byte.ensures, ← c.middle_byte.ensures) (c.tell.ensures m)
