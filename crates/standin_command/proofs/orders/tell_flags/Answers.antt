-- `standin_command::orders::tell_flags` meets its contract. Assumes nothing.
use Rattle.standin_command.proofs.orders.tell_flags.Goals as goal

pub returns : goal.returns
returns c = λ m. rw (← c.shown_sf1.ensures, ← c.shown_sf2.ensures) (c.tell.ensures m)
