-- `standin_command::orders::tell_window` meets its contract. Assumes nothing.
use Rattle.standin_command.proofs.orders.tell_window.Goals as goal

pub returns : goal.returns
returns c =
    λ m. rw (← c.shown_sws-a.ensures, ← c.shown_swe-b.ensures, ← c.low_byte.ensures, ← c.middle_byte.ensures, ← c.low_byte-2.ensures, ← c.middle_byte-2.ensures) (c.tell.ensures m)
