-- `standin_command::refuse` meets its contract. Assumes nothing.
use Rattle.standin_state.proofs.Handed.{same_out}
use Rattle.standin_command.proofs.refuse.Goals as goal

pub returns : goal.returns
returns c = λ m. same_out _ _ _ _ _ _ (rw (c.note_of-note.ensures, c.phase_after-after.ensures, c.status_byte-status.ensures)) (c.refuse_with.ensures m)
