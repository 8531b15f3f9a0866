-- `text_told::notes::put_note` meets its contract: by the note, which the match knows. Assumes nothing.
use Rattle.rules.specs.Text.{note_line}
use Rattle.text_out.specs.Out.{add}
use Rattle.text_told.proofs.notes.put_note.Goals as goal

pub returns-in_default : goal.returns-in_default
unfolding note_line add
returns-in_default c = rw c.in_default.is

pub returns-in-Bits : goal.returns-in-Bits
unfolding note_line add
returns-in-Bits c = rw (c.in-Some.is, c.in-Bits.is) c.put_bytes.ensures

pub returns-in-EndByte : goal.returns-in-EndByte
unfolding note_line add
returns-in-EndByte c = rw (c.in-Some.is, c.in-EndByte.is) c.put_bytes-in-EndByte.ensures
