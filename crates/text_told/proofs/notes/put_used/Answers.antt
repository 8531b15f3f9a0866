-- `text_told::notes::put_used` meets its contract: the words and numbers, one behind the other. Assumes nothing.
use Rattle.text_out.proofs.Appended.{add_append}
use Rattle.rules.specs.Text.{note_line}
use Rattle.text_told.proofs.notes.put_used.Goals as goal

pub returns : goal.returns
unfolding note_line
returns c =
    simp add_append (rw (
      c.put.ensures,
      c.put_decimal-at-2.ensures,
      c.put-at-2.ensures,
      c.put_decimal-at.ensures,
      c.put-at.ensures,
      c.put_flash-at.ensures,
      c.put_bytes-at.ensures,
    ))
