-- `text_told::lines::put_end` meets its contract: the texts of the calls, one behind the other. Assumes nothing.
use Rattle.text_out.proofs.Appended.{add_append}
use Rattle.rules.specs.Text.{end_line}
use Rattle.text_told.proofs.lines.put_end.Goals as goal

pub returns : goal.returns
unfolding end_line
returns c =
    simp add_append (rw (
      c.put.ensures,
      c.put_count-at-3.ensures,
      c.put_count-at-2.ensures,
      c.put_count-at.ensures,
      c.put_status-at.ensures,
      c.put_bytes-at.ensures,
    ))
