-- `text_told::lines::put_step` meets its contract: the texts of the calls, one behind the other. Assumes nothing.
use Rattle.text_out.proofs.Appended.{add_append}
use Rattle.rules.specs.Text.{step_line}
use Rattle.text_told.proofs.lines.put_step.Goals as goal

pub returns : goal.returns
unfolding step_line
returns c =
    simp add_append (rw (
      c.put.ensures,
      c.put_hex4-at.ensures,
      c.put-at-2.ensures,
      c.put_count-at.ensures,
      c.put_status-at.ensures,
      c.put-at.ensures,
      c.put_name-at.ensures,
    ))
