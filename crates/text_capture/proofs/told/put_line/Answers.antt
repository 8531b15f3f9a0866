-- `text_capture::told::put_line` meets its contract: the texts of the calls, one behind the other. Assumes nothing.
use Rattle.text_out.proofs.Appended.{add_append}
use Rattle.text_capture.specs.Told.{line_told}
use Rattle.text_capture.proofs.told.put_line.Goals as goal

pub returns : goal.returns
unfolding line_told
returns c = simp add_append (cc)
