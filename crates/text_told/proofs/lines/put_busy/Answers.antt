-- `text_told::lines::put_busy` meets its contract: the line is one text. Assumes nothing.
use Rattle.text_out.proofs.Appended.{filled}
use Rattle.text_told.proofs.lines.put_busy.Goals as goal

pub returns : goal.returns
returns c = filled _ _ _ _ c.put_bytes.ensures
