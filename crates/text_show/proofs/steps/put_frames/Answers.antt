-- `text_show::steps::put_frames` meets its contract: the texts of the calls, one behind the other. Assumes nothing.
use Rattle.text_out.proofs.Appended.{add_append}
use Rattle.text_show.specs.Steps.{frames_line}
use Rattle.text_show.proofs.steps.put_frames.Goals as goal

pub returns : goal.returns
unfolding frames_line
returns c =
    simp add_append (rw (c.put_bytes.ensures, c.put_count-at.ensures, c.most_sent-sent.ensures))
