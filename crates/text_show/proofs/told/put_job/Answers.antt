-- `text_show::told::put_job` meets its contract: the texts of the calls, one behind the other. Assumes nothing.
use Rattle.text_out.proofs.Appended.{add_append}
use Rattle.text_show.specs.Show.{job_text}
use Rattle.text_show.proofs.told.put_job.Goals as goal

pub returns : goal.returns
unfolding job_text
returns c =
    simp add_append (rw (c.put_map.ensures, c.put_frames-at.ensures, c.put_steps-at.ensures, c.put_chip-at.ensures, c.against-chip.ensures))
