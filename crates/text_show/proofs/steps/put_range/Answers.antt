-- `text_show::steps::put_range` meets its contract: the texts of the calls, one behind the other. Assumes nothing.
use Rattle.text_out.proofs.Appended.{add_append}
use Rattle.text_show.specs.Steps.{range_line}
use Rattle.text_show.proofs.steps.put_range.Goals as goal

pub returns : goal.returns
unfolding range_line
returns c =
    simp add_append (rw (c.put_bytes.ensures, c.put_count-at.ensures, c.put_span-at.ensures, c.put_bytes-at.ensures, c.put_blocks-at.ensures, c.put-at.ensures, c.put_name-at.ensures, c.step_pages-pages.ensures.0))
