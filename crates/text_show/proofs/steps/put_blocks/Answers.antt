-- `text_show::steps::put_blocks` meets its contract: the texts of the calls, one behind the other. Assumes nothing.
use Rattle.text_out.proofs.Appended.{add_append}
use Rattle.text_show.specs.Steps.{blocks_text}
use Rattle.text_show.proofs.steps.put_blocks.Goals as goal

pub returns : goal.returns
unfolding blocks_text
returns c =
    simp add_append (rw (c.put_count.ensures, c.put_count-at.ensures, c.put_flash-at.ensures))
