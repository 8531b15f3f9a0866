-- `text_show::steps::put_lock` meets its contract: the texts of the calls, one behind the other. Assumes nothing.
use Rattle.text_out.proofs.Appended.{add_append}
use Rattle.text_show.specs.Steps.{lock_line}
use Rattle.text_show.proofs.steps.put_lock.Goals as goal

pub returns : goal.returns
unfolding lock_line
returns c =
    simp add_append (rw (c.put_clears.ensures, c.put_hex2-at-2.ensures, c.put_bytes-at-2.ensures, c.put_hex2-at.ensures, c.put_bytes-at.ensures, c.put_decimal-at.ensures))
