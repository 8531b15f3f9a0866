-- `text_show::refused::put_refused` meets its contract: the texts of the calls, one behind the other. Assumes nothing.
use Rattle.text_out.proofs.Appended.{add_append}
use Rattle.text_show.specs.Refused.{refused_text}
use Rattle.text_show.proofs.refused.put_refused.Goals as goal

pub returns : goal.returns
unfolding refused_text
returns c =
    simp add_append (rw (c.put.ensures, c.put_meaning-at.ensures, c.put_entry-at.ensures, c.put_rule-at.ensures, c.count-n.ensures.0, c.first_to_break-i.ensures))
