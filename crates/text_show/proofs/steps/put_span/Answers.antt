-- `text_show::steps::put_span` meets its contract: the texts of the calls, one behind the other. Assumes nothing.
use Rattle.text_out.proofs.Appended.{add_append}
use Rattle.text_show.specs.Steps.{span_text}
use Rattle.text_show.proofs.steps.put_span.Goals as goal

pub returns : goal.returns
unfolding span_text
returns c =
    simp add_append (rw (c.put_hex5.ensures, c.put-at.ensures, c.put_hex5-at.ensures, c.last_byte-to.ensures, c.first_byte-from.ensures))
