-- `text_show::refused::put_rule` meets its contract: the texts of the calls, one behind the other. Assumes nothing.
use Rattle.text_out.proofs.Appended.{add_append}
use Rattle.text_show.specs.Refused.{rule_text}
use Rattle.text_show.proofs.refused.put_rule.Goals as goal

pub returns : goal.returns
unfolding rule_text
returns c =
    simp add_append (rw (c.put_bytes.ensures, c.put_decimal-at.ensures, c.put-at.ensures, c.put_bytes-at.ensures, c.refusal_number-name.ensures))
