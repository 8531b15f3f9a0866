-- `text_told::lines::put_refused` meets its contract: the word, the letter and the number, one behind the other. Assumes nothing.
use Rattle.text_out.proofs.Appended.{add_append, filled}
use Rattle.rules.specs.Text.{refused_line}
use Rattle.text_told.proofs.lines.put_refused.Goals as goal

pub returns : goal.returns
unfolding refused_line
returns c =
    filled _ _ _ _ (simp add_append (rw (
      c.put.ensures,
      c.put_decimal-at.ensures,
      c.put-at.ensures,
      c.put_bytes-at.ensures,
      c.refusal_number-name.ensures,
    )))
