-- `text_told::play::put_play` meets its contract: heading, lines and end line, one behind the other. Assumes nothing.
use Rattle.text_out.proofs.Appended.{add_append, filled}
use Rattle.rules.specs.Text.{play_text}
use Rattle.text_told.proofs.play.put_play.Goals as goal

pub returns : goal.returns
unfolding play_text
returns c =
    filled _ _ _ _ (simp add_append (rw (
      c.put_end.ensures,
      c.put_lines-at.ensures,
      c.put_bytes-at.ensures,
    )))
