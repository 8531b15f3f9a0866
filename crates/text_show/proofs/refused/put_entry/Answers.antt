-- `text_show::refused::put_entry` meets its contract: an entry, or none. Assumes nothing.
use borrow.Author.Tests.{lt-ltb, le-ltb}
use Rattle.text_out.specs.Out.{add}
use Rattle.text_out.proofs.Appended.{add_append}
use Rattle.text_show.specs.Refused.{entry_text}
use Rattle.text_show.proofs.refused.put_entry.Goals as goal

pub returns-then-i-n : goal.returns-then-i-n
unfolding entry_text
returns-then-i-n c =
    rw (lt-ltb c.args.i c.args.n c.if-i-n.true) (simp add_append (rw (c.put_bytes.ensures, c.put_count-at.ensures)))

pub returns : goal.returns
unfolding entry_text add
returns c = rw (le-ltb c.args.i c.args.n c.if-i-n.false)
