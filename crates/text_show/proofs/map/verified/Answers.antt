-- `text_show::map::verified` meets its contract: written, or not. Assumes nothing.
use borrow.Author.Tests.{eq-eqb, ne_eqb}
use Rattle.text_show.specs.Map.{touched}
use Rattle.text_show.proofs.map.verified.Goals as goal

pub returns-then-c-eq-WRITTEN : goal.returns-then-c-eq-WRITTEN
unfolding touched
returns-then-c-eq-WRITTEN c = rw (eq-eqb c.args.c 0x77 c.if-c-eq-WRITTEN.true)

pub returns : goal.returns
unfolding touched
returns c = rw (ne_eqb c.args.c 0x77 c.if-c-eq-WRITTEN.false) c.looked_at.ensures
