-- `text_show::map::looked_at` meets its contract: untouched, or not. Assumes nothing.
use borrow.Author.Tests.{eq-eqb, ne_eqb}
use Rattle.text_show.specs.Map.{looked_at}
use Rattle.text_show.proofs.map.looked_at.Goals as goal

pub returns-then-c-eq-UNTOUCHED : goal.returns-then-c-eq-UNTOUCHED
unfolding looked_at
returns-then-c-eq-UNTOUCHED c = rw (eq-eqb c.args.c 0x2E c.if-c-eq-UNTOUCHED.true)

pub returns : goal.returns
unfolding looked_at
returns c = rw (ne_eqb c.args.c 0x2E c.if-c-eq-UNTOUCHED.false)
