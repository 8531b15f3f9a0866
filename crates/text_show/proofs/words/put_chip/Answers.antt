-- `text_show::words::put_chip` meets its contract: by its count of code blocks. Assumes nothing.
use borrow.Author.Tests.{eq-eqb, ne_eqb}
use Rattle.text_show.specs.Words.{chip_line}
use Rattle.text_show.proofs.words.put_chip.Goals as goal

pub returns-then-chip-eq64 : goal.returns-then-chip-eq64
unfolding chip_line
returns-then-chip-eq64 c =
    rw (eq-eqb c.args.chip.code 64 c.if-chip-eq64.true) c.put_bytes.ensures

pub returns : goal.returns
unfolding chip_line
returns c =
    rw (ne_eqb c.args.chip.code 64 c.if-chip-eq64.false) c.put_bytes-2.ensures
