-- `text_session::line::fits` meets its contract. Assumes nothing.
use borrow.Author.Tests.{eq-eqb}
use Rattle.text_session.proofs.Signs.{is_power}
use Rattle.text_session.proofs.line.fits.Goals as goal

pub returns-then-done-eq0 : goal.returns-then-done-eq0
returns-then-done-eq0 c = rw (eq-eqb c.args.done 0 c.if-done-eq0.true) (is_power _ _ _ c.eq.ensures c.as_slice.ensures)
