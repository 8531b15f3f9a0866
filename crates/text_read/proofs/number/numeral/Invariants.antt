-- `text_read::number::numeral` meets its contract: the digits that are left decide. Assumes nothing.
use mathlib.Core.Path.{◌≡◌}
use lib.ListN.{drop}
use Rattle.text_read.specs.Numerals.{numeral}
use Rattle.text_read.proofs.number.numeral.Given as goal

abbrev pub invariant-loop-b : goal.invariant-loop-b
invariant-loop-b l = numeral l.base l.most 0 l.text ≡ numeral l.base l.most l.n (drop l.b-index l.text)
