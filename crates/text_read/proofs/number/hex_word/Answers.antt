-- `text_read::number::hex_word` meets its contract. Assumes nothing.
use mathlib.Core.Path.{sym, ◌∙◌}
use Rattle.text_read.proofs.Numerals.{hex_other, hex_so_many}
use Rattle.text_read.proofs.number.hex_word.Goals as goal

pub returns-then-text-digits : goal.returns-then-text-digits
returns-then-text-digits c = sym (hex_other _ _ c.if-text-digits.true)

pub returns : goal.returns
returns c = c.numeral.ensures ∙ sym (hex_so_many _ _ c.if-text-digits.false)
