-- `text_read::in_hand::beginning` meets its contract. Assumes nothing.
use Rattle.text_read.specs.Sheets.{beginning}
use Rattle.text_read.proofs.in_hand.beginning.Goals as goal

pub returns-then-h : goal.returns-then-h
unfolding beginning
returns-then-h c = simp c.if-h.true

pub returns : goal.returns
unfolding beginning
returns c = simp c.if-h.false
