-- `text_hex::bodies::put_body` meets its contract: what is left of the cells, added to what there is, is the whole. Assumes nothing.
use mathlib.Core.Path.{◌≡◌}
use lib.ListN.{drop}
use Rattle.rules.specs.Hex.{cell_bytes}
use Rattle.text_out.specs.Out.{out, add}
use Rattle.text_hex.proofs.bodies.put_body.Given as goal

abbrev pub invariant-loop-cell : goal.invariant-loop-cell
invariant-loop-cell l = add (cell_bytes (drop l.cell-index l.cells)) (out l.next l.buf) ≡ add (cell_bytes l.cells) (out l.at l.initial.buf)
