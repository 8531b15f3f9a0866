-- `text_lines::output::row` meets its contract: what is left of the bytes, added to what there is, is the whole. Assumes nothing.
use mathlib.Core.Path.{◌≡◌}
use lib.ListN.{drop}
use Rattle.text_out.specs.Out.{out, add}
use Rattle.text_lines.specs.Rows.{row_text}
use Rattle.text_lines.proofs.output.row.Given as goal

abbrev pub invariant-loop-b : goal.invariant-loop-b
invariant-loop-b l = add (row_text (drop l.b-index l.bytes)) (out l.at l.line) ≡ add (row_text l.bytes) (out l.from l.initial.line)
