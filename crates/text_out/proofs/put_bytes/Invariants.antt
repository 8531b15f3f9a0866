-- `text_out::put_bytes` meets its contract: what is left of the text, added to what there is, is the whole. Assumes nothing.
use mathlib.Core.Path.{◌≡◌}
use lib.ListN.{drop}
use Rattle.text_out.specs.Out.{out, add}
use Rattle.text_out.proofs.put_bytes.Given as goal

abbrev pub invariant-loop-byte : goal.invariant-loop-byte
invariant-loop-byte l = add (drop l.byte-index l.text) (out l.next l.buf) ≡ add l.text (out l.at l.initial.buf)
