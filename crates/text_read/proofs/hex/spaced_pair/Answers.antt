-- `text_read::hex::spaced_pair` meets its contract. Assumes nothing.
use mathlib.Core.Path.{sym, ap, ◌∙◌}
use mathlib.Core.List.{List}
use Prim.Native.Nat.{ℕ}
use Rattle.rules.specs.Lines.{pair}
use Rattle.text_read.specs.Bytes.{below}
use Rattle.text_read.proofs.Parts.{rest_from}
use Rattle.text_read.proofs.Digits.{behind_space}
use Rattle.text_read.proofs.hex.spaced_pair.Goals as goal

pub returns-in-len1-up : goal.returns-in-len1-up
returns-in-len1-up c =
    let t = c.args.text.now in
    c.pair.ensures ∙ ap (λ (r : List ℕ). below 256 (pair r)) (rest_from 1 t) ∙ sym (ap (below 256) (behind_space t c.in-len1-up.len_at_least c.if-space-eq32.true))
