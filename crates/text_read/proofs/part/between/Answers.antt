-- `text_read::part::between` meets its contract. Assumes nothing.
use mathlib.Core.Path.{refl, ap, ◌∙◌}
use mathlib.Core.List.{List}
use Prim.Native.Nat.{ℕ}
use denote.Ref.{Bor}
use Rattle.text_read.proofs.Parts.{between_got}
use Rattle.text_read.proofs.part.between.Goals as goal

pub returns : goal.returns
returns c =
    let a = c.args in
    ap (λ (b : Bor (List ℕ)). b.now) c.unwrap_or.ensures ∙ between_got a.from a.end a.s.now c.get.result _ refl c.get.ensures.lookup.0
