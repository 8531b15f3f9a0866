-- One outcome: two results that both meet the promise of a player call agree in record, answer, report and both lent buffers. Assumes nothing.
use mathlib.Core.Path.{◌≡◌, sym, ap, ◌∙◌}
use mathlib.Core.List.{List}
use Prim.Native.Nat.{ℕ}
use Rattle.rules.specs.Player as rules
use Rattle.player.specs.declared.call.Called.{Called}
use Rattle.player.specs.Calls.{called_as}

-- a player call
pub one_call : (due : rules.Called) (a b : Called) (x y : List ℕ) (u v : List ℕ)
    → called_as a x u ≡ due
    → called_as b y v ≡ due
    → (a.player ≡ b.player) × (a.next ≡ b.next) × (a.report ≡ b.report) × (x ≡ y) × (u ≡ v)
one_call due a b x y u v p q =
    let e = p ∙ sym q in (
      ap (λ (c : rules.Called). c.player) e,
      ap (λ (c : rules.Called). c.call) e,
      ap (λ (c : rules.Called). c.report) e,
      ap (λ (c : rules.Called). c.frame) e,
      ap (λ (c : rules.Called). c.sums) e,
    )
