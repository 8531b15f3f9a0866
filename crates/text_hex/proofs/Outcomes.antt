-- One outcome: two results that both meet the promise of `make` agree in the answer and in the output buffer. Assumes nothing.
use mathlib.Core.Path.{◌≡◌, sym, ap, ◌∙◌}
use mathlib.Core.List.{List}
use Prim.Native.Nat.{ℕ}
use Rattle.rules.specs.Answers.{HexMade}
use Rattle.rules.specs.Hex.{Making}

pub one_making : (due : Making) (a b : HexMade) (x y : List ℕ)
    → ◌≡◌ {A = Making} (record { made = a; out = x }) due
    → ◌≡◌ {A = Making} (record { made = b; out = y }) due
    → (a ≡ b) × (x ≡ y)
one_making due a b x y p q =
    let e = p ∙ sym q in (ap (λ (m : Making). m.made) e, ap (λ (m : Making). m.out) e)
