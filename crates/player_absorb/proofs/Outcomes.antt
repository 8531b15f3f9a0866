-- One outcome: two results that both meet the promise of a reply taken in agree in the player and the lent list of sums. Assumes nothing.
use mathlib.Core.Path.{◌≡◌, sym, ap, ◌∙◌}
use mathlib.Core.List.{List}
use Prim.Native.Nat.{ℕ}
use Rattle.rules.specs.declared.Player.{Player}
use Rattle.rules.specs.Player.{Absorbed, absorbs}

pub one_taking : (due : Absorbed) (a b : Player) (u v : List ℕ) → absorbs a u ≡ due → absorbs b v ≡ due → (a ≡ b) × (u ≡ v)
one_taking due a b u v p q =
    let e = p ∙ sym q in (ap (λ (c : Absorbed). c.player) e, ap (λ (c : Absorbed). c.sums) e)
