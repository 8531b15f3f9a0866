-- One outcome: two results that both meet the promise of a frame given agree in the player, the count and the lent buffer. Assumes nothing.
use mathlib.Core.Path.{◌≡◌, sym, ap, ◌∙◌}
use mathlib.Core.List.{List}
use Prim.Native.Nat.{ℕ}
use Rattle.rules.specs.declared.Player.{Player}
use Rattle.player_emit.specs.Emitting.{Emitting, emitting}

pub one_giving : (due : Emitting) (a b : Player) (m n : ℕ) (x y : List ℕ)
    → emitting a m x ≡ due
    → emitting b n y ≡ due
    → (a ≡ b) × (m ≡ n) × (x ≡ y)
one_giving due a b m n x y p q =
    let e = p ∙ sym q in
    (ap (λ (c : Emitting). c.player) e, ap (λ (c : Emitting). c.sent) e, ap (λ (c : Emitting). c.frame) e)
