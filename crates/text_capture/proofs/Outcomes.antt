-- One outcome: two results that both meet the promise of `look_over` agree in the verdict, in the options and in both flashes. Assumes nothing.
use mathlib.Core.Path.{◌≡◌, sym, ap, ◌∙◌}
use Rattle.rules.specs.Chip.{Memory}
use Rattle.rules.specs.Capture.{Looked}
use Rattle.text_capture.specs.declared.LookedOver.{LookedOver}
use Rattle.text_capture.specs.Looking.{looked_as}

pub one_look : (due : Looked) (a b : LookedOver) (m n : Memory)
    → looked_as a m ≡ due
    → looked_as b n ≡ due
    → (a.verdict ≡ b.verdict) × (a.options ≡ b.options) × (m ≡ n)
one_look due a b m n p q =
    let e = p ∙ sym q in
    (ap (λ (l : Looked). l.verdict) e, ap (λ (l : Looked). l.options) e, ap (λ (l : Looked). l.memory) e)
