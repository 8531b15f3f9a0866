-- Laws of the first rule that applies, whatever the rules name. Assumes nothing.
use mathlib.Core.Path.{◌≡◌, refl}
use mathlib.Core.Bool.{Bool, true, false}
use mathlib.Core.List.{List, [], ◌∷◌}
use Rattle.rules.specs.First.{Rule, rule, first}

module _ {A : Type 0} (none : A) where
  module _ (n : A) (b : Bool) (rs : List (Rule A)) where
    pub applies : b ≡ true → first none (rule n b ∷ rs) ≡ n
    unfolding first
    applies e = rw e

    pub passed : b ≡ false → first none (rule n b ∷ rs) ≡ first none rs
    unfolding first
    passed e = rw e

  pub none_applies : first none [] ≡ none
  unfolding first
  none_applies = refl
