-- Two answers that name several things are the same only where each of them is. Assumes nothing.
use mathlib.Core.Path.{◌≡◌, ap}
use Rattle.std.specs.Prelude.{Option, Some}

module _ {A B : Type 0} (a c : A) (b d : B) where
  pub pair_parts : ◌≡◌ {A = Option (A × B)} (Some (a, b)) (Some (c, d)) → (a ≡ c) × (b ≡ d)
  pair_parts e =
      let p : ◌≡◌ {A = A × B} (a, b) (c, d) = cc e in
      (ap (λ (x : A × B). x.0) p, ap (λ (x : A × B). x.1) p)

module _ {A B C : Type 0} (a d : A) (b e : B) (c f : C) where
  pub triple_parts : ◌≡◌ {A = Option (A × B × C)} (Some (a, b, c)) (Some (d, e, f)) → (a ≡ d) × (b ≡ e) × (c ≡ f)
  triple_parts h =
      let p : ◌≡◌ {A = A × B × C} (a, b, c) (d, e, f) = cc h in
      (ap (λ (x : A × B × C). x.0) p, ap (λ (x : A × B × C). x.1) p, ap (λ (x : A × B × C). x.2) p)
