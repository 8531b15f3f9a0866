-- Laws of tests: what follows of both, of either and of five at once, and one choice before another. Assumes nothing.
use mathlib.Core.Path.{◌≡◌, refl, sym}
use mathlib.Core.Bool.{Bool, true, false, cond, ◌&&◌, ◌||◌, false≢true}
use mathlib.Core.Logic.{◌⊎◌, inl, inr}

pub both : (a b : Bool) → (a && b) ≡ true → (a ≡ true) × (b ≡ true)
both true b e = (refl, e)
both false b e = absurd (false≢true e)

pub and_false : (b : Bool) → (b && false) ≡ false
and_false true = refl
and_false false = refl

pub neither : (a b : Bool) → (a || b) ≡ false → (a ≡ false) × (b ≡ false)
neither true b e = absurd (false≢true (sym e))
neither false b e = (refl, e)

pub or_true : (b : Bool) → (b || true) ≡ true
or_true true = refl
or_true false = refl

pub each_of_five : (a b c d e : Bool) → (a && b && c && d && e) ≡ true
    → (a ≡ true) × (b ≡ true) × (c ≡ true) × (d ≡ true) × (e ≡ true)
each_of_five true true true true e h = (refl, refl, refl, refl, h)
each_of_five true true true false e h = absurd (false≢true h)
each_of_five true true false d e h = absurd (false≢true h)
each_of_five true false c d e h = absurd (false≢true h)
each_of_five false b c d e h = absurd (false≢true h)

-- five tests of which the second goes with the fourth and the third with the last
pub none_left : (o w v b e : Bool) → (w && b) ≡ false → (o && w && v && b && e) ≡ false
none_left false w v b e h = refl
none_left true false v b e h = refl
none_left true true false b e h = refl
none_left true true true false e h = refl
none_left true true true true e h = absurd (false≢true (sym h))

pub none_right : (o w v b e : Bool) → (v && e) ≡ false → (o && w && v && b && e) ≡ false
none_right false w v b e h = refl
none_right true false v b e h = refl
none_right true true false b e h = refl
none_right true true true false e h = refl
none_right true true true true e h = h

pub all_five : (o w v b e : Bool) → o ≡ true → (w && b) ≡ true → (v && e) ≡ true → (o && w && v && b && e) ≡ true
all_five true true true true e p q r = r
all_five true true true false e p q r = q
all_five true true false b e p q r = r
all_five true false v b e p q r = q
all_five false w v b e p q r = p

-- what holds of both arms holds of the one taken
pub chosen : {A : Type 0} (P : A → Type 0) (t : Bool) (a b : A) → (t ≡ true → P a) → P b → P (cond t a b)
chosen P true a b p q = p refl
chosen P false a b p q = q

module _ {A : Type 0} where
  pub either : (t : Bool) (y : A) → cond t y y ≡ y
  either true y = refl
  either false y = refl

  pub nested : (s t : Bool) (y n : A) → cond (s && t && true) y n ≡ cond s (cond t y n) n
  nested true true y n = refl
  nested true false y n = refl
  nested false t y n = refl

  -- which arm of a choice was taken, told by its value
  pub picked : (t : Bool) (y n r : A) → cond t y n ≡ r → (r ≡ n → ⊥) → (t ≡ true) × (y ≡ r)
  picked true y n r e d = (refl, e)
  picked false y n r e d = absurd (d (sym e))

  pub passed : (t : Bool) (y n : A) → cond t y n ≡ n → (y ≡ n → ⊥) → t ≡ false
  passed true y n e d = absurd (d e)
  passed false y n e d = refl

  -- a first choice before a second one is the first alone, or the second
  pub split : (t : Bool) (y n x : A) → (cond t y x ≡ cond t y n) ⊎ (cond t y x ≡ x)
  split true y n x = inl refl
  split false y n x = inr refl

  -- what a first choice finds stands before a second one, and what it does not find is left to it
  pub first_found : (t : Bool) (y n r x : A) → cond t y n ≡ r → (r ≡ n → ⊥) → r ≡ cond t y x
  first_found true y n r x e d = sym e
  first_found false y n r x e d = absurd (d (sym e))

  pub first_left : (t : Bool) (y n x : A) → cond t y n ≡ n → (y ≡ n → ⊥) → x ≡ cond t y x
  first_left true y n x e d = absurd (d e)
  first_left false y n x e d = refl
