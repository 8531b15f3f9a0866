-- Laws of parts of a text. Assumes nothing.
use mathlib.Core.Path.{◌≡◌, refl, sym, ◌∙◌}
use mathlib.Core.Bool.{Bool, true, false, cond, ◌&&◌}
use mathlib.Core.List.{List, [], ◌∷◌}
use Prim.Native.Nat.{ℕ, ◌+◌, ◌-◌, ◌<◌, ◌≤◌}
use native.Mathlib.Omega.{arith}
use lib.Dec.{eqb, leb, ltb}
use denote.Ref.{Bor}
use lib.ListN.{length, take, drop, length-drop, length-take, drop_of_length-le}
use lib.Seq.{take_all}
use borrow.Author.Tests.{eq-eqb, ne_eqb, eqb-true, ltb-true, ltb-false, lt-ltb, le-ltb, le-leb, lt-leb}
use mathlib.Core.Logic.{◌⊎◌, inl, inr}
use Rattle.std.specs.Prelude.{Option, Some, None}
use Rattle.std.specs.Option.{MatchOption, unwrap_or}
use Rattle.std.specs.List.{slice_range}
use Rattle.std.specs.Cmp.Lexicographic.{pointwise}
use Rattle.rules.specs.Chip.{same}
use Rattle.rules.specs.Lines.{between, starts_with}

-- what `&s[i..]` holds
pub rest_from : (i : ℕ) (s : List ℕ) → take (length s - i) (drop i s) ≡ drop i s
rest_from i s = take_all (length s - i) (drop i s) (omega (arith, length-drop i s))

module _ (from end : ℕ) (t : List ℕ) where
  between_past : length t < end → between from end t ≡ []
  unfolding between
  between_past h = simp (lt-leb _ _ h)

  between_crossed : end < from → between from end t ≡ []
  unfolding between
  between_crossed h = go (leb end (length t)) (let e : end - from ≡ 0 = omega arith in rw e)
    where
      go : (x : Bool) → take (end - from) (drop from t) ≡ [] → cond x (take (end - from) (drop from t)) [] ≡ []
      go true e = e
      go false e = refl

  between_some : end ≤ length t → between from end t ≡ take (end - from) (drop from t)
  unfolding between
  between_some h = simp (le-leb _ _ h)

  -- what `get` finds
  pub between_got : (o : Option (Bor (List ℕ))) (none : Bor (List ℕ)) → none.now ≡ []
      → MatchOption o ((end < from) ⊎ (length t < end)) (λ x. (from ≤ end) × (end ≤ length t) × (x.now ≡ slice_range t from end) × (length x.now + from ≡ end))
      → (unwrap_or o none).now ≡ between from end t
  between_got None none z (inl h) = z ∙ sym (between_crossed h)
  between_got None none z (inr h) = z ∙ sym (between_past h)
  between_got (Some x) none z h = h.2 ∙ sym (between_some h.1)

module _ (s t : List ℕ) where
  pub starts_short : length t < length s → starts_with s t ≡ false
  unfolding starts_with
  starts_short h = simp (lt-ltb _ _ h)

  pub starts_same : length s ≤ length t → starts_with s t ≡ same (take (length s) t) s
  unfolding starts_with
  starts_same h = simp (le-ltb _ _ h)

pub rest_past : (i : ℕ) (s : List ℕ) → length s < i → [] ≡ drop i s
rest_past i s h = let g : length s ≤ i = omega arith in sym (drop_of_length-le s g)

-- ---- the library's `==` and `starts_with`, by the words of the definitions ----

eqb_turn : (x y : ℕ) → eqb x y ≡ eqb y x
eqb_turn x y = go (eqb x y) refl
  where
    go : (b : Bool) → eqb x y ≡ b → b ≡ eqb y x
    go true p = sym (eq-eqb y x (sym (eqb-true x y p)))
    go false p = sym (ne_eqb y x (λ (e : y ≡ x). let t = eq-eqb x y (sym e) in cc))

pub same_as : (xs ys : List ℕ) → pointwise eqb xs ys ≡ same xs ys
unfolding same
same_as [] [] = refl
same_as [] (y ∷ ys) = refl
same_as (x ∷ xs) [] = refl
same_as (x ∷ xs) (y ∷ ys) = go (eqb x y) (same_as xs ys)
  where
    go : (b : Bool) → pointwise eqb xs ys ≡ same xs ys → (b && pointwise eqb xs ys) ≡ cond b (same xs ys) false
    go true e = e
    go false e = refl

same_turn : (xs ys : List ℕ) → same xs ys ≡ same ys xs
unfolding same
same_turn [] [] = refl
same_turn [] (y ∷ ys) = refl
same_turn (x ∷ xs) [] = refl
same_turn (x ∷ xs) (y ∷ ys) = rw (eqb_turn x y, same_turn xs ys)

-- another length
other_length : (xs ys : List ℕ) → length ys < length xs → pointwise eqb xs ys ≡ false
other_length [] ys h = absurd (omega arith)
other_length (x ∷ xs) [] h = refl
other_length (x ∷ xs) (y ∷ ys) h = go (eqb x y) (other_length xs ys (omega arith))
  where
    go : (b : Bool) → pointwise eqb xs ys ≡ false → (b && pointwise eqb xs ys) ≡ false
    go true e = e
    go false e = refl

pub starts_as : (s t : List ℕ) → pointwise eqb s (take (length s) t) ≡ starts_with s t
starts_as s t = go (ltb (length t) (length s)) refl
  where
    go : (b : Bool) → ltb (length t) (length s) ≡ b → pointwise eqb s (take (length s) t) ≡ starts_with s t
    go true p =
        let h = ltb-true _ _ p in
        other_length s (take (length s) t) (omega (arith, h, length-take (length s) t)) ∙ sym (starts_short s t h)
    go false p =
        let h = ltb-false _ _ p in
        same_as s (take (length s) t) ∙ same_turn s (take (length s) t) ∙ sym (starts_same s t h)
