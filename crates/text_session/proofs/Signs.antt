-- Laws of a line by itself: one for each outcome. Assumes nothing.
use mathlib.Core.Path.{◌≡◌, refl, sym, ap, ◌∙◌}
use mathlib.Core.Bool.{Bool, true, false, cond, not, ◌&&◌}
use mathlib.Core.List.{List, [], ◌∷◌}
use Prim.Native.Nat.{ℕ, ◌+◌}
use native.Mathlib.Omega.{arith}
use denote.Ref.{Bor}
use Rattle.std.specs.Prelude.{Option, Some, None}
use Rattle.std.specs.Option.{MatchOption, unwrap_or}
use lib.Dec.{eqb}
use lib.ListN.{length, take, drop}
use borrow.Author.Tests.{eq-eqb, ne_eqb, eqb-true}
use Rattle.std.specs.Cmp.Lexicographic.{pointwise}
use Rattle.rules.specs.Chip.{byte_at, same}
use Rattle.rules.specs.Lines.{is_row, row_bytes, values}
use Rattle.rules.specs.Capture.{power_sign, given_sign, some_pairs, is_line, given}
use Rattle.text_read.specs.Bytes.{is_bytes}
use Rattle.text_read.proofs.Parts.{same_as}
use Rattle.text_session.specs.Session.{has_sign}

some_bytes : (r : List ℕ) → is_bytes r ≡ some_pairs r
unfolding is_bytes some_pairs
some_bytes r = go (eqb (length r) 0)
  where
    go : (x : Bool) → cond x false (is_row r) ≡ (not x && is_row r)
    go true = refl
    go false = refl

-- the line of a power-on, as `==` finds it
pub is_power : (t x : List ℕ) (r : Bool) → r ≡ pointwise eqb t x → x ≡ power_sign ∷ [] → r ≡ same t (power_sign ∷ [])
is_power t x r e f = e ∙ ap (λ (y : List ℕ). pointwise eqb t y) f ∙ same_as t (power_sign ∷ [])

module _ (l : List ℕ) where
  pub line_power : same l (power_sign ∷ []) ≡ true → is_line l ≡ true
  unfolding is_line
  line_power e = simp e

  module _ (p : same l (power_sign ∷ []) ≡ false) where
    pub line_unsigned : has_sign l ≡ false → is_line l ≡ false
    unfolding is_line
    line_unsigned e = rw (p, e)

    pub line_signed : has_sign l ≡ true → is_line l ≡ is_bytes (drop 1 l)
    unfolding is_line
    line_signed e = rw (p, e, some_bytes (drop 1 l))

  pub given_row : byte_at l 0 ≡ given_sign → given l ≡ row_bytes (drop 1 l)
  unfolding given
  given_row e = simp (eq-eqb _ _ e)

  pub given_none : (byte_at l 0 ≡ given_sign → ⊥) → given l ≡ row_bytes []
  unfolding given row_bytes values
  given_none n = simp (ne_eqb _ _ n)

-- what stands behind the sign, as `strip_prefix` finds it
pub given_got : (l : List ℕ) (o : Option (Bor (List ℕ))) (none : Bor (List ℕ)) → none.now ≡ []
    → MatchOption o (pointwise eqb (take 1 l) (given_sign ∷ []) ≡ false) (λ x. (pointwise eqb (take 1 l) (given_sign ∷ []) ≡ true) × (x.now ≡ drop 1 l) × (length x.now + 1 ≡ length l))
    → row_bytes (unwrap_or o none).now ≡ given l
given_got [] None none z h = rw z (sym (given_none [] (λ e. omega (arith, e))))
given_got (b ∷ t) None none z h = rw z (sym (given_none (b ∷ t) (λ (e : b ≡ given_sign). let q = eq-eqb _ _ e in cc)))
given_got [] (Some x) none z h = absurd (omega (arith, h.2))
given_got (b ∷ t) (Some x) none z h = go (eqb b given_sign) refl h.0
  where
    go : (y : Bool) → eqb b given_sign ≡ y → (y && true) ≡ true → row_bytes x.now ≡ given (b ∷ t)
    go true e p = ap row_bytes h.1 ∙ sym (given_row (b ∷ t) (eqb-true _ _ e))
    go false e p = absurd cc
