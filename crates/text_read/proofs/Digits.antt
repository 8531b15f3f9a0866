-- Laws of digits and pairs read as an Option. Assumes nothing.
use mathlib.Core.Path.{◌≡◌, refl, sym, ap, ◌∙◌}
use mathlib.Core.Bool.{Bool, true, false, cond}
use mathlib.Core.List.{List, [], ◌∷◌}
use Prim.Native.Nat.{ℕ, ◌+◌, ◌*◌, ◌%◌, ◌<◌, ◌≤◌}
use native.Mathlib.Omega.{arith}
use lib.Dec.{ltb}
use borrow.Author.Tests.{eq-eqb, ne_eqb, lt-ltb, le-ltb, ltb-true, ltb-false}
use Rattle.std.specs.Prelude.{Some, None, is_some}
use Rattle.std.specs.Option.{unwrap_or}
use lib.ListN.{length, get_or, drop}
use Rattle.rules.specs.Lines.{digit, two_digits, pair, spaced_pair, is_row}
use Rattle.text_read.specs.Bytes.{below, is_bytes}

-- ---- a value below a bound ----

module _ (b n : ℕ) where
  pub is_below : n < b → below b n ≡ Some n
  unfolding below
  is_below h = rw (lt-ltb n b h)

  pub not_below : b ≤ n → below b n ≡ None
  unfolding below
  not_below h = rw (le-ltb n b h)

  pub none_below : None ≡ below b n → b ≤ n
  unfolding below
  none_below e = go (ltb n b) refl e
    where
      go : (x : Bool) → ltb n b ≡ x → None ≡ cond x (Some n) None → b ≤ n
      go true p q = absurd (cc)
      go false p q = ltb-false _ _ p

  pub some_below : (d : ℕ) → Some d ≡ below b n → (n ≡ d) × (d < b)
  unfolding below
  some_below d e = go (ltb n b) refl e
    where
      go : (x : Bool) → ltb n b ≡ x → Some d ≡ cond x (Some n) None → (n ≡ d) × (d < b)
      go true p q = let f : n ≡ d = cc in (f, let h = ltb-true _ _ p in omega arith)
      go false p q = absurd (cc)

module _ (b n : ℕ) where
  some_ltb : is_some (below b n) ≡ ltb n b
  unfolding below
  some_ltb = go (ltb n b)
    where
      go : (x : Bool) → is_some (cond x (Some n) None) ≡ x
      go true = refl
      go false = refl

  pub below_if_some : is_some (below b n) ≡ true → n < b
  below_if_some e = ltb-true _ _ (sym some_ltb ∙ e)

  pub past_if_none : is_some (below b n) ≡ false → b ≤ n
  past_if_none e = ltb-false _ _ (sym some_ltb ∙ e)

pub byte_or_0 : (n : ℕ) → n ≤ 256 → unwrap_or (below 256 n) 0 ≡ n % 256
unfolding below
byte_or_0 n h = go (ltb n 256) refl
  where
    go : (x : Bool) → ltb n 256 ≡ x → unwrap_or (cond x (Some n) None) 0 ≡ n % 256
    go true p = let f = ltb-true _ _ p in omega arith
    go false p = let f = ltb-false _ _ p in let e : n ≡ 256 = omega arith in rw e

-- ---- two digits ----

module _ (h l : ℕ) where
  pub no_high : None ≡ below 16 (digit h) → below 256 (two_digits h l) ≡ None
  unfolding two_digits
  no_high e = not_below 256 _ (let g = none_below _ _ e in simp (le-ltb (digit h) 16 g) (omega arith))

  module _ (a : ℕ) (x : Some a ≡ below 16 (digit h)) where
    pub no_low : None ≡ below 16 (digit l) → below 256 (two_digits h l) ≡ None
    unfolding two_digits
    no_low e =
        let p = some_below _ _ a x in
        let f : digit h < 16 = omega (arith, p) in
        let g = none_below _ _ e in
        not_below 256 _ (simp (lt-ltb (digit h) 16 f, le-ltb (digit l) 16 g) (omega arith))

    pub both_digits : (b : ℕ) → Some b ≡ below 16 (digit l) → below 256 (two_digits h l) ≡ Some (a * 16 + b)
    unfolding two_digits
    both_digits b y =
        let p = some_below _ _ a x in
        let q = some_below _ _ b y in
        let f : digit h < 16 = omega (arith, p) in
        let g : digit l < 16 = omega (arith, q) in
        let s : two_digits h l ≡ a * 16 + b = simp (lt-ltb (digit h) 16 f, lt-ltb (digit l) 16 g) (omega (arith, p.0, q.0)) in
        ap (below 256) s ∙ is_below 256 (a * 16 + b) (omega (arith, p.1, q.1))

-- ---- pairs at the head of a text ----

pub short_text : (t : List ℕ) → length t < 2 → below 256 (pair t) ≡ None
unfolding pair
short_text [] h = not_below 256 256 (omega arith)
short_text (x ∷ []) h = not_below 256 256 (omega arith)
short_text (x ∷ y ∷ t) h = absurd (omega arith)

pub head_pair : (t : List ℕ) → 2 ≤ length t → pair t ≡ two_digits (get_or t 0 0) (get_or t 1 0)
unfolding pair
head_pair [] h = absurd (omega arith)
head_pair (x ∷ []) h = absurd (omega arith)
head_pair (x ∷ y ∷ t) h = refl

pub empty_text : (t : List ℕ) → length t < 1 → below 256 (spaced_pair t) ≡ None
unfolding spaced_pair
empty_text [] h = not_below 256 256 (omega arith)
empty_text (x ∷ t) h = absurd (omega arith)

pub other_head : (t : List ℕ) → 1 ≤ length t → (get_or t 0 0 ≡ 0x20 → ⊥) → below 256 (spaced_pair t) ≡ None
unfolding spaced_pair
other_head [] h n = absurd (omega arith)
other_head (x ∷ t) h n = not_below 256 _ (simp (ne_eqb x 0x20 n) (omega arith))

pub behind_space : (t : List ℕ) → 1 ≤ length t → get_or t 0 0 ≡ 0x20 → spaced_pair t ≡ pair (drop 1 t)
unfolding spaced_pair
behind_space [] h e = absurd (omega arith)
behind_space (x ∷ t) h e = simp (eq-eqb x 0x20 e)

-- ---- a row of at least one byte ----

pub some_bytes : (r : List ℕ) → (length r ≡ 0 → ⊥) → is_bytes r ≡ is_row r
unfolding is_bytes
some_bytes r n = simp (ne_eqb _ _ n)

pub no_bytes : (r : List ℕ) → length r ≡ 0 → is_bytes r ≡ false
unfolding is_bytes
no_bytes r e = simp (eq-eqb _ _ e)
