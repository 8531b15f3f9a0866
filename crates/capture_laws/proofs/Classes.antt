-- What a judging comes to: all lines are good, or one is the first of bad form, or one is the first that is wrong. Assumes nothing.
use mathlib.Core.Path.{◌≡◌, refl, ap, ◌∙◌}
use mathlib.Core.Bool.{Bool, true, false}
use mathlib.Core.Logic.{◌⊎◌, inl, inr}
use mathlib.Core.List.{List, [], ◌∷◌}
use Prim.Native.Nat.{ℕ, zero, suc, ◌+◌, ◌<◌, ◌≤◌}
use native.Mathlib.Nat.{le_of_suc-le-suc}
use native.Mathlib.Omega.{arith}
use lib.ListN.{length}
use Rattle.rules.specs.declared.Chip.{Chip}
use Rattle.rules.specs.CaptureVerdicts.{CaptureVerdict, Accepted, Wrong, BadForm}
use Rattle.rules.specs.Capture.{Heard, looked, is_line, fits, hears, judged}
use Rattle.capture_laws.specs.Conditions.{line_at, chip_after}

-- the tests at line i, behind n lines
unfoldable pub form_at : List (List ℕ) → List ℕ → ℕ → Bool
form_at [] [] i = true
form_at [] (b ∷ left) i = false
form_at (l ∷ ls) left zero = is_line l
form_at (l ∷ ls) left (suc i) = form_at ls left i

unfoldable pub fits_at : Chip → ℕ → Heard → List (List ℕ) → ℕ → Bool
fits_at chip n h ls zero = fits n h.due (line_at ls 0)
fits_at chip n h [] (suc i) = true
fits_at chip n h (l ∷ ls) (suc i) = fits_at chip (n + 1) (hears chip h.state l) ls i

module _ (chip : Chip) (ls : List (List ℕ)) (left : List ℕ) (n : ℕ) (h : Heard) where
  abbrev pub Passes : ℕ → Type 0
  Passes i = (form_at ls left i ≡ true) × (fits_at chip n h ls i ≡ true)

  abbrev pub Comes : CaptureVerdict → ℕ → Type 0
  Comes v i = judged chip ls left n h ≡ looked v (chip_after chip h.state ls i)

  pub record AllPass : Type 0 where
    pub passes : (i : ℕ) → i ≤ length ls → Passes i
    pub comes : Comes Accepted (length ls)

  pub record BadFirst : Type 0 where
    pub at : ℕ
    pub there : at ≤ length ls
    pub before : (j : ℕ) → j < at → Passes j
    pub form : form_at ls left at ≡ false
    pub comes : Comes (BadForm (suc (n + at))) at

  pub record WrongFirst : Type 0 where
    pub at : ℕ
    pub there : at ≤ length ls
    pub before : (j : ℕ) → j < at → Passes j
    pub form : form_at ls left at ≡ true
    pub fit : fits_at chip n h ls at ≡ false
    pub comes : Comes (Wrong (suc (n + at))) at

  abbrev pub Class : Type 0
  Class = AllPass ⊎ (BadFirst ⊎ WrongFirst)

-- one line more in front
module _ (chip : Chip) (l : List ℕ) (ls : List (List ℕ)) (left : List ℕ) (n : ℕ) (h : Heard) (f : is_line l ≡ true) (g : fits n h.due l ≡ true) where
  abbrev next : Heard
  next = hears chip h.state l

  goes : judged chip (l ∷ ls) left n h ≡ judged chip ls left (n + 1) next
  unfolding judged
  goes = rw (f, g)

  passes_before : (at : ℕ) → ((j : ℕ) → j < at → Passes chip ls left (n + 1) next j) → (j : ℕ) → j < suc at → Passes chip (l ∷ ls) left n h j
  unfolding form_at fits_at
  passes_before at p zero k = (f, g)
  passes_before at p (suc j) k = p j (le_of_suc-le-suc k)

  passes_all : ((i : ℕ) → i ≤ length ls → Passes chip ls left (n + 1) next i) → (i : ℕ) → i ≤ suc (length ls) → Passes chip (l ∷ ls) left n h i
  unfolding form_at fits_at
  passes_all p zero k = (f, g)
  passes_all p (suc i) k = p i (le_of_suc-le-suc k)

  number : (at : ℕ) → suc (n + 1 + at) ≡ suc (n + suc at)
  number at = omega arith

  pub behind_one : Class chip ls left (n + 1) next → Class chip (l ∷ ls) left n h
  unfolding form_at fits_at chip_after
  behind_one (inl a) = inl (record { passes = passes_all a.passes; comes = goes ∙ a.comes })
  behind_one (inr (inl b)) =
      inr (inl (record {
        at = suc b.at;
        there = omega (arith, b.there);
        before = passes_before b.at b.before;
        form = b.form;
        comes = goes ∙ b.comes ∙ ap (λ (k : ℕ). looked (BadForm k) (chip_after chip next.state ls b.at)) (number b.at);
      }))
  behind_one (inr (inr w)) =
      inr (inr (record {
        at = suc w.at;
        there = omega (arith, w.there);
        before = passes_before w.at w.before;
        form = w.form;
        fit = w.fit;
        comes = goes ∙ w.comes ∙ ap (λ (k : ℕ). looked (Wrong k) (chip_after chip next.state ls w.at)) (number w.at);
      }))

here : (n : ℕ) → n + 1 ≡ suc (n + 0)
here n = omega arith

pub classify : (chip : Chip) (ls : List (List ℕ)) (left : List ℕ) (n : ℕ) (h : Heard) → Class chip ls left n h
unfolding judged form_at fits_at chip_after
classify chip [] [] n h = go (fits n h.due []) refl
  where
    go : (x : Bool) → fits n h.due [] ≡ x → Class chip [] [] n h
    go true e = inl (record { passes = only e; comes = rw e })
      where
        only : fits n h.due [] ≡ true → (i : ℕ) → i ≤ 0 → Passes chip [] [] n h i
        only q zero k = (refl, q)
        only q (suc i) k = absurd (omega (arith, k))
    go false e =
        inr (inr (record {
          at = 0;
          there = omega arith;
          before = λ j k. absurd (omega (arith, k));
          form = refl;
          fit = e;
          comes = rw (e, here n);
        }))
classify chip [] (b ∷ left) n h =
    inr (inl (record { at = 0; there = omega arith; before = λ j k. absurd (omega (arith, k)); form = refl; comes = rw (here n) }))
classify chip (l ∷ ls) left n h = go (classify chip ls left (n + 1) (hears chip h.state l)) (is_line l) refl (fits n h.due l) refl
  where
    go : Class chip ls left (n + 1) (hears chip h.state l) → (x : Bool) → is_line l ≡ x → (y : Bool) → fits n h.due l ≡ y → Class chip (l ∷ ls) left n h
    go later false e y q = inr (inl (record { at = 0; there = omega arith; before = λ j k. absurd (omega (arith, k)); form = e; comes = rw (e, here n) }))
    go later true e false q =
        inr (inr (record { at = 0; there = omega arith; before = λ j k. absurd (omega (arith, k)); form = e; fit = q; comes = rw (e, q, here n) }))
    go later true e true q = behind_one chip l ls left n h e q later
