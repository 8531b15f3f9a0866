-- 02, M-111: the theorem of a capture that specs/Conditions.antt states. Assumes nothing.
use mathlib.Core.Path.{◌≡◌, refl, sym, ap, ◌∙◌}
use mathlib.Core.Bool.{Bool, true, false}
use mathlib.Core.Logic.{◌⊎◌, inl, inr}
use mathlib.Core.List.{List}
use Prim.Native.Nat.{ℕ, suc, ◌+◌, ◌<◌, ◌≤◌}
use native.Mathlib.Omega.{arith}
use lib.Dec.{ltb}
use lib.ListN.{length}
use borrow.Author.Tests.{ltb-true, ltb-false}
use Rattle.rules.specs.declared.Chip.{Chip}
use Rattle.rules.specs.declared.Options.{Options}
use Rattle.rules.specs.Answers as verdict
use Rattle.rules.specs.CaptureVerdicts.{CaptureVerdict, Accepted, Wrong, BadForm, Refused}
use Rattle.rules.specs.Chip.{Memory}
use Rattle.rules.specs.StandIn.{flash_verdict}
use Rattle.rules.specs.Capture.{stated, Looked, looked, judged, captured, capture_line}
use Rattle.text_capture.proofs.Judging.{captured_taken}
use Rattle.capture_laws.specs.Conditions.{off, chip_after, lines, left, Good, GoodBefore, verdict_on, LeftBy, Judges, CaptureJudged}
use Rattle.capture_laws.proofs.Classes.{Passes, AllPass, BadFirst, WrongFirst, Class, classify}
use Rattle.capture_laws.proofs.Lines.{formed, not_formed, right, not_right}

-- which of the three verdicts it is
abbrev kind : CaptureVerdict → ℕ
kind Accepted = 0
kind (Wrong n) = 1
kind (BadForm n) = 2
kind (Refused n) = 3

other : {A : Type 0} (v w : CaptureVerdict) → v ≡ w → (kind v ≡ kind w → ⊥) → A
other v w e n = absurd (n (ap kind e))

-- less, equal or more
three : (i j : ℕ) → (i < j) ⊎ ((i ≡ j) ⊎ (j < i))
three i j = go (ltb i j) refl (ltb j i) refl
  where
    go : (x : Bool) → ltb i j ≡ x → (y : Bool) → ltb j i ≡ y → (i < j) ⊎ ((i ≡ j) ⊎ (j < i))
    go true p y q = inl (ltb-true i j p)
    go false p true q = inr (inr (ltb-true j i q))
    go false p false q = let a = ltb-false i j p in let b = ltb-false j i q in inr (inl (omega (arith, a, b)))

module _ (chip : Chip) (o : Options) (m : Memory) (text : List ℕ) (e : flash_verdict chip (length m.code) (length m.«data») ≡ verdict.Accepted) where
  abbrev ls : List (List ℕ)
  ls = lines chip o m text

  abbrev end : List ℕ
  end = left chip o m text

  abbrev Is : ℕ → Type 0
  Is i = Good chip o m text i

  good : (i : ℕ) → i ≤ length ls → Passes chip ls end 0 (stated o m) i → Is i
  good i k p = let f = formed ls end i k p.0 in (f, right chip (off o m) ls end i k f p.1)

  goods : (at : ℕ) → at ≤ length ls → ((j : ℕ) → j < at → Passes chip ls end 0 (stated o m) j) → GoodBefore chip o m text at
  goods at k p = (k, λ j q. good j (omega (arith, k, q)) (p j q))

  -- the verdict, and what is left, by what the judging comes to
  module _ (v : CaptureVerdict) (at : ℕ) (c : judged chip ls end 0 (stated o m) ≡ looked v (chip_after chip (off o m) ls at)) where
    whole : captured chip o m text ≡ looked v (chip_after chip (off o m) ls at)
    whole = captured_taken chip o m text e ∙ c

    is : verdict_on chip o m text ≡ v
    is = ap (λ (l : Looked). l.verdict) whole

    leaves : LeftBy chip o m text at
    leaves = (ap (λ (l : Looked). l.options) whole, ap (λ (l : Looked). l.memory) whole)

    -- another verdict than that
    not_so : {A : Type 0} (w : CaptureVerdict) → (kind v ≡ kind w → ⊥) → verdict_on chip o m text ≡ w → A
    not_so w n q = other v w (sym is ∙ q) n

  -- the first line that is not good is one alone
  module _ (at i : ℕ) (before : GoodBefore chip o m text at) (b : Is at → ⊥) (g : GoodBefore chip o m text i) (n : Is i → ⊥) where
    one_first : i ≡ at
    one_first = go (three i at)
      where
        go : (i < at) ⊎ ((i ≡ at) ⊎ (at < i)) → i ≡ at
        go (inl q) = absurd (n (before.1 i q))
        go (inr (inl q)) = q
        go (inr (inr q)) = absurd (b (g.1 at q))

  by_all : AllPass chip ls end 0 (stated o m) → Judges chip o m text
  by_all a =
      let all : (i : ℕ) → i ≤ length ls → Is i = λ i k. good i k (a.passes i k) in
      record {
        accepted = record { then = λ q. all; when = λ g. is Accepted _ a.comes };
        bad_form = λ i. record { then = λ q. not_so Accepted _ a.comes (BadForm (suc i)) (λ z. omega (arith, z)) q; when = λ p. absurd (p.1 (all i p.0.0).0) };
        wrong = λ i. record { then = λ q. not_so Accepted _ a.comes (Wrong (suc i)) (λ z. omega (arith, z)) q; when = λ p. absurd (p.2 (all i p.0.0).1) };
        left_whole = λ q. leaves Accepted _ a.comes;
        left_bad = λ i q. not_so Accepted _ a.comes (BadForm (suc i)) (λ z. omega (arith, z)) q;
        left_wrong = λ i q. not_so Accepted _ a.comes (Wrong (suc i)) (λ z. omega (arith, z)) q;
      }

  by_bad : BadFirst chip ls end 0 (stated o m) → Judges chip o m text
  by_bad b =
      let at = b.at in
      let before = goods at b.there b.before in
      let no = not_formed ls end at b.there b.form in
      let zero : 0 + at ≡ at = omega arith in
      let v : verdict_on chip o m text ≡ BadForm (suc at) = is (BadForm (suc (0 + at))) at b.comes ∙ ap (λ (k : ℕ). BadForm (suc k)) zero in
      let same_line : (i : ℕ) → verdict_on chip o m text ≡ BadForm (suc i) → i ≡ at =
      λ i q. let z : suc i ≡ suc at = ap capture_line (sym q ∙ v) in omega (arith, z) in
      record {
        accepted = record { then = λ q. not_so (BadForm (suc (0 + at))) at b.comes Accepted (λ z. omega (arith, z)) q; when = λ g. absurd (no (g at b.there).0) };
        bad_form = λ i. record { then = λ q. rw (same_line i q) (before, no); when = λ p. let z = one_first at i before (λ g. no g.0) p.0 (λ g. p.1 g.0) in rw z v };
        wrong = λ i. record { then = λ q. not_so (BadForm (suc (0 + at))) at b.comes (Wrong (suc i)) (λ z. omega (arith, z)) q; when = λ p. let z = one_first at i before (λ g. no g.0) p.0 (λ g. p.2 g.1) in absurd (no (rw (← z) p.1)) };
        left_whole = λ q. not_so (BadForm (suc (0 + at))) at b.comes Accepted (λ z. omega (arith, z)) q;
        left_bad = λ i q. rw (same_line i q) (leaves (BadForm (suc (0 + at))) at b.comes);
        left_wrong = λ i q. not_so (BadForm (suc (0 + at))) at b.comes (Wrong (suc i)) (λ z. omega (arith, z)) q;
      }

  by_wrong : WrongFirst chip ls end 0 (stated o m) → Judges chip o m text
  by_wrong w =
      let at = w.at in
      let before = goods at w.there w.before in
      let form = formed ls end at w.there w.form in
      let no = not_right chip (off o m) ls end at w.there w.fit in
      let zero : 0 + at ≡ at = omega arith in
      let v : verdict_on chip o m text ≡ Wrong (suc at) = is (Wrong (suc (0 + at))) at w.comes ∙ ap (λ (k : ℕ). Wrong (suc k)) zero in
      let same_line : (i : ℕ) → verdict_on chip o m text ≡ Wrong (suc i) → i ≡ at =
      λ i q. let z : suc i ≡ suc at = ap capture_line (sym q ∙ v) in omega (arith, z) in
      record {
        accepted = record { then = λ q. not_so (Wrong (suc (0 + at))) at w.comes Accepted (λ z. omega (arith, z)) q; when = λ g. absurd (no (g at w.there).1) };
        bad_form = λ i. record { then = λ q. not_so (Wrong (suc (0 + at))) at w.comes (BadForm (suc i)) (λ z. omega (arith, z)) q; when = λ p. let z = one_first at i before (λ g. no g.1) p.0 (λ g. p.1 g.0) in absurd (p.1 (rw z form)) };
        wrong = λ i. record { then = λ q. rw (same_line i q) (before, form, no); when = λ p. let z = one_first at i before (λ g. no g.1) p.0 (λ g. p.2 g.1) in rw z v };
        left_whole = λ q. not_so (Wrong (suc (0 + at))) at w.comes Accepted (λ z. omega (arith, z)) q;
        left_bad = λ i q. not_so (Wrong (suc (0 + at))) at w.comes (BadForm (suc i)) (λ z. omega (arith, z)) q;
        left_wrong = λ i q. rw (same_line i q) (leaves (Wrong (suc (0 + at))) at w.comes);
      }

  by_class : Class chip ls end 0 (stated o m) → Judges chip o m text
  by_class (inl a) = by_all a
  by_class (inr (inl b)) = by_bad b
  by_class (inr (inr w)) = by_wrong w

-- THE THEOREM
pub capture_judged : CaptureJudged
capture_judged chip o m text e =
    by_class chip o m text e (classify chip (lines chip o m text) (left chip o m text) 0 (stated o m))
