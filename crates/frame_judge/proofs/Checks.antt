-- The rows that every frame has: end byte and SUM. Assumes nothing.
use Rattle.std.proofs.Common.{◌≡◌, ℕ, Bool, true, false, cond, Ok, Err, not, eqb, List, ◌∷◌, refl, ◌∙◌, sym, ap}
use Rattle.rules.specs.Faults.{Fault, Well, EndByte, Sum}
use Rattle.rules.specs.First.{Rule, rule, first, first_fault}
use Rattle.rules.proofs.First.{passed, applies}
use Rattle.rules.specs.Frame.{end_of, sum_holds}

-- a verdict, and where it finds nothing the next one
abbrev pub and_then : Fault → Fault → Fault
and_then (Ok x) v = v
and_then (Err row) v = Err row

-- rows 1 and 2, which every frame has: its end byte against the one due, and its SUM
module _ (due : ℕ) (f : List ℕ) (cs : List (Rule Fault)) where
  abbrev rows12 : List (Rule Fault)
  rows12 = rule EndByte (not (eqb (end_of f) due)) ∷ rule Sum (not (sum_holds f)) ∷ cs

  pub end_told : not (eqb (end_of f) due) ≡ true → first_fault rows12 ≡ EndByte
  end_told e = applies _ _ _ _ e

  pub sum_told_lem : not (eqb (end_of f) due) ≡ false → not (sum_holds f) ≡ true → first_fault rows12 ≡ Sum
  sum_told_lem e s = passed _ _ _ _ e ∙ applies _ _ _ _ s

  pub framed : not (eqb (end_of f) due) ≡ false → not (sum_holds f) ≡ false → first_fault rows12 ≡ first_fault cs
  framed e s = passed _ _ _ _ e ∙ passed _ _ _ _ s

  pub ends_first : first_fault rows12 ≡ and_then (cond (eqb (end_of f) due) (cond (sum_holds f) Well Sum) EndByte) (first_fault cs)
  unfolding first
  ends_first = go (eqb (end_of f) due) (sum_holds f)
    where
      go : (e s : Bool) → cond (not e) EndByte (cond (not s) Sum (first_fault cs)) ≡ and_then (cond e (cond s Well Sum) EndByte) (first_fault cs)
      go true true = refl
      go true false = refl
      go false s = refl

-- the same tests, of what was read for the end byte, for the one due and for the SUM
pub end_by : (e d r s : ℕ) (t : Bool) → r ≡ e → s ≡ d → not (eqb r s) ≡ t → not (eqb e d) ≡ t
end_by e d r s t p q h = ap (λ (x : ℕ). not (eqb x d)) (sym p) ∙ ap (λ (x : ℕ). not (eqb r x)) (sym q) ∙ h

pub sum_by : (h r t : Bool) → r ≡ h → not r ≡ t → not h ≡ t
sum_by h r t p q = ap not (sym p) ∙ q
