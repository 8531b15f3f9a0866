-- The entry that is told of a refused sheet is the one that it is refused for. Assumes nothing.
use mathlib.Core.Path.{◌≡◌, refl, sym, ap, subst, ◌∙◌}
use mathlib.Core.Bool.{Bool, true, false, cond}
use mathlib.Core.List.{List}
use Prim.Native.Nat.{ℕ, zero, suc, ◌+◌, ◌≤◌, ◌<◌}
use native.Mathlib.Omega.{arith}
use native.Mathlib.Numerals.{add-one}
use lib.Dec.{eqb}
use borrow.Author.Tests.{eqb-true, eqb-false}
use Rattle.rules.specs.declared.Refusal.{Refusal}
use Rattle.rules.specs.declared.Refusal.TheVariants.{D0, D1, D2, D3, E1, J1, J2, J3, J4, J5, J6, J7, J8, J9, J10, J11, J12, J13, J14, J15, J16, P1, P2}
use Rattle.rules.specs.Answers.{Verdict, Accepted, Refused}
use Rattle.rules.specs.First.{first}
use Rattle.rules.specs.Sheet as sheet
use Rattle.rules.specs.Sheet.{against, count, entry_verdict, entries_verdict}
use Rattle.rules.proofs.Sheet.{EntryAllowed, refused≢accepted, entries_allowed}
use Rattle.sheet.proofs.Entries.{one_refused, one_accepted}
use Rattle.text_show.specs.Refused.{breaks, first_to_break}
use Rattle.text_show.proofs.Breaking.{refusal_of}

module _ (s : List ℕ) where
  -- of a rule and those behind it, the one that is named is broken
  this_or_later : (n : Refusal) (i : ℕ) (m : Refusal) (b : Bool) (v : Verdict) → breaks m s i ≡ b → (v ≡ Refused n → breaks n s i ≡ true)
      → cond b (Refused m) v ≡ Refused n
      → breaks n s i ≡ true
  this_or_later n i m true v k later e = subst (λ (x : Refusal). breaks x s i ≡ true) (ap refusal_of e) k
  this_or_later n i m false v k later e = later e

  -- an entry breaks the rule that it is refused for
  refused_breaks : (i : ℕ) (n : Refusal) → entry_verdict (against s) s i ≡ Refused n → breaks n s i ≡ true
  unfolding entry_verdict first breaks
  refused_breaks i n =
      let rule = this_or_later n i in
      rule J4 (sheet.J4 s i) _ refl
      (rule J5 (sheet.J5 s i) _ refl
      (rule J6 (sheet.J6 (against s) s i) _ refl
      (rule J12 (sheet.J12 s i) _ refl
      (rule J7 (sheet.J7 s i) _ refl
      (rule J8 (sheet.J8 s i) Accepted refl (λ e. absurd (refused≢accepted n (sym e))))))))

  -- an entry that is accepted breaks none
  allowed_keeps : (n : Refusal) (i : ℕ) → EntryAllowed (against s) s i → breaks n s i ≡ false
  unfolding breaks
  allowed_keeps D0 i a = refl
  allowed_keeps D1 i a = refl
  allowed_keeps D2 i a = refl
  allowed_keeps D3 i a = refl
  allowed_keeps E1 i a = refl
  allowed_keeps J1 i a = refl
  allowed_keeps J2 i a = refl
  allowed_keeps J3 i a = refl
  allowed_keeps J4 i a = a.j4
  allowed_keeps J5 i a = a.j5
  allowed_keeps J6 i a = a.j6
  allowed_keeps J7 i a = a.j7
  allowed_keeps J8 i a = a.j8
  allowed_keeps J9 i a = refl
  allowed_keeps J10 i a = refl
  allowed_keeps J11 i a = refl
  allowed_keeps J12 i a = a.j12
  allowed_keeps J13 i a = refl
  allowed_keeps J14 i a = refl
  allowed_keeps J15 i a = refl
  allowed_keeps J16 i a = refl
  allowed_keeps P1 i a = refl
  allowed_keeps P2 i a = refl

  accepted_keeps : (n : Refusal) (i : ℕ) → entry_verdict (against s) s i ≡ Accepted → breaks n s i ≡ false
  unfolding entries_verdict
  accepted_keeps n i e =
      let one : entries_verdict (against s) s i 1 ≡ Accepted = rw e in
      allowed_keeps n i (entries_allowed (against s) s i 1 one i (omega arith) (omega arith))

  -- entry k is the first of those from i to end that is refused
  pub record Named (n : Refusal) (i end k : ℕ) : Type 0 where
    pub from : i ≤ k
    pub there : k < end
    pub is : entry_verdict (against s) s k ≡ Refused n
    pub before : (j : ℕ) → i ≤ j → j < k → entry_verdict (against s) s j ≡ Accepted

  named : (n : Refusal) (i left end : ℕ) → i + left ≡ end → entries_verdict (against s) s i left ≡ Refused n → Named n i end (first_to_break n s i left)
  unfolding first_to_break entries_verdict
  named n i zero end l e = absurd (refused≢accepted n (sym e))
  named n i (suc left) end l e = go (λ rest. named n (i + 1) left end (omega arith) rest) (entry_verdict (against s) s i) refl
    where
      this : (j : ℕ) {k : ℕ} → entry_verdict (against s) s i ≡ Accepted
          → (i + 1 ≤ j → j < k → entry_verdict (against s) s j ≡ Accepted)
          → i ≤ j
          → j < k
          → entry_verdict (against s) s j ≡ Accepted
      this j a later h g = at (eqb i j) refl
        where
          at : (t : Bool) → eqb i j ≡ t → entry_verdict (against s) s j ≡ Accepted
          at true x = rw (← eqb-true i j x) a
          at false x = let d = eqb-false i j x in later (omega arith) g

      go : (entries_verdict (against s) s (i + 1) left ≡ Refused n → Named n (i + 1) end (first_to_break n s (i + 1) left))
          → (v : Verdict) → entry_verdict (against s) s i ≡ v
          → Named n i end (first_to_break n s i (suc left))
      go rest Accepted a =
          let later = rest (sym (one_accepted (against s) s i (suc left) left (sym (add-one left)) a) ∙ e) in
          rw (accepted_keeps n i a)
          (record { from = omega (arith, later.from); there = later.there; is = later.is; before = λ j. this j a (later.before j) })
      go rest (Refused m) r =
          let same : m ≡ n = ap refusal_of (sym (one_refused (against s) s i (suc left) left (sym (add-one left)) m r) ∙ e) in
          let is : entry_verdict (against s) s i ≡ Refused n = r ∙ ap Refused same in
          rw (refused_breaks i n is) (record { from = omega arith; there = omega arith; is = is; before = λ j h g. absurd (omega arith) })

  -- THE LAW: a sheet that is refused for an entry is told with the first entry that is refused, and by its rule
  pub entry_named : (n : Refusal) → entries_verdict (against s) s 0 (count s) ≡ Refused n → Named n 0 (count s) (first_to_break n s 0 (count s))
  entry_named n e = named n 0 (count s) (count s) (omega arith) e
