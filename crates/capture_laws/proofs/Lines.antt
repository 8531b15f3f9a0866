-- The tests at a line say what 02 asks of it. Assumes nothing.
use mathlib.Core.Path.{◌≡◌, refl, sym, ap, ◌∙◌}
use mathlib.Core.Bool.{Bool, true, false, cond, not, ◌||◌, false≢true}
use mathlib.Core.Logic.{◌⊎◌, inl, inr}
use mathlib.Core.List.{List, [], ◌∷◌}
use Prim.Native.Nat.{ℕ, zero, suc, ◌+◌, ◌/◌, ◌%◌, ◌<◌, ◌≤◌}
use native.Mathlib.Nat.{le_of_suc-le-suc}
use native.Mathlib.Numerals.{add-one}
use native.Mathlib.Omega.{arith}
use lib.Dec.{eqb}
use lib.ListN.{length, drop}
use borrow.Author.Tests.{eqb-true, eqb-false, eq-eqb, ne_eqb, not-true}
use Rattle.rules.specs.declared.Chip.{Chip}
use Rattle.rules.specs.Chip.{byte_at, same}
use Rattle.rules.specs.Lines.{spaced_pair, all_good, is_row, row_bytes}
use Rattle.rules.specs.StandIn.{State}
use Rattle.rules.specs.Capture.{power_sign, sent_sign, given_sign, behind, some_pairs, is_line, given, Heard, heard, hears, fits}
use Rattle.rules.proofs.Bytes.{same_equal}
use Rattle.rules.proofs.Choices.{both, picked}
use Rattle.text_read.proofs.Units.{values_length}
use Rattle.capture_laws.specs.Conditions.{line_at, chip_after, answer_to, IsAnswer, held_by, Formed, Right}
use Rattle.capture_laws.proofs.Classes.{form_at, fits_at}

-- ---- lists ----

pub same_self : (xs : List ℕ) → same xs xs ≡ true
unfolding same
same_self [] = refl
same_self (x ∷ xs) = simp (eq-eqb x x refl) (same_self xs)

same_of : (xs ys : List ℕ) → xs ≡ ys → same xs ys ≡ true
same_of xs ys e = rw e (same_self ys)

-- ---- form ----

pub formed : (ls : List (List ℕ)) (left : List ℕ) (i : ℕ) → i ≤ length ls → form_at ls left i ≡ true → Formed ls left i
unfolding form_at
formed [] [] i k e = record { line = λ q. absurd (omega (arith, q)); ended = λ q. refl }
formed [] (b ∷ left) i k e = absurd (false≢true e)
formed (l ∷ ls) left zero k e = record { line = λ q. e; ended = λ q. absurd (omega (arith, q)) }
formed (l ∷ ls) left (suc i) k e =
    let r = formed ls left i (le_of_suc-le-suc k) e in
    record { line = λ q. r.line (le_of_suc-le-suc q); ended = λ q. r.ended (omega (arith, q)) }

pub not_formed : (ls : List (List ℕ)) (left : List ℕ) (i : ℕ) → i ≤ length ls → form_at ls left i ≡ false → Formed ls left i → ⊥
unfolding form_at
not_formed [] [] i k e f = false≢true (sym e)
not_formed [] (b ∷ left) i k e f =
    let z : i ≡ 0 = omega (arith, k) in
    let c : b ∷ left ≡ [] = f.ended z in
    let n : ◌≡◌ {A = ℕ} (suc (length left)) 0 = ap length c in
    omega (arith, n)
not_formed (l ∷ ls) left zero k e f = false≢true (sym e ∙ f.line (omega arith))
not_formed (l ∷ ls) left (suc i) k e f =
    not_formed ls left i (le_of_suc-le-suc k) e
    (record { line = λ q. f.line (omega (arith, q)); ended = λ q. f.ended (ap suc q) })

-- ---- comparison ----

-- an answer line of good form holds some bytes
held_count_lem : (l : List ℕ) → length (held_by l) ≡ length (drop 1 l) / 3
unfolding row_bytes
held_count_lem l = values_length spaced_pair 3 (length (drop 1 l) / 3) (drop 1 l)

row_some : (l : List ℕ) → some_pairs (drop 1 l) ≡ true → held_by l ≡ [] → ⊥
unfolding some_pairs is_row
row_some l p z =
    let r = drop 1 l in
    let b = both (not (eqb (length r) 0)) (is_row r) p in
    let some = eqb-false (length r) 0 (not-true (eqb (length r) 0) b.0) in
    let m = eqb-true (length r % 3) 0 (picked (eqb (length r % 3) 0) (all_good spaced_pair 3 (length r / 3) r) false true b.1 (λ w. false≢true (sym w))).0 in
    let n : length r / 3 ≡ 0 = sym (held_count_lem l) ∙ ap length z in
    some (omega (arith, m, n))

answer_some : (l : List ℕ) → is_line l ≡ true → IsAnswer l → held_by l ≡ [] → ⊥
unfolding is_line
answer_some l e a z = go (same l (power_sign ∷ [])) refl e
  where
    go : (x : Bool) → same l (power_sign ∷ []) ≡ x → cond x true (cond (eqb (byte_at l 0) sent_sign || eqb (byte_at l 0) given_sign) (some_pairs (behind l)) false) ≡ true → ⊥
    go true p q = let w : l ≡ power_sign ∷ [] = same_equal l (power_sign ∷ []) p in let v : byte_at l 0 ≡ power_sign = ap (λ (t : List ℕ). byte_at t 0) w in omega (arith, a, v)
    go false p q = row_some l (picked (eqb (byte_at l 0) sent_sign || eqb (byte_at l 0) given_sign) (some_pairs (behind l)) false true q (λ w. false≢true (sym w))).1 z

-- the test at a later line, by the answer to the line before it
fits_later : (chip : Chip) (n : ℕ) (h : Heard) (ls : List (List ℕ)) (k : ℕ) → suc k ≤ length ls
    → fits_at chip n h ls (suc k) ≡ same (answer_to chip h.state ls k) (given (line_at ls (suc k)))
unfolding fits_at fits chip_after
fits_later chip n h [] k q = absurd (omega (arith, q))
fits_later chip n h (l ∷ ls) zero q = rw add-one
fits_later chip n h (l ∷ ls) (suc k) q = fits_later chip (n + 1) (hears chip h.state l) ls k (le_of_suc-le-suc q)

module _ (l : List ℕ) where
  given_answer : IsAnswer l → given l ≡ held_by l
  unfolding given
  given_answer e = simp (eq-eqb _ _ e)

  given_other : (IsAnswer l → ⊥) → given l ≡ []
  unfolding given
  given_other n = simp (ne_eqb _ _ n)

  is_answer : (IsAnswer l) ⊎ (IsAnswer l → ⊥)
  is_answer = go (eqb (byte_at l 0) given_sign) refl
    where
      go : (x : Bool) → eqb (byte_at l 0) given_sign ≡ x → (IsAnswer l) ⊎ (IsAnswer l → ⊥)
      go true e = inl (eqb-true _ _ e)
      go false e = inr (eqb-false _ _ e)

-- past the last line there is no answer line
answer_in : (ls : List (List ℕ)) (i : ℕ) → IsAnswer (line_at ls i) → i < length ls
answer_in [] i a = absurd (omega (arith, a))
answer_in (l ∷ ls) zero a = omega arith
answer_in (l ∷ ls) (suc i) a = let r = answer_in ls i a in omega (arith, r)

module _ (chip : Chip) (s : State) (ls : List (List ℕ)) (left : List ℕ) where
  pub right : (i : ℕ) → i ≤ length ls → Formed ls left i → fits_at chip 0 (heard s []) ls i ≡ true → Right chip s ls i
  unfolding fits_at fits
  right zero q f e =
      record {
        starts = λ z. same_equal (line_at ls 0) (power_sign ∷ []) e;
        holds = λ k z. absurd (omega (arith, z));
        there = λ k z. absurd (omega (arith, z));
        none = λ k z. absurd (omega (arith, z));
      }
  right (suc j) q f e =
      let w : answer_to chip s ls j ≡ given (line_at ls (suc j)) = same_equal _ _ (sym (fits_later chip 0 (heard s []) ls j q) ∙ e) in
      record {
        starts = λ z. absurd (omega (arith, z));
        holds = λ k z a. let p : k ≡ j = omega (arith, z) in rw p (sym (given_answer (line_at ls (suc j)) a) ∙ sym w);
        there = λ k z n. let p : k ≡ j = omega (arith, z) in answers w (is_answer (line_at ls (suc j))) (λ y. n (rw p y));
        none =
            λ k z a y.
            let p : k ≡ j = omega (arith, z) in
            answer_some (line_at ls (suc j)) (f.line (answer_in ls (suc j) a)) a (sym (given_answer (line_at ls (suc j)) a) ∙ sym w ∙ rw (← p) y);
      }
    where
      answers : answer_to chip s ls j ≡ given (line_at ls (suc j)) → (IsAnswer (line_at ls (suc j))) ⊎ (IsAnswer (line_at ls (suc j)) → ⊥) → (answer_to chip s ls j ≡ [] → ⊥) → IsAnswer (line_at ls (suc j))
      answers w (inl a) n = a
      answers w (inr b) n = absurd (n (w ∙ given_other (line_at ls (suc j)) b))

  pub not_right : (i : ℕ) → i ≤ length ls → fits_at chip 0 (heard s []) ls i ≡ false → Right chip s ls i → ⊥
  unfolding fits_at fits
  not_right zero q e r = false≢true (sym e ∙ same_of (line_at ls 0) (power_sign ∷ []) (r.starts refl))
  not_right (suc j) q e r = go (is_answer (line_at ls (suc j)))
    where
      untrue : answer_to chip s ls j ≡ given (line_at ls (suc j)) → ⊥
      untrue w = false≢true (sym e ∙ fits_later chip 0 (heard s []) ls j q ∙ same_of _ _ w)

      empty : (due : List ℕ) → answer_to chip s ls j ≡ due → (IsAnswer (line_at ls (suc j)) → ⊥) → ⊥
      empty [] w b = untrue (w ∙ sym (given_other (line_at ls (suc j)) b))
      empty (x ∷ xs) w b = b (r.there j refl (λ z. let n : ◌≡◌ {A = ℕ} (suc (length xs)) 0 = ap length (sym w ∙ z) in omega (arith, n)))

      go : (IsAnswer (line_at ls (suc j))) ⊎ (IsAnswer (line_at ls (suc j)) → ⊥) → ⊥
      go (inl a) = untrue (sym (r.holds j refl a) ∙ sym (given_answer (line_at ls (suc j)) a))
      go (inr b) = empty (answer_to chip s ls j) refl b
