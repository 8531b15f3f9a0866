-- Laws of a line heard: a byte that is not refused, one byte more of a row, and a line by its sign. Assumes nothing.
use mathlib.Core.Path.{◌≡◌, refl, sym, ap, ◌∙◌}
use mathlib.Core.List.{List, [], ◌∷◌, ◌++◌}
use Prim.Native.Nat.{ℕ, ◌+◌, ◌<◌, ◌≤◌}
use native.Mathlib.Numerals.{add-one}
use native.Mathlib.Omega.{arith}
use lib.ListN.{length, get_or, take, drop, length-append, drop_of_length-le}
use lib.Seq.{drop-cons, take_at}
use borrow.Author.Tests.{eq-eqb, ne_eqb}
use Rattle.rules.specs.declared.Chip.{Chip}
use Rattle.rules.specs.Answers.{Call, Refused, Answer}
use Rattle.rules.specs.Notes.{Note}
use Rattle.rules.specs.declared.Refusal.{Refusal}
use Rattle.rules.specs.Answers as v
use Rattle.rules.specs.Chip.{byte_at, over}
use Rattle.rules.specs.Lines.{row_bytes}
use Rattle.rules.specs.Run.{all_bytes}
use Rattle.rules.specs.StandIn.{State, Outcome, powered, step, feed, lent_verdict, byte_call, answered}
use Rattle.rules.specs.Capture.{power_sign, sent_sign, Heard, heard, fed_with, hears}
use Rattle.standin_engine.specs.View.{call_outcome}
use Rattle.standin_engine.proofs.Receives.{taken}

-- ---- one byte, of a call that is not refused ----

module _ (chip : Chip) (s : State) (b : ℕ) (reply : List ℕ)
    (lent : lent_verdict chip (length s.memory.code) (length s.memory.«data») (length reply) ≡ v.Accepted)
    (t : State) (call : Call) (note : Note) (new : List ℕ)
    (came : call_outcome t call note new ≡ byte_call chip s reply b) where
  is_step : call_outcome t call note new ≡ answered (step chip s b) reply
  is_step = came ∙ sym (taken chip s b reply lent)

  pub byte_state : t ≡ (step chip s b).state
  byte_state = ap (λ (o : Outcome). o.state) is_step

  pub byte_not_refused : (r : Refusal) → call ≡ Refused r → ⊥
  byte_not_refused r e =
      let p : Refused r ≡ Answer (length (step chip s b).answer) = sym e ∙ ap (λ (o : Outcome). o.call) is_step in
      let z : ◌≡◌ {A = ℕ} 0 1 = cc in
      omega arith

  module _ (n : ℕ) (e : call ≡ Answer n) where
    count_is : n ≡ length (step chip s b).answer
    count_is = let p : Answer n ≡ Answer (length (step chip s b).answer) = sym e ∙ ap (λ (o : Outcome). o.call) is_step in cc

    pub byte_answer : take n new ≡ (step chip s b).answer
    unfolding over
    byte_answer =
        ap (λ (o : Outcome). take n o.reply) is_step
        ∙ rw count_is (take_at (step chip s b).answer (drop (length (step chip s b).answer) reply) (length (step chip s b).answer) refl)

    pub byte_room : n ≤ length new
    unfolding over
    byte_room = rw (ap (λ (o : Outcome). o.reply) is_step, count_is, length-append) (omega arith)

-- ---- a row, from its k-th byte on ----

module _ (chip : Chip) (s : State) (bs : List ℕ) (k : ℕ) where
  byte_k : k < length bs → drop k bs ≡ get_or bs k 0 ∷ drop (k + 1) bs
  byte_k h = drop-cons bs k 0 h ∙ rw (← add-one k)

  -- the byte came to that state and answer
  module _ (h : k < length bs) (b : ℕ) (e : b ≡ get_or bs k 0) (t : State) (q : t ≡ (step chip s b).state) where
    pub row_state : (feed chip s (drop k bs)).state ≡ (feed chip t (drop (k + 1) bs)).state
    unfolding feed
    row_state = rw (byte_k h, q, e)

    pub row_answers : (a : List ℕ) → a ≡ (step chip s b).answer
        → all_bytes (feed chip s (drop k bs)).answers ≡ a ++ all_bytes (feed chip t (drop (k + 1) bs)).answers
    unfolding feed all_bytes
    row_answers a r = rw (byte_k h, q, r, e)

  pub row_end_state : length bs ≤ k → (feed chip s (drop k bs)).state ≡ s
  unfolding feed
  row_end_state h = rw (drop_of_length-le bs h)

  pub row_end_answers : length bs ≤ k → all_bytes (feed chip s (drop k bs)).answers ≡ []
  unfolding feed all_bytes
  row_end_answers h = rw (drop_of_length-le bs h)

-- ---- a line, by its sign ----

module _ (chip : Chip) (s : State) (l : List ℕ) where
  hears_sent : byte_at l 0 ≡ sent_sign → hears chip s l ≡ fed_with (feed chip s (row_bytes (drop 1 l)))
  unfolding hears
  hears_sent e = let p : byte_at l 0 ≡ power_sign → ⊥ = λ q. omega (arith, e, q) in simp (ne_eqb _ _ p, eq-eqb _ _ e)

  module _ (e : byte_at l 0 ≡ sent_sign) (r : List ℕ) (f : r ≡ drop 1 l) where
    pub sent_state : (feed chip s (row_bytes r)).state ≡ (hears chip s l).state
    sent_state = rw f (sym (ap (λ (h : Heard). h.state) (hears_sent e)))

    pub sent_due : all_bytes (feed chip s (row_bytes r)).answers ≡ (hears chip s l).due
    sent_due = rw f (sym (ap (λ (h : Heard). h.due) (hears_sent e)))

  pub hears_power : byte_at l 0 ≡ power_sign → hears chip s l ≡ heard (powered s.options s.memory) []
  unfolding hears
  hears_power e = simp (eq-eqb _ _ e)

  pub hears_else : (byte_at l 0 ≡ power_sign → ⊥) → (byte_at l 0 ≡ sent_sign → ⊥) → hears chip s l ≡ heard s []
  unfolding hears
  hears_else p q = simp (ne_eqb _ _ p, ne_eqb _ _ q)
