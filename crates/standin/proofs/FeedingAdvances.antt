-- Feeding, one byte further. Assumes nothing.
use mathlib.Core.Path.{◌≡◌, sym, ap, ◌∙◌}
use mathlib.Core.List.{List, ◌∷◌, ◌++◌}
use Prim.Native.Nat.{ℕ, ◌+◌, ◌<◌, ◌≤◌}
use native.Mathlib.Numerals.{add-one}
use lib.ListN.{length, take, drop, get_or, drop_of_length-le}
use lib.Seq.{drop-cons}
use Rattle.rules.specs.declared.Chip.{Chip}
use Rattle.rules.specs.Answers.{Call, Refused, Answer}
use Rattle.rules.specs.Notes.{Note}
use Rattle.rules.specs.declared.Refusal.{Refusal}
use Rattle.rules.specs.Answers as v
use Rattle.rules.specs.Numbers.{call_number}
use Rattle.rules.specs.StandIn.{State, Outcome, reply_room, flash_verdict, byte_call}
use Rattle.standin_engine.specs.View.{call_outcome}
use Rattle.standin.specs.Feeding.{Feeding, feeding, goes_on, feed_from}
use Rattle.standin_state.proofs.Lending.{all_lent}
use Rattle.standin_engine.proofs.Lengths.{call_fits}
use Rattle.standin_engine.proofs.Receives.{taken}

-- two feedings that are the same answer by the same number
pub numbered : (a b : Feeding) → a ≡ b → (a ≡ b) × (call_number a.call ≡ call_number b.call)
numbered a b e = (e, ap (λ (f : Feeding). call_number f.call) e)

module _ (chip : Chip) (s : State) (out : List ℕ) (w i : ℕ) where
  pub fed_end : (bytes : List ℕ) → length bytes ≤ i → feeding s (Answer w) i out ≡ feed_from chip s out w i (drop i bytes)
  unfolding feed_from
  fed_end bytes h = rw (drop_of_length-le bytes h)

  one_more : (b : ℕ) (bs : List ℕ) (o : Outcome) → o ≡ byte_call chip s (drop w out) b
      → goes_on o.call (feeding o.state o.call i (take w out ++ o.reply)) (λ k. feed_from chip o.state (take w out ++ o.reply) (w + k) (i + 1) bs) ≡ feed_from chip s out w i (b ∷ bs)
  unfolding feed_from
  one_more b bs o e = rw e

  -- the call of byte i came to that
  module _ (bytes : List ℕ) (h : i < length bytes) (t : State) (call : Call) (note : Note) (reply : List ℕ)
      (came-so : call_outcome t call note reply ≡ byte_call chip s (drop w out) (get_or bytes i 0)) where
    byte_i : drop i bytes ≡ get_or bytes i 0 ∷ drop (i + 1) bytes
    byte_i = drop-cons bytes i 0 h ∙ rw (← add-one i)

    pub fed_on : (k : ℕ) → call ≡ Answer k
        → feed_from chip t (take w out ++ reply) (w + k) (i + 1) (drop (i + 1) bytes) ≡ feed_from chip s out w i (drop i bytes)
    fed_on k e =
        ap (λ (c : Call). goes_on c (feeding t c i (take w out ++ reply)) (λ j. feed_from chip t (take w out ++ reply) (w + j) (i + 1) (drop (i + 1) bytes))) (sym e)
        ∙ one_more (get_or bytes i 0) (drop (i + 1) bytes) (call_outcome t call note reply) came-so
        ∙ ap (feed_from chip s out w i) (sym byte_i)

    pub fed_stop : (r : Refusal) → call ≡ Refused r
        → feeding t call i (take w out ++ reply) ≡ feed_from chip s out w i (drop i bytes)
    fed_stop r e =
        ap (λ (c : Call). feeding t c i (take w out ++ reply)) e
        ∙ ap (λ (c : Call). goes_on c (feeding t c i (take w out ++ reply)) (λ j. feed_from chip t (take w out ++ reply) (w + j) (i + 1) (drop (i + 1) bytes))) (sym e)
        ∙ one_more (get_or bytes i 0) (drop (i + 1) bytes) (call_outcome t call note reply) came-so
        ∙ ap (feed_from chip s out w i) (sym byte_i)

    -- an answer has room in what is left of the buffer
    pub answer_room : (k : ℕ) → call ≡ Answer k → k ≤ length (drop w out)
    answer_room k e = (call_fits chip s (drop w out) (get_or bytes i 0)).answer k (ap (λ (o : Outcome). o.call) (sym came-so) ∙ e)

    -- and never more than 16 bytes
    pub answer_short : (k : ℕ) → call ≡ Answer k → k ≤ 16
    answer_short k e = (call_fits chip s (drop w out) (get_or bytes i 0)).short k (ap (λ (o : Outcome). o.call) (sym came-so) ∙ e)

    -- with flashes that are the chip's and room for an answer the byte is taken
    pub room_answers : flash_verdict chip (length s.memory.code) (length s.memory.«data») ≡ v.Accepted → reply_room ≤ length (drop w out)
        → (call_number call).letter ≡ 0
    room_answers f r =
        ap (λ (o : Outcome). (call_number o.call).letter)
        (came-so ∙ sym (taken chip s (get_or bytes i 0) (drop w out) (sym (all_lent chip (length s.memory.code) (length s.memory.«data») (length (drop w out)) f r))))
