-- A turn, one byte further. Assumes nothing.
use mathlib.Core.Path.{◌≡◌, sym, ap, ◌∙◌}
use mathlib.Core.Bool.{Bool, true, false, cond}
use mathlib.Core.List.{List, ◌∷◌}
use Prim.Native.Nat.{ℕ, ◌+◌, ◌<◌, ◌≤◌}
use native.Mathlib.Numerals.{add-one}
use lib.ListN.{length, drop, get_or, drop_of_length-le}
use lib.Seq.{drop-cons}
use Rattle.rules.specs.declared.Chip.{Chip}
use Rattle.rules.specs.Answers.{Call, Answer}
use Rattle.rules.specs.Notes.{Note}
use Rattle.rules.specs.Numbers.{call_number}
use Rattle.rules.specs.StandIn.{State, Outcome, byte_call}
use Rattle.standin_engine.specs.View.{call_outcome}
use Rattle.text_serve.specs.Serving.{Turn, turn, stops, serve_from}

-- two turns that are the same answer by the same number
pub numbered : (a b : Turn) → a ≡ b → (a ≡ b) × (call_number a.call ≡ call_number b.call)
numbered a b e = (e, ap (λ (f : Turn). call_number f.call) e)

module _ (chip : Chip) (s : State) (reply : List ℕ) (i : ℕ) where
  pub turn_end : (bytes : List ℕ) → length bytes ≤ i → turn s (Answer 0) i reply ≡ serve_from chip s reply i (drop i bytes)
  unfolding serve_from
  turn_end bytes h = rw (drop_of_length-le bytes h)

  one_more : (b : ℕ) (bs : List ℕ) (o : Outcome) → o ≡ byte_call chip s reply b
      → cond (stops o.call) (turn o.state o.call (i + 1) o.reply) (serve_from chip o.state o.reply (i + 1) bs) ≡ serve_from chip s reply i (b ∷ bs)
  unfolding serve_from
  one_more b bs o e = rw e

  -- the call of byte i came to that
  module _ (bytes : List ℕ) (h : i < length bytes) (t : State) (call : Call) (note : Note) (r : List ℕ)
      (came-so : call_outcome t call note r ≡ byte_call chip s reply (get_or bytes i 0)) where
    goes_on_lem : cond (stops call) (turn t call (i + 1) r) (serve_from chip t r (i + 1) (drop (i + 1) bytes)) ≡ serve_from chip s reply i (drop i bytes)
    goes_on_lem =
        one_more (get_or bytes i 0) (drop (i + 1) bytes) (call_outcome t call note r) came-so
        ∙ ap (serve_from chip s reply i) (sym (drop-cons bytes i 0 h ∙ rw (← add-one i)))

    by : (w : Bool) → stops call ≡ w → cond w (turn t call (i + 1) r) (serve_from chip t r (i + 1) (drop (i + 1) bytes)) ≡ serve_from chip s reply i (drop i bytes)
    by w e = ap (λ (v : Bool). cond v (turn t call (i + 1) r) (serve_from chip t r (i + 1) (drop (i + 1) bytes))) (sym e) ∙ goes_on_lem

    -- it ends the turn, or does not
    pub turn_stop : stops call ≡ true → turn t call (i + 1) r ≡ serve_from chip s reply i (drop i bytes)
    turn_stop e = by true e

    pub turn_on : stops call ≡ false → serve_from chip t r (i + 1) (drop (i + 1) bytes) ≡ serve_from chip s reply i (drop i bytes)
    turn_on e = by false e
