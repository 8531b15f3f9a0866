-- One outcome: two results that both meet the promise of a joined call agree in its answer, in player and stand-in, and in all that is lent.
-- Assumes nothing.
use mathlib.Core.Path.{◌≡◌, sym, ap, ◌∙◌}
use mathlib.Core.List.{List}
use Prim.Native.Nat.{ℕ}
use Rattle.rules.specs.Run.{Joined}
use Rattle.joined.specs.Answers.{Answer}
use Rattle.joined.specs.Plays.{Outcome, outcome, SheetOutcome, sheet_outcome}

-- what two joined states have in common that are the same
pub record Agree (x y : Joined) : Type 0 where
  pub player : x.player ≡ y.player
  pub phase : x.state.phase ≡ y.state.phase
  pub task : x.state.task ≡ y.state.task
  pub options : x.state.options ≡ y.state.options
  pub got : x.state.got ≡ y.state.got
  pub memory : x.state.memory ≡ y.state.memory
  pub sums : x.sums ≡ y.sums
  pub frame : x.frame ≡ y.frame
  pub reply : x.reply ≡ y.reply

agreed : (x y : Joined) → x ≡ y → Agree x y
agreed x y e =
    record {
      player = ap (λ (z : Joined). z.player) e;
      phase = ap (λ (z : Joined). z.state.phase) e;
      task = ap (λ (z : Joined). z.state.task) e;
      options = ap (λ (z : Joined). z.state.options) e;
      got = ap (λ (z : Joined). z.state.got) e;
      memory = ap (λ (z : Joined). z.state.memory) e;
      sums = ap (λ (z : Joined). z.sums) e;
      frame = ap (λ (z : Joined). z.frame) e;
      reply = ap (λ (z : Joined). z.reply) e;
    }

-- one step
pub one_step : (due : Outcome) (a b : Answer) (x y : Joined) → outcome a x ≡ due → outcome b y ≡ due → (a ≡ b) × Agree x y
one_step due a b x y p q =
    let e = p ∙ sym q in
    (ap (λ (o : Outcome). o.answer) e, agreed x y (ap (λ (o : Outcome). o.reached) e))

-- a whole sheet: also in the list of each step's frames
pub one_play : (due : SheetOutcome) (a b : Answer) (x y : Joined) (xs ys : List ℕ) → sheet_outcome a x xs ≡ due → sheet_outcome b y ys ≡ due
    → (a ≡ b) × Agree x y × (xs ≡ ys)
one_play due a b x y xs ys p q =
    let e = p ∙ sym q in (
      ap (λ (o : SheetOutcome). o.answer) e,
      agreed x y (ap (λ (o : SheetOutcome). o.reached) e),
      ap (λ (o : SheetOutcome). o.each) e,
    )
