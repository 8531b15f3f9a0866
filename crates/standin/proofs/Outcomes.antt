-- One outcome: two results that both meet a promise agree in all that the promise speaks of. Assumes nothing.
use mathlib.Core.Path.{◌≡◌, sym, ap, ◌∙◌}
use mathlib.Core.List.{List}
use Prim.Native.Nat.{ℕ}
use Rattle.rules.specs.Answers.{Call}
use Rattle.rules.specs.Notes.{Note}
use Rattle.rules.specs.StandIn.{State, Outcome, Powered}
use Rattle.standin_engine.specs.View.{call_outcome}
use Rattle.standin.specs.Feeding.{Feeding, feeding}

-- what two states have in common that are the same: phase, command begun, options, what is half received, both flashes
pub record Agree (s t : State) : Type 0 where
  pub phase : s.phase ≡ t.phase
  pub task : s.task ≡ t.task
  pub options : s.options ≡ t.options
  pub got : s.got ≡ t.got
  pub memory : s.memory ≡ t.memory

agree : (s t : State) → s ≡ t → Agree s t
agree s t e =
    record {
      phase = ap (λ (x : State). x.phase) e;
      task = ap (λ (x : State). x.task) e;
      options = ap (λ (x : State). x.options) e;
      got = ap (λ (x : State). x.got) e;
      memory = ap (λ (x : State). x.memory) e;
    }

-- a byte call
pub one_answer : (due : Outcome) (s t : State) (a b : Call) (m n : Note) (x y : List ℕ)
    → call_outcome s a m x ≡ due
    → call_outcome t b n y ≡ due
    → (a ≡ b) × Agree s t × (x ≡ y) × (m ≡ n)
one_answer due s t a b m n x y p q =
    let e = p ∙ sym q in (
      ap (λ (o : Outcome). o.call) e,
      agree s t (ap (λ (o : Outcome). o.state) e),
      ap (λ (o : Outcome). o.reply) e,
      ap (λ (o : Outcome). o.note) e,
    )

-- a power-on
pub one_power : (due : Powered) (s t : State) (a b : Call)
    → record { state = s; call = a } ≡ due
    → record { state = t; call = b } ≡ due
    → (a ≡ b) × Agree s t
one_power due s t a b p q =
    let e = p ∙ sym q in
    (ap (λ (o : Powered). o.call) e, agree s t (ap (λ (o : Powered). o.state) e))

-- a feeding, and so the opening
pub one_feeding : (due : Feeding) (s t : State) (a b : Call) (m n : ℕ) (x y : List ℕ)
    → feeding s a m x ≡ due
    → feeding t b n y ≡ due
    → (a ≡ b) × Agree s t × (m ≡ n) × (x ≡ y)
one_feeding due s t a b m n x y p q =
    let e = p ∙ sym q in (
      ap (λ (o : Feeding). o.call) e,
      agree s t (ap (λ (o : Feeding). o.state) e),
      ap (λ (o : Feeding). o.taken) e,
      ap (λ (o : Feeding). o.answers) e,
    )
