-- One outcome: two results that both meet the promise of the entry agree in all that it speaks of, and so do one of the entry and one of the byte call by
-- value; refused, there is one record. Assumes nothing.
use mathlib.Core.Path.{◌≡◌, sym, ◌∙◌}
use mathlib.Core.List.{List}
use Prim.Native.Nat.{ℕ}
use Rattle.rules.specs.declared.numbers.Number.{Number}
use Rattle.rules.specs.Chip.{Memory}
use Rattle.rules.specs.StandIn.{Outcome}
use Rattle.standin_engine.specs.declared.ByteAnswer.{ByteAnswer}
use Rattle.standin_engine.specs.Stands.{Stands}
use Rattle.standin_engine.specs.View.{call_outcome}
use Rattle.standin.specs.declared.call.Answered.{Answered}
use Rattle.standin.specs.declared.call.Device.{Device}
use Rattle.standin.specs.Shows.{shows, answered_as}
use Rattle.standin.proofs.Outcomes.{Agree, one_answer}

-- two calls of the entry: record and answer of each, with flashes and reply buffer
pub one_entry : (due : Outcome) (d e : Device) (a b : ByteAnswer) (m k : Memory) (x y : List ℕ)
    → call_outcome (shows d m) a.call a.note x ≡ due
    → call_outcome (shows e k) b.call b.note y ≡ due
    → (a.call ≡ b.call) × Agree (shows d m) (shows e k) × (x ≡ y) × (a.note ≡ b.note)
one_entry due d e a b m k x y p q = one_answer due (shows d m) (shows e k) a.call b.call a.note b.note x y p q

-- the entry, and the byte call by value
pub as_by_value : (due : Outcome) (d : Device) (a : ByteAnswer) (t : Answered) (m k : Memory) (x y : List ℕ)
    → call_outcome (shows d m) a.call a.note x ≡ due
    → answered_as t k y ≡ due
    → (a.call ≡ t.answer.call) × Agree (shows d m) (shows t.device k) × (x ≡ y) × (a.note ≡ t.answer.note)
as_by_value due d a t m k x y p q =
    one_answer due (shows d m) (shows t.device k) a.call t.answer.call a.note t.answer.note x y p q

-- two refused calls on one record leave one record
pub one_refused : (answer : Number) (old d e : Device) → (answer.letter ≡ 0 → ⊥) → Stands answer old d → Stands answer old e → d ≡ e
one_refused answer old d e refused p q = p refused ∙ sym (q refused)
