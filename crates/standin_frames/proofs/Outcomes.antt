-- One outcome: two results of a frame call that both meet its promise agree in all that the promise speaks of. Assumes nothing.
use mathlib.Core.Path.{◌≡◌}
use mathlib.Core.List.{List}
use Prim.Native.Nat.{ℕ}
use Rattle.rules.specs.declared.Chip.{Chip}
use Rattle.rules.specs.Answers.{Call}
use Rattle.rules.specs.Notes.{Note}
use Rattle.rules.specs.StandIn.{State}
use Rattle.rules.specs.WholeFrame.{frame_call}
use Rattle.standin_engine.specs.View.{call_outcome}
use Rattle.standin.proofs.Outcomes.{Agree, one_answer}

pub one_frame : (chip : Chip) (given : State) (reply input : List ℕ) (s t : State) (a b : Call) (m n : Note) (x y : List ℕ)
    → call_outcome s a m x ≡ frame_call chip given reply input
    → call_outcome t b n y ≡ frame_call chip given reply input
    → (a ≡ b) × Agree s t × (x ≡ y) × (m ≡ n)
one_frame chip given reply input s t a b m n x y p q =
    one_answer (frame_call chip given reply input) s t a b m n x y p q
