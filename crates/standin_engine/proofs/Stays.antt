-- What stands where a call is refused. Assumes nothing.
use mathlib.Core.Path.{◌≡◌, sym, ap, ◌∙◌}
use Prim.Native.Nat.{ℕ}
use Rattle.std.specs.Prelude.{Result, Err, IsErrAnd}
use Rattle.std.proofs.lemmas.Result.{err_from_is_err_and}
use native.Mathlib.Omega.{arith}
use Rattle.rules.specs.Answers.{Call, Refused, Answer}
use Rattle.rules.specs.declared.Refusal.{Refusal}
use Rattle.rules.specs.Numbers.{refusal_number, call_number}
use Rattle.standin_engine.specs.Stands.{Stands}

-- nothing is owed of a call that is answered
pub answered_stands : {A : Type 0} (call : Call) (k : ℕ) (old new : A) → call ≡ Answer k → Stands (call_number call) old new
answered_stands call k old new e refused = absurd (refused (ap (λ (x : Call). (call_number x).letter) e))

-- every refusal has a letter
pub letter : (n : Refusal) → (refusal_number n).letter ≡ 0 → ⊥
letter n e = grind arith

-- so a call that is refused leaves what stands
pub lettered : (call : Call) (n : Refusal) → call ≡ Refused n → (call_number call).letter ≡ 0 → ⊥
lettered call n e z = letter n (ap (λ (x : Call). (call_number x).letter) (sym e) ∙ z)

-- a `?` hands a refusal on as it is
pub handed_on : {A E : Type 0} (r : Result A E) (x : E) → IsErrAnd r (λ y. y ≡ x) → r ≡ Err x
handed_on r x h = let t = err_from_is_err_and r h in t.1 ∙ ap Err t.2
