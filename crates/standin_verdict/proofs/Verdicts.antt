-- The verdict on a command frame, row after row. Assumes nothing.
use mathlib.Core.Path.{◌≡◌, sym, ap, ◌∙◌}
use native.Mathlib.Omega.{arith}
use borrow.Author.Tests.{eq-eqb, ne_eqb}
use Rattle.std.proofs.Common.{Ok, Err}
use Rattle.rules.specs.declared.Fault.{Fault as Row}
use Rattle.rules.specs.declared.Fault.TheVariants.{EndByte, Sum, Code, Length, Parameter, Ident, NotBlank, Protected, PageNotBlank, Difference}
use Rattle.rules.specs.Faults.{Fault}
use Rattle.rules.specs.Answers.{Judged, Faulty}
use Rattle.rules.specs.Frame.{status_byte}
use Rattle.rules.specs.Command.{unless}

-- a fault, or what comes where there is none
module _ (v w : Fault) (e : v ≡ w) (next : Judged) where
  pub stopped : (status_byte v ≡ 0x06 → ⊥) → Faulty v ≡ unless w next
  unfolding unless
  stopped n = rw (← e, ne_eqb (status_byte v) 0x06 n)

  pub went_on : status_byte v ≡ 0x06 → next ≡ unless w next
  unfolding unless
  went_on z = rw (← e, eq-eqb (status_byte v) 0x06 z)

-- 06h is no row's byte
pub no_row : (x : Row) → status_byte (Err x) ≡ 0x06 → ⊥
no_row EndByte e = omega arith
no_row Sum e = omega arith
no_row Code e = omega arith
no_row (Length due found) e = omega arith
no_row Parameter e = omega arith
no_row Ident e = omega arith
no_row (NotBlank note) e = omega arith
no_row Protected e = omega arith
no_row PageNotBlank e = omega arith
no_row Difference e = omega arith

-- so a verdict stops at a row, and goes on where it is well
module _ (v w : Fault) (e : v ≡ w) (next : Judged) where
  pub stopped_by : (x : Row) → v ≡ Err x → Faulty v ≡ unless w next
  stopped_by x is = stopped v w e next (λ six. no_row x (ap status_byte (sym is) ∙ six))

  pub well_on : v ≡ Ok tt → next ≡ unless w next
  well_on is = went_on v w e next (ap status_byte is)
