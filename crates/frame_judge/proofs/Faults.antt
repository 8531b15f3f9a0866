-- Faults: the row of 06h is the only one that has it, and where no fault is found no rule applies. Assumes nothing.
use Rattle.std.proofs.Common.{◌≡◌, Bool, true, false, cond, not, ◌&&◌, eqb, List, [], ◌∷◌, refl, arith}
use mathlib.Core.Bool.{false≢true}
use Rattle.rules.specs.Faults.{Fault, Well, EndByte, Sum, Code, Length, Parameter, Ident, NotBlank, Protected, PageNotBlank, Difference}
use Rattle.rules.specs.First.{Rule, first, first_fault}
use Rattle.rules.specs.Frame.{status_byte}
use Rattle.rules.proofs.Choices.{both}

-- the row of 06h is the only one that has it
pub well_byte : (v : Fault) → status_byte v ≡ 0x06 → v ≡ Well
well_byte Well e = refl
well_byte EndByte e = absurd (omega arith)
well_byte Sum e = absurd (omega arith)
well_byte Code e = absurd (omega arith)
well_byte (Length due found) e = absurd (omega arith)
well_byte Parameter e = absurd (omega arith)
well_byte Ident e = absurd (omega arith)
well_byte (NotBlank what) e = absurd (omega arith)
well_byte Protected e = absurd (omega arith)
well_byte PageNotBlank e = absurd (omega arith)
well_byte Difference e = absurd (omega arith)

-- checks whose faults are all none
abbrev faulty : List (Rule Fault) → Bool
faulty [] = true
faulty (c ∷ cs) = not (eqb (status_byte c.name) 0x06) && faulty cs

-- none of them applies
abbrev pub Quiet : List (Rule Fault) → Type 0
Quiet [] = Unit {0}
Quiet (c ∷ cs) = (c.applies ≡ false) × Quiet cs

quiet_cons : (t : Bool) (v r : Fault) (p : Bool)
    → (not (eqb (status_byte v) 0x06) && p) ≡ true
    → cond t v r ≡ Well
    → (t ≡ false) × (r ≡ Well) × (p ≡ true)
quiet_cons true v r p f e = absurd (false≢true (rw e at f))
quiet_cons false v r p f e = (refl, e, (both (not (eqb (status_byte v) 0x06)) p f).1)

pub first_quiet : (xs : List (Rule Fault)) → faulty xs ≡ true → first_fault xs ≡ Well → Quiet xs
unfolding first
first_quiet [] f e = tt
first_quiet (c ∷ cs) f e =
    let q = quiet_cons c.applies c.name (first_fault cs) (faulty cs) f e in (q.0, first_quiet cs q.2 q.1)
