-- "First that applies" (01, Status bytes and their order; The job sheet): rules in their order, each with what it names. Assumes nothing.
use Rattle.std.specs.Prelude.{Bool, cond, List, [], ◌∷◌}
use Rattle.rules.specs.Faults.{Fault, Well}
use Rattle.rules.specs.declared.Refusal.{Refusal}
use Rattle.rules.specs.Verdicts.{Verdict, Accepted, Refused}

pub record Rule (A : Type 0) : Type 0 where
  pub name : A
  pub applies : Bool

abbrev pub rule : {A : Type 0} → A → Bool → Rule A
rule n b = record { name = n; applies = b }

-- what the first rule that applies names; where none applies, `none`
unfoldable pub first : {A : Type 0} → A → List (Rule A) → A
first none [] = none
first none (r ∷ rs) = cond r.applies r.name (first none rs)

-- of faults: the verdict on a frame
abbrev pub first_fault : List (Rule Fault) → Fault
first_fault rs = first Well rs

-- of refusals: the verdict on a call or a sheet
abbrev pub refuse : Refusal → Bool → Rule Verdict
refuse n b = rule (Refused n) b

abbrev pub first_broken : List (Rule Verdict) → Verdict
first_broken rs = first Accepted rs

-- a verdict, and where that accepts the next
abbrev pub and_then : Verdict → Verdict → Verdict
and_then Accepted v = v
and_then (Refused n) v = Refused n
