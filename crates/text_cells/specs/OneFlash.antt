-- The bytes of a record in the cells of one flash, and a line's fault as the refusal that names the line. Assumes nothing.
use Rattle.std.specs.Prelude.{ℕ, cond, List, length, take, drop}
use Rattle.rules.specs.Answers.{HexRead, On, Refused}
use Rattle.rules.specs.declared.hex.HexFault.{HexFault}
use Rattle.rules.specs.declared.hex.HexFault.TheVariants as fault
use Rattle.rules.specs.declared.hex.HexRefusal.{HexRefusal}
use Rattle.rules.specs.declared.hex.HexRefusal.TheVariants.{BadForm, WrongSum, OtherType, Twice}
use Rattle.rules.specs.Hex.{any_given, put_bytes}

pub record Held : Type 0 where
  pub read : HexRead
  pub cells : List ℕ

unfoldable pub held_in : ℕ → ℕ → List ℕ → List ℕ → Held
held_in n at bs cs =
    cond (any_given (take (length bs) (drop at cs)))
    (record { read = Refused (Twice n); cells = cs })
    (record { read = On; cells = put_bytes at bs cs })

unfoldable pub refusal_at : ℕ → HexFault → HexRefusal
refusal_at n fault.BadForm = BadForm n
refusal_at n fault.WrongSum = WrongSum n
refusal_at n fault.OtherType = OtherType n
