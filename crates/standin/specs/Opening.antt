-- The opening of a chip that was powered on: the bytes that bring it to phase Command, and when it is refused. Assumes nothing.
use Rattle.std.specs.Prelude.{ℕ, cond, List, [], ◌∷◌, ◌++◌, ltb, eqb, length}
use Rattle.rules.specs.declared.Chip.{Chip}
use Rattle.rules.specs.declared.Options.{Options}
use Rattle.rules.specs.Answers.{Refused, Verdict}
use Rattle.rules.specs.declared.Refusal.TheVariants.{D3}
use Rattle.rules.specs.Answers as verdict
use Rattle.rules.specs.First.{refuse, first_broken, and_then}
use Rattle.rules.specs.Frame.{command_start, last_end, frame}
use Rattle.rules.specs.Options.{IDEN}
use Rattle.rules.specs.StandIn.{State, flash_verdict}
use Rattle.standin.specs.Feeding.{Feeding, feeding, fed_into}

-- mode 3Ah, 9Ah with BRT 0 and VDD 21h
abbrev pub speed_bytes : List ℕ
speed_bytes = 0x3A ∷ 0x01 ∷ 0x03 ∷ 0x9A ∷ 0x00 ∷ 0x21 ∷ 0x42 ∷ 0x03 ∷ []

-- and, where IDEN is 0, 9Ch with the ID
unfoldable pub opening_bytes : Options → List ℕ → List ℕ
opening_bytes o id = speed_bytes ++ cond (eqb (IDEN o) 0) (frame command_start last_end (0x9C ∷ id)) []

-- room for the answers: 16 bytes, as a byte call asks, for each of the 23 bytes with an ID
abbrev pub opening_room : ℕ
opening_room = 368

-- D1, D2, and D3 where there is no room for all answers: named before a byte is sent
unfoldable pub opening_verdict : Chip → ℕ → ℕ → ℕ → Verdict
opening_verdict chip code dat answers =
    and_then (flash_verdict chip code dat) (first_broken (refuse D3 (ltb answers opening_room) ∷ []))

unfoldable pub open_by : Verdict → Chip → State → List ℕ → List ℕ → Feeding
open_by verdict.Accepted chip s out id = fed_into chip s out (opening_bytes s.options id)
open_by (verdict.Refused n) chip s out id = feeding s (Refused n) 0 out

-- THE OPENING: refused, no byte is taken and all stands; else its bytes are fed
unfoldable pub opened : Chip → State → List ℕ → List ℕ → Feeding
opened chip s out id =
    open_by (opening_verdict chip (length s.memory.code) (length s.memory.«data») (length out)) chip s out id
