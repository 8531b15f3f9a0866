-- Feeding a slice of bytes: one byte call after the other, each with the rest of the buffer for its answer. Assumes nothing.
use Rattle.std.specs.Prelude.{ℕ, ◌+◌, ◌*◌, ◌≤◌, ◌≡◌, List, [], ◌∷◌, ◌++◌, length, take, drop}
use Rattle.rules.specs.declared.Chip.{Chip}
use Rattle.rules.specs.Answers.{Call, Refused, Answer}
use Rattle.rules.specs.Answers as verdict
use Rattle.rules.specs.Chip.{Memory}
use Rattle.rules.specs.StandIn.{State, reply_room, flash_verdict, byte_call}
use Rattle.standin_engine.specs.View.{view}
use Rattle.standin.specs.declared.feeding.Fed.{Fed}

-- the state, the number of bytes answered or the refusal, how many bytes were taken, and the buffer of answers
pub record Feeding : Type 0 where
  pub state : State
  pub call : Call
  pub taken : ℕ
  pub answers : List ℕ

abbrev pub feeding : State → Call → ℕ → List ℕ → Feeding
feeding s call n out = record { state = s; call = call; taken = n; answers = out }

-- what a feeding came to
abbrev pub fed_as : Fed → List ℕ → Memory → List ℕ → Feeding
fed_as f frame m out = feeding (view f.core frame m) f.call f.taken out

-- a call's answer stands behind the w bytes answered before it; the first refusal ends the feeding
abbrev pub goes_on : Call → Feeding → (ℕ → Feeding) → Feeding
goes_on (Refused r) end later = end
goes_on (Answer k) end later = later k

unfoldable pub feed_from : Chip → State → List ℕ → ℕ → ℕ → List ℕ → Feeding
feed_from chip s out w n [] = feeding s (Answer w) n out
feed_from chip s out w n (b ∷ bs) =
    let o = byte_call chip s (drop w out) b in
    let next = take w out ++ o.reply in
    goes_on o.call (feeding o.state o.call n next) (λ k. feed_from chip o.state next (w + k) (n + 1) bs)

-- FEEDING, from an empty buffer of answers
abbrev pub fed_into : Chip → State → List ℕ → List ℕ → Feeding
fed_into chip s out bytes = feed_from chip s out 0 0 bytes

-- the flashes are the chip's, and the buffer has the room that a byte call asks for, for each byte
abbrev pub Roomy : Chip → List ℕ → List ℕ → List ℕ → List ℕ → Type 0
Roomy chip code dat out bytes =
    (flash_verdict chip (length code) (length dat) ≡ verdict.Accepted) × (reply_room * length bytes ≤ length out)
