-- 02, M-109: the whole-frame engine. One whole frame of the kind awaited, answered at once. Assumes nothing.
use Rattle.std.specs.Prelude.{ℕ, Bool, not, ◌&&◌, List, [], ◌∷◌, eqb, length}
use Rattle.rules.specs.declared.Chip.{Chip}
use Rattle.rules.specs.declared.Phase.{Phase}
use Rattle.rules.specs.declared.Task.{Task}
use Rattle.rules.specs.Notes.{Empty}
use Rattle.rules.specs.Answers.{Refused, Verdict}
use Rattle.rules.specs.declared.Refusal.TheVariants.{E1}
use Rattle.rules.specs.Answers as verdict
use Rattle.rules.specs.First.{refuse, first_broken, and_then}
use Rattle.rules.specs.Chip.{byte_at}
use Rattle.rules.specs.Frame.{whole}
use Rattle.rules.specs.StandIn.{State, Outcome, rest, listening, start_of, task_now, on_frame, answered, lent_verdict}

-- "one whole frame of the kind awaited": the chip is neither Silent nor awaits its mode byte, it has no frame half received (`got` is what it has),
-- the input is one whole frame by its own LEN, and its start byte is the one awaited
unfoldable pub awaited : Chip → Phase → Task → List ℕ → List ℕ → Bool
awaited chip phase task got input =
    listening phase
    && eqb (length got) 0
    && whole input
    && eqb (byte_at input 0) (start_of (task_now chip phase task))

-- "D0 to D3 come before E1"; by the length of the reply buffer
unfoldable pub frame_verdict : Chip → State → ℕ → List ℕ → Verdict
frame_verdict chip s reply input =
    and_then
    (lent_verdict chip (length s.memory.code) (length s.memory.«data») reply)
    (first_broken (refuse E1 (not (awaited chip s.phase s.task s.got input)) ∷ []))

-- "nothing changes then"
unfoldable pub frame_by : Verdict → Chip → State → List ℕ → List ℕ → Outcome
frame_by verdict.Accepted chip s reply input =
    answered (on_frame chip (rest s.phase s.task s.options s.memory) input) reply
frame_by (verdict.Refused n) chip s reply input =
    record { state = s; call = Refused n; reply = reply; note = Empty }

-- THE FRAME CALL
unfoldable pub frame_call : Chip → State → List ℕ → List ℕ → Outcome
unfolding frame_by
frame_call chip s reply input = frame_by (frame_verdict chip s (length reply) input) chip s reply input
