-- What a byte changes, as a record and an answer. Assumes nothing.
use Rattle.std.specs.Prelude.{ℕ, ◌≡◌, List, Option, Some, None}
use Rattle.rules.specs.declared.Chip.{Chip}
use Rattle.rules.specs.Answers.{Call, Refused, Answer}
use Rattle.rules.specs.Notes.{Note, Empty}
use Rattle.rules.specs.Chip.{Memory}
use Rattle.rules.specs.StandIn.{Outcome, answered, receive, received, on_frame}
use Rattle.frame_build.specs.Buffer.{frame_in}
use Rattle.standin_state.specs.declared.Core.{Core}
use Rattle.standin_state.specs.View.{idle}
use Rattle.standin_engine.specs.Answers.{Change}
use Rattle.standin_engine.specs.Answers as change
use Rattle.standin_engine.specs.declared.CoreAfter.{CoreAfter}
use Rattle.standin_engine.specs.View.{view, call_outcome, holds}

-- what a byte in a phase that takes frames comes to, whatever flashes and reply buffer are lent: nothing is answered, or the frame that the buffer
-- then holds is taken
abbrev pub Takes : Chip → Core → ℕ → List ℕ → List ℕ → Option ℕ → Type 0
Takes chip c byte old new (Some n) =
    (m : Memory) (reply : List ℕ)
    → call_outcome (view (holds c n) new m) (Answer 0) Empty reply ≡ answered (receive chip (view c old m) (received c.have old) byte) reply
Takes chip c byte old new None =
    (m : Memory) → on_frame chip (idle c m) (frame_in new) ≡ receive chip (view c old m) (received c.have old) byte

-- the record after the byte
abbrev pub changed : Core → Change → Core
changed c (change.Refused r) = c
changed c (change.Held n) = holds c n
changed c (change.Whole h) = h.core

-- the answer of its call
abbrev pub call_of : Change → Call
call_of (change.Refused r) = Refused r
call_of (change.Held n) = Answer 0
call_of (change.Whole h) = Answer h.answered

-- and its note
abbrev pub note_from : Change → Note
note_from (change.Refused r) = Empty
note_from (change.Held n) = Empty
note_from (change.Whole h) = h.note

-- what the call came to, by what it changed; and by the whole record
abbrev pub change_outcome : Core → Change → List ℕ → Memory → List ℕ → Outcome
change_outcome c x frame m reply = call_outcome (view (changed c x) frame m) (call_of x) (note_from x) reply

abbrev pub core_outcome : CoreAfter → List ℕ → Memory → List ℕ → Outcome
core_outcome t frame m reply = call_outcome (view t.core frame m) t.answer.call t.answer.note reply
