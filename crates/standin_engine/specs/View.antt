-- What a device's record shows: the state that the definitions speak of. Assumes nothing.
use Rattle.std.specs.Prelude.{ℕ, cond, ◌||◌, List, ltb}
use Rattle.rules.specs.Answers.{Call}
use Rattle.rules.specs.Notes.{Note}
use Rattle.rules.specs.Chip.{Memory}
use Rattle.rules.specs.Frame.{frame_size, len_of}
use Rattle.rules.specs.StandIn.{State, Outcome, received}
use Rattle.standin_state.specs.declared.Core.{Core}

-- a record and its frame buffer, with the flashes lent
abbrev pub view : Core → List ℕ → Memory → State
view c buffer m =
    record {
      phase = c.phase;
      task = c.task;
      options = c.options;
      got = received c.have buffer;
      memory = m;
    }

-- the record with so many bytes of a frame in hand
abbrev pub holds : Core → ℕ → Core
holds c n = record { phase = c.phase; task = c.task; options = c.options; have = n }

-- what a call came to: the record's state, its answer, its note, the reply buffer
abbrev pub call_outcome : State → Call → Note → List ℕ → Outcome
call_outcome s call note reply = record { state = s; call = call; reply = reply; note = note }

-- how many bytes of a frame a count and a buffer hold
unfoldable pub held_count : ℕ → List ℕ → ℕ
held_count n buffer = cond (ltb n 2 || ltb n (frame_size (len_of buffer))) n 0
