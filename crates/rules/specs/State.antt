-- 01, Phases: the stand-in between two frames, and what a frame or a byte comes to. Assumes nothing.
use Rattle.std.specs.Prelude.{ℕ, List, []}
use Rattle.rules.specs.declared.Chip.{Chip}
use Rattle.rules.specs.declared.Options.{Options}
use Rattle.rules.specs.declared.Phase.{Phase}
use Rattle.rules.specs.declared.Task.{Task}
use Rattle.rules.specs.Notes.{Note, Empty}
use Rattle.rules.specs.Chip.{Memory}

-- the stand-in: phase, command begun, options, bytes of the frame in hand, both flashes
pub record State : Type 0 where
  pub phase : Phase
  pub task : Task
  pub options : Options
  pub got : List ℕ
  pub memory : Memory

-- a state, the bytes answered, and the stand-in's own note, off the wire (02, M-100)
pub record Out : Type 0 where
  pub state : State
  pub answer : List ℕ
  pub note : Note

-- "in every other case the note is empty"
abbrev pub out : State → List ℕ → Out
out s a = record { state = s; answer = a; note = Empty }

abbrev pub noted : Note → Out → Out
noted n o = record { state = o.state; answer = o.answer; note = n }

-- "the receiver starts afresh": nothing received
abbrev pub rest : Phase → Task → Options → Memory → State
rest ph t o m = record { phase = ph; task = t; options = o; got = []; memory = m }

-- what a whole frame does
abbrev pub Effect : Type 0
Effect = Chip → State → List ℕ → Out
