-- A stand-in hears a frame: the state that its bytes lead to, and all that was answered. Assumes nothing.
use Rattle.std.specs.Prelude.{ℕ, List}
use Rattle.rules.specs.declared.Chip.{Chip}
use Rattle.rules.specs.declared.Pages.{Pages}
use Rattle.rules.specs.declared.Step.{Step}
use Rattle.rules.specs.Chip.{first_page}
use Rattle.rules.specs.StandIn.{State, Out, out, feed}
use Rattle.rules.specs.Sheet.{step_pages}
use Rattle.rules.specs.Run.{all_bytes}

abbrev pub hears : Chip → State → List ℕ → Out
hears chip s f = out (feed chip s f).state (all_bytes (feed chip s f).answers)

-- what a frame comes to, but for its note: a play does not carry notes
abbrev pub quiet : Out → Out
quiet o = out o.state o.answer

-- the pages that a step's write or verify command waits for
abbrev pub pages_for : Step → Pages
pages_for t = record { flash = t.flash; page = first_page t.flash t.first; left = step_pages t; status = 0x06 }
