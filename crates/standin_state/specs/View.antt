-- What a device's record shows, with nothing received: the state that the definitions speak of. Assumes nothing.
use Rattle.std.specs.Prelude.{ℕ, ◌≤◌, ◌≡◌, true, cond, List, [], length}
use Rattle.rules.specs.declared.Chip.{Chip}
use Rattle.rules.specs.declared.Flash.TheVariants.{Code, Data}
use Rattle.rules.specs.declared.Options.{Options}
use Rattle.rules.specs.declared.Phase.{Phase}
use Rattle.rules.specs.declared.Pages.{Pages}
use Rattle.rules.specs.declared.Task.{Task}
use Rattle.rules.specs.Notes.{Note}
use Rattle.rules.specs.Answers.{Answer, Verdict, Accepted, Refused}
use Rattle.rules.specs.Chip.{Memory, known, flash_size}
use Rattle.rules.specs.StandIn.{State, Out, Outcome, out, rest, ahead, answered}
use Rattle.standin_state.specs.declared.Core.{Core}
use Rattle.standin_state.specs.declared.Response.{Response}

-- the record with nothing received
abbrev pub resting : Phase → Task → Options → Core
resting ph t o = record { phase = ph; task = t; options = o; have = 0 }

-- and the state that a record with nothing received shows
abbrev pub idle : Core → Memory → State
idle c m = rest c.phase c.task c.options m

-- the device after a whole frame, how many bytes it answered, and its note
abbrev pub response : Core → ℕ → Note → Response
response k n note = record { core = k; answered = n; note = note }

-- what a whole frame came to
abbrev pub frame_outcome : Response → Memory → List ℕ → Outcome
frame_outcome h m reply =
    record { state = idle h.core m; call = Answer h.answered; reply = reply; note = h.note }

-- the device and its reply buffer show that outcome, and nothing is half received
abbrev pub Comes : Response → Memory → List ℕ → Out → List ℕ → Type 0
Comes h m reply x old = (frame_outcome h m reply ≡ answered x old) × (h.core.have ≡ 0)

-- all stands, and nothing is answered
abbrev pub unanswered : State → Out
unanswered s = out s []

-- a whole frame handed to a device, by the verdict on what is lent with it
unfoldable pub handed : Verdict → State → Out → Out
handed Accepted s x = x
handed (Refused n) s x = unanswered s

-- and a data frame, while the pages of the command begun are there
abbrev pub handed_page : Chip → Pages → Verdict → State → Out → Out
handed_page chip p v s x = handed v s (cond (ahead chip p) x (unanswered s))

-- chip, lent flashes and reply buffer as the refusals D0 to D3 ask
pub record Fits (chip : Chip) (code dat reply : List ℕ) : Type 0 where
  pub counts : known chip ≡ true
  pub in_code : length code ≡ flash_size chip Code
  pub in_data : length dat ≡ flash_size chip Data
  pub room : 16 ≤ length reply
