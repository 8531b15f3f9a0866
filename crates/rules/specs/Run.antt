-- The player and the stand-in joined by a line: built from Player and StandIn alone. Assumes nothing.
use Rattle.std.specs.Prelude.{ℕ, zero, suc, ◌+◌, Bool, true, false, cond, ◌&&◌, List, [], ◌∷◌, ◌++◌, eqb}
use Rattle.rules.specs.declared.Chip.{Chip}
use Rattle.rules.specs.declared.Player.{Player}
use Rattle.rules.specs.declared.Stage.{Stage}
use Rattle.rules.specs.declared.Stage.TheVariants.{New, Ready, Block, Commanded, Page, Paged, Over}
use Rattle.rules.specs.declared.Phase.{Phase}
use Rattle.rules.specs.declared.Phase.TheVariants.{Mode, Speed, Ident, Command, Silent}
use Rattle.rules.specs.declared.Task.{Task}
use Rattle.rules.specs.declared.Task.TheVariants.{Idle, Programming, Verifying}
use Rattle.rules.specs.declared.Kind.{Kind}
use Rattle.rules.specs.declared.Kind.TheVariants.{Erase, Write, Verify, Sum, Blank, Lock}
use Rattle.rules.specs.declared.Step.{Step}
use Rattle.rules.specs.Chip.{over}
use Rattle.rules.specs.Options.{IFPR}
use Rattle.rules.specs.StandIn.{State, feed, task_now}
use Rattle.rules.specs.Sheet.{count, step_at, step_blocks, step_pages}
use Rattle.rules.specs.Player.{absorbed, emitted, new_player}

-- what comes through of the k-th answer, k from 0
abbrev pub Line : Type 0
Line = ℕ → List ℕ → List ℕ

-- a line that neither loses nor alters a byte
abbrev pub clean : Line
clean k answer = answer

-- player, stand-in, list of sums and both buffers, and the reply that came through last
pub record Joined : Type 0 where
  pub player : Player
  pub state : State
  pub sums : List ℕ
  pub frame : List ℕ
  pub reply : List ℕ
  pub arrived : List ℕ

abbrev pub joining : Player → State → List ℕ → List ℕ → List ℕ → List ℕ → Joined
joining p s sums frame reply arrived =
    record { player = p; state = s; sums = sums; frame = frame; reply = reply; arrived = arrived }

-- all bytes answered
unfoldable pub all_bytes : List (List ℕ) → List ℕ
all_bytes [] = []
all_bytes (a ∷ later) = a ++ all_bytes later

-- the stand-in steps through a frame's bytes, and all that it answers goes through the line
unfoldable pub carried : Line → Chip → ℕ → Player → List ℕ → Joined → Joined
carried line chip k p bytes j =
    let fed = feed chip j.state bytes in
    let arrived = line k (all_bytes fed.answers) in
    joining p fed.state j.sums (over bytes j.frame) (over arrived j.reply) arrived

-- the reply is taken in
unfoldable pub taken_in : Chip → List ℕ → Joined → Joined
taken_in chip s j =
    let a = absorbed chip s j.player j.arrived j.sums in
    joining a.player j.state a.sums j.frame j.reply j.arrived

-- A TURN, from one reply taken in to the next: the frame is given and carried over, and its answer taken in
unfoldable pub turned : Line → Chip → List ℕ → ℕ → Joined → Joined
turned line chip s k j =
    let sent = emitted chip s j.player in
    taken_in chip s (carried line chip k sent.player sent.bytes j)

-- a run: whether it ended, and where it stands
pub record Ran : Type 0 where
  pub complete : Bool
  pub reached : Joined

abbrev pub ran : Bool → Joined → Ran
ran e j = record { complete = e; reached = j }

abbrev pub none : List ℕ → Bool
none [] = true
none (b ∷ bs) = false

-- so many player calls: it ends at the one that gives no frame; k frames went before
unfoldable pub run_from : Line → Chip → List ℕ → ℕ → ℕ → Joined → Ran
run_from line chip s k zero j = ran false j
run_from line chip s k (suc calls) j =
    let later = run_from line chip s (k + 1) calls (turned line chip s k j) in
    cond (none (emitted chip s j.player).bytes) (ran true j) later

-- between two steps: at the beginning of one, or finished or stopped
unfoldable pub between_in : Stage → Bool
between_in New = false
between_in Ready = true
between_in Block = false
between_in (Commanded k) = false
between_in (Page k) = false
between_in (Paged k) = false
between_in Over = true

unfoldable pub between : Player → Bool
unfolding between_in
between p = between_in p.stage

-- so many turns: a step ends at the one after which the player is between two steps
unfoldable pub step_from : Line → Chip → List ℕ → ℕ → ℕ → Joined → Ran
step_from line chip s k zero j = ran false j
step_from line chip s k (suc turns) j =
    let t = turned line chip s k j in
    let later = step_from line chip s (k + 1) turns t in
    cond (between t.player) (ran true t) later

-- the greatest frame count of a step, and of so many steps from step i on
unfoldable pub most_for : Kind → Step → ℕ
most_for Erase t = step_blocks t
most_for Write t = 1 + step_pages t
most_for Verify t = 1 + step_pages t
most_for Sum t = 1
most_for Blank t = 1
most_for Lock t = 1

unfoldable pub most_frames : Step → ℕ
unfolding most_for
most_frames t = most_for t.kind t

unfoldable pub most_from : Chip → List ℕ → ℕ → ℕ → ℕ
most_from chip s i zero = 0
most_from chip s i (suc left) = most_frames (step_at chip s i) + most_from chip s (i + 1) left

abbrev pub most_calls : Chip → List ℕ → ℕ
most_calls chip s = 1 + most_from chip s 0 (count s)

-- THE RUN of a sheet: a new player and that stand-in, with these buffers; its first call reads no reply
abbrev pub joined_at_start : State → List ℕ → List ℕ → List ℕ → Joined
joined_at_start state frame reply sums = joining new_player state sums frame reply []

unfoldable pub run : Line → Chip → List ℕ → Joined → Ran
run line chip s j = run_from line chip s 0 (most_calls chip s) (taken_in chip s j)

-- THE RUN OF A STEP, by a player at its beginning; k frames went before
unfoldable pub step_run : Line → Chip → List ℕ → ℕ → Joined → Ran
step_run line chip s k j = step_from line chip s k (most_frames (step_at chip s j.player.step)) j

-- a stand-in that waits for a command: phase Command, IFPR 1, no command begun, nothing half received. No power-on leads to phase Command with
-- IFPR 0 (02, M-106: there a lock would get no answer, whatever its flags)
unfoldable pub waits_in : Phase → Task → List ℕ → Bool
waits_in Mode t g = false
waits_in Speed t g = false
waits_in Ident t g = false
waits_in Command Idle [] = true
waits_in Command Idle (b ∷ g) = false
waits_in Command (Programming p) g = false
waits_in Command (Verifying p) g = false
waits_in Silent t g = false

unfoldable pub waits : Chip → State → Bool
unfolding waits_in
waits chip s = waits_in s.phase (task_now chip s.phase s.task) s.got && eqb (IFPR s.options) 1

-- a stand-in after a play: it waits for a command again, or, where a lock cleared IFPR, it is Silent (02, M-106)
abbrev pub is_silent : Phase → Bool
is_silent Mode = false
is_silent Speed = false
is_silent Ident = false
is_silent Command = false
is_silent Silent = true

unfoldable pub settled : Chip → State → Bool
settled chip s = cond (eqb (IFPR s.options) 1) (waits chip s) (is_silent s.phase)
