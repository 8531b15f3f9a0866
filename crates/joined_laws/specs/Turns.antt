-- What is said of a play turn by turn: how a step ends, and what a whole run comes to. Assumes nothing.
use Rattle.std.specs.Prelude.{ℕ, zero, suc, ◌+◌, ◌-◌, ◌≤◌, ◌<◌, ◌≡◌, Bool, true, cond, ◌&&◌, List, [], ◌∷◌, eqb, length, set}
use Rattle.rules.specs.declared.Chip.{Chip}
use Rattle.rules.specs.declared.Flash.{Flash}
use Rattle.rules.specs.declared.Flash.TheVariants.{Code, Data}
use Rattle.rules.specs.declared.Options.{Options}
use Rattle.rules.specs.declared.Pages.{Pages}
use Rattle.rules.specs.declared.Phase.TheVariants.{Command}
use Rattle.rules.specs.declared.Stage.TheVariants.{Ready, Over}
use Rattle.rules.specs.declared.Status.TheVariants.{Byte}
use Rattle.rules.specs.declared.Step.{Step}
use Rattle.rules.specs.Chip.{Memory, flash_of, flash_size, start, first_page, page_of, same}
use Rattle.rules.specs.Frame.{whole}
use Rattle.rules.specs.StandIn.{State, start_of, task_now}
use Rattle.rules.specs.Sheet.{count, step_at, step_pages, body_page}
use Rattle.rules.specs.Meaning.{tried, write_from, Done, done, write_done, step_meaning, options_after, Ended, meaning}
use Rattle.rules.specs.Player.{player, well, beginning, emitted, report_of}
use Rattle.rules.specs.Run.{clean, Joined, Ran, ran, run_from, most_frames, step_run, waits, settled}

-- ---- of a chip and its flashes ----

-- the flashes lie apart, and three bytes hold every address
pub record Sized (chip : Chip) : Type 0 where
  pub apart : flash_size chip Code ≤ start Data
  pub few : (f : Flash) → start f + flash_size chip f ≤ 0x1000000

-- both flashes are as long as the chip says
abbrev pub Fit : Chip → Memory → Type 0
Fit chip m = (f : Flash) → length (flash_of m f) ≡ flash_size chip f

-- a stand-in between two steps, and after a play: it waits for a command, or is Silent where IFPR is 0 (02, M-106)
abbrev pub Settled : Chip → State → Type 0
Settled chip x = settled chip x ≡ true

-- ---- within a step ----

-- the frames that a player can count
abbrev pub most_counted : ℕ
most_counted = 0xFFFFFFFF

-- a player at the beginning of a step of the sheet, and a stand-in that waits for a command
pub record AtBeginning (chip : Chip) (s : List ℕ) (j : Joined) : Type 0 where
  pub stage : j.player.stage ≡ Ready
  pub there : j.player.step < count s
  pub counts : j.player.frames + most_frames (step_at chip s j.player.step) ≤ most_counted
  pub waiting : waits chip j.state ≡ true
  pub fit : Fit chip j.state.memory

-- what the player sends next is a whole frame of the kind that the stand-in awaits, which has received nothing yet
pub record Framed (chip : Chip) (s : List ℕ) (j : Joined) : Type 0 where
  pub phase : j.state.phase ≡ Command
  pub got : j.state.got ≡ []
  pub len : ℕ
  pub more : List ℕ
  pub bytes : (emitted chip s j.player).bytes ≡ start_of (task_now chip j.state.phase j.state.task) ∷ len ∷ more
  pub all : whole (start_of (task_now chip j.state.phase j.state.task) ∷ len ∷ more) ≡ true

-- page a of a step is awaited, so many are left with it, and that is known of those before it
abbrev pub pages_at : Step → ℕ → ℕ → ℕ → Pages
pages_at t a left st =
    record { flash = t.flash; page = first_page t.flash t.first + a; left = left; status = st }

-- what a write comes to from there: a page that failed is told at the next one
abbrev pub write_on : Options → List ℕ → Step → Memory → ℕ → ℕ → ℕ → Done
write_on o s t m a left st =
    write_done (step_pages t) (cond (eqb st 0x06) (write_from o s t m a left) (tried m (a - 1) st))

-- from page a on, flash and body are the same, so many pages
unfoldable pub same_from : List ℕ → Step → Memory → ℕ → ℕ → Bool
same_from s t m a zero = true
same_from s t m a (suc left) =
    let later = same_from s t m (a + 1) left in
    same (page_of m t.flash (first_page t.flash t.first + a)) (body_page s t a) && later

-- what a verify comes to from there
abbrev pub verify_on : List ℕ → Step → Memory → ℕ → ℕ → ℕ → Done
verify_on s t m a left st = done m (cond (eqb st 0x06 && same_from s t m a left) 0x06 0x0F) 0 (1 + step_pages t) 0

-- ---- the end of a step ----

-- what a step leaves: what it comes to, and the options then
pub record Leaves : Type 0 where
  pub done : Done
  pub options : Options

abbrev pub leaves : Done → Options → Leaves
leaves d o = record { done = d; options = o }

abbrev pub step_leaves : Options → List ℕ → Step → Memory → Leaves
step_leaves o s t m = leaves (step_meaning o s t m) (options_after t o)

-- the stand-in then: flashes and options are those, and it is settled
pub record Left (chip : Chip) (e : Leaves) (x : State) : Type 0 where
  pub memory : x.memory ≡ e.done.memory
  pub options : x.options ≡ e.options
  pub settled : Settled chip x
  pub fit : Fit chip x.memory

-- step i, begun after n frames with that list of sums, has ended here and leaves that
pub record StepEnds (chip : Chip) (s : List ℕ) (i n : ℕ) (sums : List ℕ) (e : Leaves) (j : Joined) : Type 0 where
  pub left : Left chip e j.state
  pub frames : j.player.frames ≡ n + e.done.frames
  pub went : e.done.status ≡ 0x06
      → (j.player ≡ player (beginning (i + 1) (count s)) (i + 1) 0 (n + e.done.frames) 0 well) × (j.sums ≡ set sums i e.done.sum)
  pub halted : (e.done.status ≡ 0x06 → ⊥)
      → (report_of j.player ≡ record { status = Byte e.done.status; steps = i; frames = n + e.done.frames; pieces = e.done.pieces })
      × (j.player.stage ≡ Over)
      × (j.sums ≡ sums)

-- THE RUN OF A STEP from its beginning, after c frames of a play: it leaves that, and each of its frames is a turn of any longer run
pub record StepRuns (chip : Chip) (s : List ℕ) (e : Leaves) (c : ℕ) (j : Joined) : Type 0 where
  pub end : Joined
  pub ran : step_run clean chip s c j ≡ ran true end
  pub ends : StepEnds chip s j.player.step j.player.frames j.sums e end
  pub most : e.done.frames ≤ most_frames (step_at chip s j.player.step)
  pub within : (calls : ℕ) → run_from clean chip s c (e.done.frames + calls) j ≡ run_from clean chip s (c + e.done.frames) calls end

-- the frames of so many steps from step i on, up to the first that fails: 01's formula for each
unfoldable pub frames_from : Chip → List ℕ → Options → Memory → ℕ → ℕ → ℕ
frames_from chip s o m i zero = 0
frames_from chip s o m i (suc left) =
    let t = step_at chip s i in
    let d = step_meaning o s t m in
    let later = frames_from chip s (options_after t o) d.memory (i + 1) left in
    d.frames + cond (eqb d.status 0x06) later 0

-- ---- the end of a play ----

-- flash, options, report and list of sums
abbrev pub end_of : Joined → Ended
end_of j =
    record { memory = j.state.memory; options = j.state.options; report = report_of j.player; sums = j.sums }

-- the run ended, there, with the player at its end and the stand-in settled
pub record Comes (chip : Chip) (e : Ended) (r : Ran) : Type 0 where
  pub complete : r.complete ≡ true
  pub end : end_of r.reached ≡ e
  pub over : r.reached.player.stage ≡ Over
  pub settled : Settled chip r.reached.state

-- A RUN FROM THERE COMES TO THE MEANING of the sheet
abbrev pub Means : Chip → List ℕ → Joined → Ran → Type 0
Means chip s j r = Comes chip (meaning chip s j.state.options j.state.memory j.sums) r
