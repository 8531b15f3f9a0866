-- Player calls one after the other, each with what it is given. Assumes nothing.
use Rattle.std.specs.Prelude.{ℕ, ◌+◌, ◌-◌, ◌*◌, max, List, [], ◌∷◌, length}
use Rattle.rules.specs.declared.Chip.{Chip}
use Rattle.rules.specs.declared.Flash.TheVariants.{Code, Data}
use Rattle.rules.specs.declared.Kind.{Kind}
use Rattle.rules.specs.declared.Kind.TheVariants.{Erase, Write, Verify, Sum, Blank, Lock}
use Rattle.rules.specs.declared.Player.{Player}
use Rattle.rules.specs.declared.Stage.{Stage}
use Rattle.rules.specs.declared.Stage.TheVariants.{New, Ready, Block, Commanded, Page, Paged, Over}
use Rattle.rules.specs.declared.Step.{Step}
use Rattle.rules.specs.Answers.{Verdict, Accepted, Refused}
use Rattle.rules.specs.Chip.{pages}
use Rattle.rules.specs.Sheet.{most_steps, count, step_at, step_blocks, step_pages}
use Rattle.rules.specs.Run.{most_frames, most_from, most_calls}
use Rattle.rules.specs.Player.{player_verdict, called}

-- ---- with one sheet ----

-- the player after the calls, each with its reply, and with these buffers
unfoldable pub after_calls : Chip → List ℕ → Player → List ℕ → List ℕ → List (List ℕ) → Player
after_calls chip s p buffer sums [] = p
after_calls chip s p buffer sums (r ∷ rs) =
    let c = called chip s p r buffer sums in after_calls chip s c.player c.frame c.sums rs

-- the frames of a step behind a command frame: the next blocks, the pages, or none
unfoldable pub frames_behind : Kind → Step → ℕ → ℕ
frames_behind Erase t at = step_blocks t - (at + 1)
frames_behind Write t at = step_pages t
frames_behind Verify t at = step_pages t
frames_behind Sum t at = 0
frames_behind Blank t at = 0
frames_behind Lock t at = 0

-- how many calls are left at most: one for each frame that may still be sent, and one that has none to send;
-- `later` is for the steps behind the one in hand, `all` for a new player
unfoldable pub left_by : Stage → Step → ℕ → ℕ → ℕ → ℕ
unfolding frames_behind
left_by New t at later all = all
left_by Ready t at later all = 1 + most_frames t + later
left_by Block t at later all = 1 + (step_blocks t - at) + later
left_by (Commanded k) t at later all = 1 + frames_behind k t at + later
left_by (Page k) t at later all = 1 + (step_pages t - at) + later
left_by (Paged k) t at later all = 1 + (step_pages t - (at + 1)) + later
left_by Over t at later all = 0

abbrev pub later : Chip → List ℕ → Player → ℕ
later chip s p = most_from chip s (p.step + 1) (count s - (p.step + 1))

unfoldable pub calls_left : Chip → List ℕ → Player → ℕ
unfolding left_by
calls_left chip s p = left_by p.stage (step_at chip s p.step) p.at (later chip s p) (most_calls chip s)

-- ---- with any sheets ----

-- what a call is given
pub record Given : Type 0 where
  pub sheet : List ℕ
  pub reply : List ℕ
  pub frame : List ℕ
  pub sums : List ℕ

unfoldable pub after_any : Chip → Player → List Given → Player
after_any chip p [] = p
after_any chip p (g ∷ gs) = let c = called chip g.sheet p g.reply g.frame g.sums in after_any chip c.player gs

-- how many of the calls are not refused
abbrev pub once : Verdict → ℕ
once Accepted = 1
once (Refused n) = 0

unfoldable pub taken : Chip → Player → List Given → ℕ
taken chip p [] = 0
taken chip p (g ∷ gs) =
    let c = called chip g.sheet p g.reply g.frame g.sums in
    once (player_verdict chip g.sheet p (length g.frame) (length g.sums)) + taken chip c.player gs

-- where a player stands, as one number that no sheet is asked for: step, block or page, and stage.
-- A step has the numbers of one command and of the most pages that a step can have
abbrev pub most_pages : Chip → ℕ
most_pages chip = max (pages chip Code) (pages chip Data)

abbrev pub rank_from : Chip → ℕ → ℕ
rank_from chip i = i * (most_pages chip + 1)

unfoldable pub blocks_before : Kind → ℕ → ℕ
blocks_before Erase at = at
blocks_before Write at = 0
blocks_before Verify at = 0
blocks_before Sum at = 0
blocks_before Blank at = 0
blocks_before Lock at = 0

unfoldable pub rank_by : Stage → ℕ → ℕ → ℕ
unfolding blocks_before
rank_by New from at = 0
rank_by Ready from at = from
rank_by Block from at = from + at
rank_by (Commanded k) from at = 1 + from + blocks_before k at
rank_by (Page k) from at = 1 + from + at
rank_by (Paged k) from at = 2 + from + at
rank_by Over from at = 0

unfoldable pub rank : Chip → Player → ℕ
unfolding rank_by
rank chip p = rank_by p.stage (rank_from chip p.step) p.at

abbrev pub most_rank : Chip → ℕ
most_rank chip = 1 + rank_from chip most_steps
