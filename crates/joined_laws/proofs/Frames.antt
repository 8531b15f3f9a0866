-- The frames of a play: those of a step are 01's formula, also of the step that stops, and those of the whole are their sum. Assumes nothing.
use mathlib.Core.Path.{◌≡◌, ap, ◌∙◌}
use mathlib.Core.Bool.{Bool, true, false, cond}
use mathlib.Core.List.{List}
use Prim.Native.Nat.{ℕ, zero, suc, ◌+◌}
use native.Mathlib.Omega.{arith}
use lib.Dec.{eqb}
use lib.ListN.{length, set}
use Rattle.rules.specs.declared.Chip.{Chip}
use Rattle.rules.specs.declared.Options.{Options}
use Rattle.rules.specs.declared.Stage.TheVariants.{New}
use Rattle.rules.specs.Answers.{Accepted}
use Rattle.rules.specs.Chip.{Memory}
use Rattle.rules.specs.Sheet.{count, verdict, step_at}
use Rattle.rules.specs.Player.{report_of}
use Rattle.rules.specs.Meaning.{Done, Ended, ended, step_meaning, options_after, meaning_from, meaning}
use Rattle.rules.specs.Run.{clean, Joined, Ran, step_run, run, waits}
use Rattle.joined_laws.specs.Turns.{Sized, Fit, AtBeginning, frames_from}
use Rattle.joined_laws.proofs.Steps.{step_ends}
use Rattle.joined_laws.proofs.Run.{run_means}

-- OF A STEP: the player's count after it, less the count before it
pub step_frames_lem : (chip : Chip) → Sized chip → (s : List ℕ) (room : ℕ) → verdict chip s room ≡ Accepted → (j : Joined) → AtBeginning chip s j
    → (step_run clean chip s 0 j).reached.player.frames
    ≡ j.player.frames + (step_meaning j.state.options s (step_at chip s j.player.step) j.state.memory).frames
step_frames_lem chip sized s room ok j b =
    let r = step_ends chip sized s room ok 0 j b in
    ap (λ (x : Ran). x.reached.player.frames) r.ran ∙ r.ends.frames

-- OF THE WHOLE, by the meaning
sum_frames : (chip : Chip) (s : List ℕ) (o : Options) (m : Memory) (i frames : ℕ) (sums : List ℕ) (left : ℕ)
    → (meaning_from chip s o m i frames sums left).report.frames ≡ frames + frames_from chip s o m i left
unfolding meaning_from frames_from
sum_frames chip s o m i frames sums zero = omega arith
sum_frames chip s o m i frames sums (suc left) =
    go (eqb d.status 0x06) (sum_frames chip s after d.memory (i + 1) (frames + d.frames) (set sums i d.sum) left)
  where
    d : Done
    d = step_meaning o s (step_at chip s i) m

    after : Options
    after = options_after (step_at chip s i) o

    stops : Ended
    stops = ended d.memory after d.status i (frames + d.frames) d.pieces sums

    on : Ended
    on = meaning_from chip s after d.memory (i + 1) (frames + d.frames) (set sums i d.sum) left

    go : (t : Bool) → on.report.frames ≡ frames + d.frames + frames_from chip s after d.memory (i + 1) left
        → (cond t on stops).report.frames ≡ frames + (d.frames + cond t (frames_from chip s after d.memory (i + 1) left) 0)
    go true h = omega (arith, h)
    go false h = omega arith

pub all_frames : (chip : Chip) → Sized chip → (s : List ℕ) (j : Joined) → j.player.stage ≡ New → verdict chip s (length j.sums) ≡ Accepted
    → waits chip j.state ≡ true → Fit chip j.state.memory
    → (report_of (run clean chip s j).reached.player).frames ≡ frames_from chip s j.state.options j.state.memory 0 (count s)
unfolding meaning
all_frames chip sized s j new ok w fit =
    let sum = sum_frames chip s j.state.options j.state.memory 0 0 j.sums (count s) in
    ap (λ (e : Ended). e.report.frames) (run_means chip sized s j new ok w fit).end ∙ omega (arith, sum)
