-- DEMAND 3 for the joined calls: what is played comes to the meaning. Assumes nothing.
use mathlib.Core.Path.{◌≡◌, sym, ap, ◌∙◌}
use mathlib.Core.Bool.{true}
use mathlib.Core.List.{List}
use Prim.Native.Nat.{ℕ}
use lib.ListN.{length}
use Rattle.rules.specs.declared.Chip.{Chip}
use Rattle.rules.specs.declared.Player.{Player}
use Rattle.rules.specs.Sheet.{step_at}
use Rattle.rules.specs.Meaning.{step_frames}
use Rattle.rules.specs.Player.{new_player}
use Rattle.rules.specs.Run.{clean, Joined, Ran, run}
use Rattle.joined_laws.specs.Turns.{step_leaves, StepEnds, Means}
use Rattle.joined_laws.proofs.Run.{known_run}
use Rattle.joined_laws.proofs.Steps.{step_ends}
use Rattle.joined.specs.Answers.{Played}
use Rattle.joined.specs.Plays.{Outcome, SheetOutcome, step_played, sheet_played}
use Rattle.joined.proofs.Calls.{plays, good, starts, step_answer, step_played_lem, sheet_answer, sheet_played_lem}

module _ (chip : Chip) (s : List ℕ) (j : Joined) where
  -- A SHEET PLAYED by a new player: its end is that of the run, and so of the meaning, and the list has the frames of each step reached
  pub sheet_means : (each : List ℕ) → j.player ≡ new_player → (sheet_played chip s j each).answer ≡ Played
      → ((sheet_played chip s j each).reached ≡ (run clean chip s j).reached)
      × Means chip s j (run clean chip s j)
      × ((sheet_played chip s j each).each ≡ step_frames chip s j.state.options j.state.memory each)
  sheet_means each new h =
      let w = plays _ true _ (sym (sheet_answer chip s j each) ∙ h) in
      let g = good chip s new_player j w.accepted in
      let p = sheet_played_lem chip s j each w.accepted w.waits in (
        ap (λ (o : SheetOutcome). o.reached) p,
        known_run chip s j (ap (λ (p : Player). p.stage) new) g.rooms.accepted w.waits g.fit,
        ap (λ (o : SheetOutcome). o.each) p,
      )

  -- A STEP PLAYED comes to its meaning: flash, options, frames, sum, and the stand-in is settled
  pub step_means : (step_played chip s j).answer ≡ Played
      → StepEnds chip s j.player.step j.player.frames j.sums (step_leaves j.state.options s (step_at chip s j.player.step) j.state.memory) (step_played chip s j).reached
  step_means h =
      let w = plays _ _ _ (sym (step_answer chip s j) ∙ h) in
      let b = starts chip s j w in
      let r = step_ends chip b.sized s (length j.sums) b.rooms.accepted 0 j b.begins in
      let e = ap (λ (o : Outcome). o.reached) (step_played_lem chip s j w) ∙ ap (λ (x : Ran). x.reached) r.ran in
      rw e r.ends
