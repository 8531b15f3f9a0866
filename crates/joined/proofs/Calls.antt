-- The joined calls, outcome by outcome; and what is known where none is refused. Assumes nothing.
use mathlib.Core.Path.{◌≡◌, refl, ap, ◌∙◌}
use native.Mathlib.Omega.{arith}
use Rattle.std.specs.Prelude.{Err}
use mathlib.Core.Bool.{Bool, true, false, cond, false≢true}
use mathlib.Core.List.{List}
use Prim.Native.Nat.{ℕ, ◌+◌, ◌≤◌}
use lib.Dec.{leb}
use lib.ListN.{length}
use borrow.Author.Tests.{leb-true}
use Rattle.rules.specs.declared.Chip.{Chip}
use Rattle.rules.specs.declared.Flash.TheVariants.{Code, Data}
use Rattle.rules.specs.declared.Player.{Player}
use Rattle.rules.specs.declared.Refusal.{Refusal}
use Rattle.rules.specs.declared.Stage.{Stage}
use Rattle.rules.specs.declared.Stage.TheVariants.{New, Ready, Block, Commanded, Page, Paged, Over}
use Rattle.rules.specs.Answers.{Verdict, Accepted}
use Rattle.rules.specs.Answers as v
use Rattle.rules.specs.StandIn.{lent_verdict}
use Rattle.rules.specs.Sheet.{verdict, step_at}
use Rattle.rules.specs.Player.{new_player, lost, player_verdict, frame_room}
use Rattle.rules.specs.Run.{clean, Joined, step_run, most_frames, waits}
use Rattle.rules.proofs.Sheet as verdicts
use Rattle.rules.proofs.Choices.{both}
use Rattle.player_laws.proofs.PlaceInSheet.{ready_stands, allowed_call}
use Rattle.standin_state.specs.View.{Fits}
use Rattle.standin_state.proofs.Lending.{lent_fits}
use Rattle.joined_laws.specs.Turns.{Fit}
use Rattle.joined_laws.proofs.Run.{accepted_sized}
use Rattle.joined.specs.declared.NotPlayed.{NotPlayed}
use Rattle.joined.specs.Answers.{Answer, Refused, NotAtStep, Busy, Played}
use Rattle.joined_checks.specs.declared.LentSizes.{LentSizes}
use Rattle.joined_checks.specs.Checks.{joined_verdict, is_ready, starts_step}
use Rattle.joined.specs.Plays.{outcome, sheet_outcome, lengths, judged, play_answer, all_played, step_played, sheet_played}
use Rattle.joined.specs.Turn.{Rooms, StepReady}
use Rattle.joined.specs.Ready.{PlayReady}

-- ---- whether a call plays ----

-- it does: nothing is refused, the player may start, and the stand-in waits
pub record Plays (refused : Verdict) (starting waiting : Bool) : Type 0 where
  pub accepted : refused ≡ Accepted
  pub starts : starting ≡ true
  pub waits : waiting ≡ true

not_played : {A : Type 0} (why : NotPlayed) → Err why ≡ Played → A
not_played why e = let z : ◌≡◌ {A = ℕ} 0 1 = cc in absurd (omega arith)

pub plays : (refused : Verdict) (starting waiting : Bool) → play_answer refused starting waiting ≡ Played → Plays refused starting waiting
unfolding judged
plays Accepted true true e = record { accepted = refl; starts = refl; waits = refl }
plays Accepted true false e = not_played _ e
plays Accepted false waiting e = not_played _ e
plays (v.Refused n) starting waiting e = not_played _ e

-- ---- outcomes ----

module _ (chip : Chip) (s : List ℕ) (j : Joined) where
  -- a step is played, or its answer says why not and all stands
  abbrev pub step_told : Answer
  step_told = play_answer (joined_verdict chip s j.player (lengths j)) (starts_step chip s j.player) (waits chip j.state)

  -- as the code asks
  pub step_asked : (l : LentSizes) → l ≡ lengths j → (b : Bool) → b ≡ starts_step chip s j.player
      → (a : Answer) → a ≡ play_answer (joined_verdict chip s j.player l) b (waits chip j.state) → a ≡ step_told
  step_asked l e b f a h =
      h
      ∙ ap (λ (x : LentSizes). play_answer (joined_verdict chip s j.player x) b (waits chip j.state)) e
      ∙ ap (λ (x : Bool). play_answer (joined_verdict chip s j.player (lengths j)) x (waits chip j.state)) f

  pub step_not : (why : NotPlayed) → Err why ≡ step_told → outcome (Err why) j ≡ step_played chip s j
  unfolding step_played judged
  step_not why e = go (joined_verdict chip s j.player (lengths j)) (starts_step chip s j.player) (waits chip j.state) e
    where
      go : (x : Verdict) (a b : Bool) → Err why ≡ play_answer x a b → outcome (Err why) j
          ≡ judged x (λ y. outcome y j) (cond a (cond b (outcome Played (step_run clean chip s 0 j).reached) (outcome Busy j)) (outcome NotAtStep j))
      go Accepted true true h = not_played why h
      go Accepted true false h = ap (λ y. outcome y j) h
      go Accepted false b h = ap (λ y. outcome y j) h
      go (v.Refused n) a b h = ap (λ y. outcome y j) h

  pub step_answer : (step_played chip s j).answer ≡ step_told
  unfolding step_played judged
  step_answer = go (joined_verdict chip s j.player (lengths j)) (starts_step chip s j.player) (waits chip j.state)
    where
      go : (x : Verdict) (a b : Bool)
          → (judged x (λ y. outcome y j) (cond a (cond b (outcome Played (step_run clean chip s 0 j).reached) (outcome Busy j)) (outcome NotAtStep j))).answer
          ≡ play_answer x a b
      go Accepted true true = refl
      go Accepted true false = refl
      go Accepted false b = refl
      go (v.Refused n) a b = refl

  pub step_played_lem : Plays (joined_verdict chip s j.player (lengths j)) (starts_step chip s j.player) (waits chip j.state)
      → step_played chip s j ≡ outcome Played (step_run clean chip s 0 j).reached
  unfolding step_played judged
  step_played_lem p = rw (p.accepted, p.starts, p.waits)

  module _ (each : List ℕ) where
    -- a whole sheet
    abbrev pub sheet_told : Answer
    sheet_told = play_answer (joined_verdict chip s new_player (lengths j)) true (waits chip j.state)

    pub sheet_asked : (p : Player) → p ≡ new_player → (l : LentSizes) → l ≡ lengths j
        → (a : Answer) → a ≡ play_answer (joined_verdict chip s p l) true (waits chip j.state) → a ≡ sheet_told
    sheet_asked p e l f a h =
        h
        ∙ ap (λ (x : LentSizes). play_answer (joined_verdict chip s p x) true (waits chip j.state)) f
        ∙ ap (λ (x : Player). play_answer (joined_verdict chip s x (lengths j)) true (waits chip j.state)) e

    pub sheet_not : (why : NotPlayed) → Err why ≡ sheet_told → sheet_outcome (Err why) j each ≡ sheet_played chip s j each
    unfolding sheet_played judged
    sheet_not why e = go (joined_verdict chip s new_player (lengths j)) (waits chip j.state) e
      where
        go : (x : Verdict) (b : Bool) → Err why ≡ play_answer x true b → sheet_outcome (Err why) j each
            ≡ judged x (λ y. sheet_outcome y j each) (cond b (all_played chip s j each) (sheet_outcome Busy j each))
        go Accepted true h = not_played why h
        go Accepted false h = ap (λ y. sheet_outcome y j each) h
        go (v.Refused n) b h = ap (λ y. sheet_outcome y j each) h

    pub sheet_answer : (sheet_played chip s j each).answer ≡ sheet_told
    unfolding sheet_played judged
    sheet_answer = go (joined_verdict chip s new_player (lengths j)) (waits chip j.state)
      where
        go : (x : Verdict) (b : Bool) → (judged x (λ y. sheet_outcome y j each) (cond b (all_played chip s j each) (sheet_outcome Busy j each))).answer ≡ play_answer x true b
        go Accepted true = refl
        go Accepted false = refl
        go (v.Refused n) b = refl

    pub sheet_refused : (n : Refusal) → joined_verdict chip s new_player (lengths j) ≡ v.Refused n
        → sheet_played chip s j each ≡ sheet_outcome (Refused n) j each
    unfolding sheet_played judged
    sheet_refused n e = rw e

    pub sheet_played_lem : joined_verdict chip s new_player (lengths j) ≡ Accepted → waits chip j.state ≡ true
        → sheet_played chip s j each ≡ all_played chip s j each
    unfolding sheet_played judged
    sheet_played_lem ok e = rw (ok, e)

-- ---- what an acceptance says ----

-- of sheet, player and all that is lent
pub record Good (chip : Chip) (s : List ℕ) (p : Player) (j : Joined) : Type 0 where
  pub rooms : Rooms chip s j
  pub found : lost chip s p ≡ false
  pub fit : Fit chip j.state.memory

pub good : (chip : Chip) (s : List ℕ) (p : Player) (j : Joined) → joined_verdict chip s p (lengths j) ≡ Accepted → Good chip s p j
unfolding joined_verdict
good chip s p j ok =
    record {
      rooms = record { accepted = a.0; frame = a.1; reply = lent.room };
      found = a.2;
      fit = fit;
    }
  where
    parts : (player_verdict chip s p (length j.frame) (length j.sums) ≡ Accepted)
        × (lent_verdict chip (length j.state.memory.code) (length j.state.memory.«data») (length j.reply) ≡ Accepted)
    parts = verdicts.both _ _ ok

    a : (verdict chip s (length j.sums) ≡ Accepted) × (frame_room ≤ length j.frame) × (lost chip s p ≡ false)
    a = allowed_call chip s p (length j.frame) (length j.sums) parts.0

    lent : Fits chip j.state.memory.code j.state.memory.«data» j.reply
    lent = lent_fits chip j.state.memory.code j.state.memory.«data» j.reply parts.1

    fit : Fit chip j.state.memory
    fit Code = lent.in_code
    fit Data = lent.in_data

ready : (g : Stage) → is_ready g ≡ true → g ≡ Ready
ready Ready e = refl
ready New e = absurd (false≢true e)
ready Block e = absurd (false≢true e)
ready (Commanded k) e = absurd (false≢true e)
ready (Page k) e = absurd (false≢true e)
ready (Paged k) e = absurd (false≢true e)
ready Over e = absurd (false≢true e)

-- a step may start
pub starts : (chip : Chip) (s : List ℕ) (j : Joined)
    → Plays (joined_verdict chip s j.player (lengths j)) (starts_step chip s j.player) (waits chip j.state)
    → StepReady chip s j
unfolding starts_step
starts chip s j w =
    let g = good chip s j.player j w.accepted in
    let p = j.player in
    let most = most_frames (step_at chip s p.step) in
    let q = both (is_ready p.stage) (leb (p.frames + most) 0xFFFFFFFF) w.starts in
    let stage = ready p.stage q.0 in
    record {
      rooms = g.rooms;
      sized = accepted_sized chip s (length j.sums) g.rooms.accepted;
      begins =
          record {
            stage = stage;
            there = ready_stands chip s p g.found stage;
            counts = leb-true (p.frames + most) 0xFFFFFFFF q.1;
            waiting = w.waits;
            fit = g.fit;
          };
    }

-- a sheet may be opened
pub opens : (chip : Chip) (s : List ℕ) (j : Joined) → j.player ≡ new_player → joined_verdict chip s new_player (lengths j) ≡ Accepted
    → waits chip j.state ≡ true
    → PlayReady chip s j
opens chip s j new ok w =
    let g = good chip s new_player j ok in
    record {
      rooms = g.rooms;
      sized = accepted_sized chip s (length j.sums) g.rooms.accepted;
      fresh = ap (λ (p : Player). p.stage) new;
      waiting = w;
      fit = g.fit;
    }
