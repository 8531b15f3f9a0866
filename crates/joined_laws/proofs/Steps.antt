-- A whole step of a play: from its beginning, turn by turn, to what it means. Assumes nothing.
use mathlib.Core.Path.{◌≡◌, refl, sym, ap, ◌∙◌}
use mathlib.Core.Bool.{true, false}
use mathlib.Core.List.{List, []}
use mathlib.Core.Logic.{inl, inr}
use Prim.Native.Nat.{ℕ, zero, suc, ◌+◌, ◌<◌, ◌≤◌}
use native.Mathlib.Omega.{arith}
use Rattle.rules.specs.declared.Chip.{Chip}
use Rattle.rules.specs.declared.Kind.{Kind}
use Rattle.rules.specs.declared.Kind.TheVariants.{Erase, Write, Verify, Sum, Blank, Lock}
use Rattle.rules.specs.declared.Options.{Options}
use Rattle.rules.specs.declared.Phase.{Phase}
use Rattle.rules.specs.declared.Phase.TheVariants.{Command}
use Rattle.rules.specs.declared.Step.{Step}
use Rattle.rules.specs.Answers.{Accepted}
use Rattle.rules.specs.Chip.{Memory}
use Rattle.rules.specs.StandIn.{State, rest}
use Rattle.rules.specs.Sheet.{verdict, step_at}
use Rattle.rules.specs.Player.{emitted}
use Rattle.rules.specs.Run.{clean, Joined, turned, ran, none, run_from, step_from, most_for, most_frames, step_run, waits}
use Rattle.sheet.proofs.Accepted.{Sound, sound}
use Rattle.joined_laws.specs.Turns.{Sized, AtBeginning, Leaves, step_leaves, StepEnds, StepRuns}
use Rattle.joined_laws.proofs.MeaningSteps.{erase_means}
use Rattle.joined_laws.proofs.FramesHeard.{waiting_phase, waiting_got, waiting_open}
use Rattle.joined_laws.proofs.Turns.{Begun, At, AtBlock, AtOpen, AtOnce, Mid, Turned, Ends, Goes, mid_frame, turn, sum_once, blank_once, lock_once}

-- ---- the beginning of a step ----

rest_as : (x : State) → x.phase ≡ Command → x.got ≡ [] → x ≡ rest Command x.task x.options x.memory
rest_as x e f =
    ap (λ (y : Phase). record { phase = y; task = x.task; options = x.options; got = x.got; memory = x.memory }) e
    ∙ ap (λ (y : List ℕ). record { phase = Command; task = x.task; options = x.options; got = y; memory = x.memory }) f

module _ (chip : Chip) (sized : Sized chip) (s : List ℕ) (room : ℕ) (ok : verdict chip s room ≡ Accepted) (j : Joined) (b : AtBeginning chip s j) where
  abbrev i : ℕ
  i = j.player.step

  abbrev t : Step
  t = step_at chip s i

  abbrev o : Options
  o = j.state.options

  abbrev m : Memory
  m = j.state.memory

  known : Sound chip s i t
  known = sound chip s room ok i b.there

  rests : j.state ≡ rest Command j.state.task o m
  rests = rest_as j.state (waiting_phase chip j.state b.waiting) (waiting_got chip j.state b.waiting)

  waiting : waits chip (rest Command j.state.task o m) ≡ true
  waiting = sym (ap (waits chip) rests) ∙ b.waiting

  some_for : (x : Kind) → 0 < most_for x t
  unfolding most_for
  some_for Erase = known.some
  some_for Write = omega arith
  some_for Verify = omega arith
  some_for Sum = omega arith
  some_for Blank = omega arith
  some_for Lock = omega arith

  begun : Begun chip s i j.player.frames o j.sums (step_leaves o s t m) j.player j.state.task m
  begun = record { stage = b.stage; frames = refl; waiting = waiting }

  begin_at : (x : Kind) → t.kind ≡ x → At chip s i j.player.frames o j.sums (step_leaves o s t m) (most_for x t) j.player j.state.task m
  unfolding most_for
  begin_at Erase k =
      AtBlock k 0 (inl (b.stage, refl)) waiting (omega arith) (omega arith) (erase_means o s t m k)
  begin_at Write k = AtOpen (inl k) begun refl refl
  begin_at Verify k = AtOpen (inr k) begun refl refl
  begin_at Sum k = AtOnce begun refl (sum_once chip s i _ o _ _ sized known j.player refl j.state.task m b.fit begun refl k)
  begin_at Blank k = AtOnce begun refl (blank_once chip s i _ o _ _ sized known j.player refl j.state.task m b.fit begun refl k)
  begin_at Lock k = AtOnce begun refl (lock_once chip s i _ o _ _ sized known j.player refl j.state.task m b.fit begun refl k)

  -- A STEP BEGINS, and comes to its meaning
  pub begin : Mid chip s i j.player.frames o j.sums (step_leaves o s t m) (most_frames t) j
  unfolding most_frames
  begin =
      record {
        some = some_for t.kind;
        there = b.there;
        step = refl;
        list = refl;
        state = rests;
        fit = b.fit;
        ifpr = waiting_open chip j.state b.waiting;
        counts = b.counts;
        at = begin_at t.kind refl;
      }

-- ---- from there to its end ----

module _ (chip : Chip) (s : List ℕ) (i n : ℕ) (o : Options) (sums : List ℕ) (e : Leaves) (sized : Sized chip) (room : ℕ) (ok : verdict chip s room ≡ Accepted) where
  -- the step ends within so many turns, after as many frames, and so does any longer run
  record Leads (turns k c : ℕ) (j : Joined) : Type 0 where
    end : Joined
    used : ℕ
    few : used ≤ k
    sent : end.player.frames ≡ j.player.frames + used
    ran : step_from clean chip s c turns j ≡ ran true end
    within : (calls : ℕ) → run_from clean chip s c (used + calls) j ≡ run_from clean chip s (c + used) calls end
    ends : StepEnds chip s i n sums e end

  leads : (turns k c : ℕ) (j : Joined) → Mid chip s i n o sums e k j → k ≤ turns → Leads turns k c j
  unfolding step_from run_from
  leads zero k c j mid l = absurd (omega arith)
  leads (suc turns) k c j mid l =
      go (λ more z m. leads turns more (c + 1) (turned clean chip s c j) m (omega arith)) (turn chip s i n o sums e room ok k j mid sized c)
    where
      speaks : none (emitted chip s j.player).bytes ≡ false
      speaks = ap none (mid_frame chip s i n o sums e room ok k j mid).bytes

      go : ((more : ℕ) → k ≡ suc more → Mid chip s i n o sums e more (turned clean chip s c j) → Leads turns more (c + 1) (turned clean chip s c j))
          → Turned chip s i n o sums e k j (turned clean chip s c j) → Leads (suc turns) k c j
      go later (Ends b f ends) =
          record {
            end = turned clean chip s c j;
            used = 1;
            few = mid.some;
            sent = f;
            ran = rw b;
            within = λ calls. let z : 1 + calls ≡ suc calls = omega arith in rw (z, speaks);
            ends = ends;
          }
      go later (Goes b f more z mid') =
          let r = later more z mid' in
          record {
            end = r.end;
            used = suc r.used;
            few = omega (arith, r.few);
            sent = r.sent ∙ omega (arith, f);
            ran = rw b r.ran;
            within = λ calls.
                let u : suc r.used + calls ≡ suc (r.used + calls) = omega arith in
                let v : c + suc r.used ≡ c + 1 + r.used = omega arith in
                rw (u, v, speaks) (r.within calls);
            ends = r.ends;
          }

-- A WHOLE STEP: it ends as it means
pub step_ends : (chip : Chip) → Sized chip → (s : List ℕ) (room : ℕ) → verdict chip s room ≡ Accepted → (c : ℕ) (j : Joined) → AtBeginning chip s j
    → StepRuns chip s (step_leaves j.state.options s (step_at chip s j.player.step) j.state.memory) c j
unfolding step_run
step_ends chip sized s room ok c j b =
    let t = step_at chip s j.player.step in
    let e = step_leaves j.state.options s t j.state.memory in
    let r = leads chip s j.player.step j.player.frames j.state.options j.sums e sized room ok (most_frames t) (most_frames t) c j (begin chip sized s room ok j b) (omega arith) in
    let u : r.used ≡ e.done.frames = omega (arith, r.sent, r.ends.frames) in
    record { end = r.end; ran = r.ran; ends = r.ends; most = omega (arith, r.few); within = λ calls. rw u at (r.within calls) }
