-- Through a sheet: the run leads to the beginning of every step, and so it does after one more; at its end the player is finished or
-- stopped. The frames of each step are kept in a list. Assumes nothing.
use mathlib.Core.Path.{◌≡◌, refl, sym, ap, subst, ◌∙◌}
use mathlib.Core.Bool.{Bool, true, false, cond, false≢true}
use mathlib.Core.List.{List}
use mathlib.Core.Logic.{◌⊎◌, inl, inr}
use Prim.Native.Nat.{ℕ, zero, suc, ◌+◌, ◌-◌, ◌<◌, ◌≤◌}
use native.Mathlib.Omega.{arith}
use lib.Dec.{eqb}
use lib.ListN.{length, set}
use borrow.Author.Tests.{eq-eqb, ne_eqb}
use Rattle.rules.specs.declared.Chip.{Chip}
use Rattle.rules.specs.declared.Player.{Player}
use Rattle.rules.specs.declared.Stage.{Stage}
use Rattle.rules.specs.declared.Stage.TheVariants.{New, Ready, Block, Commanded, Page, Paged, Over}
use Rattle.rules.specs.Sheet.{count, step_at}
use Rattle.rules.specs.StandIn.{State}
use Rattle.rules.specs.Meaning.{Done, step_frames_from, step_frames}
use Rattle.rules.specs.Player.{Absorbed, absorbs, started}
use Rattle.rules.specs.Run.{clean, Joined, joining, Ran, ran, taken_in, turned, between, run_from, step_from, most_frames, most_calls, run, step_run}
use Rattle.player_laws.proofs.Moves.{absorb_new}
use Rattle.player_laws.proofs.PlaceInSheet.{stands_new}
use Rattle.player_absorb.specs.Absorbing.{absorbed_in}
use Rattle.joined_laws.specs.Turns.{Sized}
use Rattle.joined_laws.proofs.Run.{Before, done_at, leaves_at, Played, played, over_ends, begun_as, before_first}
use Rattle.joined_laws.proofs.Turns.{any_turn_as}
use Rattle.joined.specs.Plays.{is_over, played_to, all_played}
use Rattle.joined.specs.Turn.{Rooms, StepReady}
use Rattle.joined.proofs.Within.{rooms_kept}
use Rattle.joined.specs.Ready.{PlayReady}

-- over a clean line it does not matter how many frames went before
any_turn : (chip : Chip) (s : List ℕ) (k c : ℕ) (j : Joined) → step_from clean chip s c k j ≡ step_from clean chip s 0 k j
unfolding step_from
any_turn chip s zero c j = refl
any_turn chip s (suc k) c j =
    ap (λ (x : Joined). cond (between x.player) (ran true x) (step_from clean chip s (c + 1) k x)) (any_turn_as chip s j c 0)
    ∙ ap (λ (r : Ran). cond (between (turned clean chip s 0 j).player) (ran true (turned clean chip s 0 j)) r) (any_turn chip s k (c + 1) (turned clean chip s 0 j) ∙ sym (any_turn chip s k (0 + 1) (turned clean chip s 0 j)))

any_step : (chip : Chip) (s : List ℕ) (c : ℕ) (j : Joined) → step_run clean chip s c j ≡ step_run clean chip s 0 j
unfolding step_run
any_step chip s c j = any_turn chip s (most_frames (step_at chip s j.player.step)) c j

is_over_lem : (g : Stage) → is_over g ≡ true → g ≡ Over
is_over_lem Over e = refl
is_over_lem New e = absurd (false≢true e)
is_over_lem Ready e = absurd (false≢true e)
is_over_lem Block e = absurd (false≢true e)
is_over_lem (Commanded k) e = absurd (false≢true e)
is_over_lem (Page k) e = absurd (false≢true e)
is_over_lem (Paged k) e = absurd (false≢true e)

-- the frames of each step, from the step that begins here: where none is left, and with this one done or stopped
module _ (chip : Chip) (s : List ℕ) (i : ℕ) (each : List ℕ) (j : Joined) where
  abbrev each_from : ℕ → List ℕ
  each_from left = step_frames_from chip s j.state.options j.state.memory i each left

  abbrev d : Done
  d = done_at chip s i j

  none_each : (left : ℕ) → left ≡ 0 → each_from left ≡ each
  unfolding step_frames_from
  none_each left e = rw e

  module _ (left : ℕ) where
    done_each : d.status ≡ 0x06
        → each_from (suc left) ≡ step_frames_from chip s (leaves_at chip s i j).options d.memory (i + 1) (set each i d.frames) left
    unfolding step_frames_from
    done_each e = rw (eq-eqb d.status 0x06 e)

    stopped_each : (d.status ≡ 0x06 → ⊥) → each_from (suc left) ≡ set each i d.frames
    unfolding step_frames_from
    stopped_each n = rw (ne_eqb d.status 0x06 n)

-- i steps are done, or the play is over; the run from `j` leads here, and the list lent as `each₀` comes to be that of all steps
pub record Through (chip : Chip) (s : List ℕ) (j : Joined) (each₀ : List ℕ) (i : ℕ) (now : Joined) (each : List ℕ) : Type 0 where
  pub sized : Sized chip
  pub rooms : Rooms chip s now
  pub turns : ℕ
  pub calls : ℕ
  pub some : 0 < calls
  pub leads : run_from clean chip s turns calls now ≡ run_from clean chip s 0 (most_calls chip s) j
  pub stands : ((now.player.stage ≡ Over) × (each ≡ step_frames chip s j.state.options j.state.memory each₀))
      ⊎ ((n : ℕ) × Before chip s i n (count s - i) calls now
      × (step_frames_from chip s now.state.options now.state.memory i each (count s - i) ≡ step_frames chip s j.state.options j.state.memory each₀))

module _ (chip : Chip) (s : List ℕ) where
  -- as the code makes it: whatever the reply
  pub first_call : (j : Joined) → j.player.stage ≡ New → (r : List ℕ) (q : Player) (sums : List ℕ)
      → absorbs q sums ≡ absorbed_in chip s j.player r j.sums
      → joining q j.state sums j.frame j.reply j.arrived ≡ taken_in chip s j
  unfolding absorbed_in
  first_call j new r q sums e =
      let a : absorbs q sums ≡ absorbs (started s) j.sums =
      e ∙ rw (stands_new chip s j.player new) (absorb_new chip s j.player r j.sums new) in
      ap (λ (x : Absorbed). joining x.player j.state x.sums j.frame j.reply j.arrived) a ∙ sym (begun_as chip s j new)

  -- the end of a play begun so is that of the whole
  pub ended_as : (j b : Joined) → b ≡ taken_in chip s j → b.state ≡ j.state → (end : Joined) (each₀ each : List ℕ)
      → end ≡ (run_from clean chip s 0 (most_calls chip s) b).reached
      → each ≡ step_frames chip s b.state.options b.state.memory each₀
      → played_to end each ≡ all_played chip s j each₀
  unfolding run
  ended_as j b e st end each₀ each p q =
      ap (λ (x : Joined). played_to x each) (p ∙ ap (λ (x : Joined). (run_from clean chip s 0 (most_calls chip s) x).reached) e)
      ∙ ap (λ (x : List ℕ). played_to (run clean chip s j).reached x) (q ∙ ap (λ (x : State). step_frames chip s x.options x.memory each₀) st)

  pub opening : (j : Joined) → PlayReady chip s j → (b : Joined) → b ≡ taken_in chip s j → Rooms chip s b → (each : List ℕ) → Through chip s b each 0 b each
  unfolding step_frames
  opening j o b e rooms each =
      let is = e ∙ begun_as chip s j o.fresh in
      let all_left : count s ≡ count s - 0 = omega arith in
      let before =
      before_first chip s b o.sized (length j.sums) o.rooms.accepted (ap (λ (x : Joined). x.player) is) (rw is o.waiting) (rw is o.fit) in
      record {
        sized = o.sized;
        rooms = rooms;
        turns = 0;
        calls = most_calls chip s;
        some = omega arith;
        leads = refl;
        stands =
            inr (
              0,
              subst (λ k. Before chip s 0 0 k (most_calls chip s) b) all_left before,
              ap (step_frames_from chip s b.state.options b.state.memory 0 each) (sym all_left),
            );
      }

  -- the first call of the code, which keeps the list of sums as long as it was: the play begins there, and its end is that of the whole
  module _ (j : Joined) (r : List ℕ) (q : Player) (sums : List ℕ) (e : absorbs q sums ≡ absorbed_in chip s j.player r j.sums) where
    abbrev begun : Joined
    begun = joining q j.state sums j.frame j.reply j.arrived

    pub opened : PlayReady chip s j → length sums ≡ length j.sums → (each : List ℕ) → Through chip s begun each 0 begun each
    opened o kept each =
        opening j o begun (first_call j o.fresh r q sums e)
        (rooms_kept chip s j begun o.rooms kept refl refl)
        each

    pub ended : j.player.stage ≡ New → (end : Joined) (each₀ each : List ℕ)
        → end ≡ (run_from clean chip s 0 (most_calls chip s) begun).reached
        → each ≡ step_frames chip s j.state.options j.state.memory each₀
        → played_to end each ≡ all_played chip s j each₀
    ended new end each₀ each = ended_as j begun (first_call j new r q sums e) refl end each₀ each

  module _ (j : Joined) (each₀ : List ℕ) (i : ℕ) (now· : Joined) (each : List ℕ) (t : Through chip s j each₀ i now· each) where
    abbrev all : List ℕ
    all = step_frames chip s j.state.options j.state.memory each₀

    abbrev Stood : Type 0
    Stood =
        ((now·.player.stage ≡ Over) × (each ≡ all))
        ⊎ ((n : ℕ) × Before chip s i n (count s - i) t.calls now· × (each_from chip s i each now· (count s - i) ≡ all))

    -- the end of the run, and of the list
    abbrev Ended : Type 0
    Ended = (now· ≡ (run_from clean chip s 0 (most_calls chip s) j).reached) × (each ≡ all)

    over_here : now·.player.stage ≡ Over → each ≡ all → Ended
    over_here g e = (ap (λ (r : Ran). r.reached) (sym (over_ends chip s clean t.turns t.calls now· t.some g) ∙ t.leads), e)

    -- before a step the player is at its beginning
    at_beginning : (n left calls : ℕ) → Before chip s i n left calls now· → now·.player.stage ≡ cond (eqb i (count s)) Over Ready
    at_beginning n left calls b = ap (λ (p : Player). p.stage) b.at

    pub told_over : i < count s → is_over now·.player.stage ≡ true → Ended
    told_over l e = go t.stands
      where
        go : Stood → Ended
        go (inl g) = over_here g.0 g.1
        go (inr b) =
            let ready = at_beginning b.0 (count s - i) t.calls b.1 ∙ ap (λ (x : Bool). cond x Over Ready) (ne_eqb i (count s) (omega (arith, l))) in
            absurd (false≢true (sym (ap is_over ready) ∙ e))

    pub all_done : count s ≤ i → Ended
    all_done l = go t.stands
      where
        go : Stood → Ended
        go (inl g) = over_here g.0 g.1
        go (inr b) =
            over_here
            (at_beginning b.0 (count s - i) t.calls b.1 ∙ ap (λ (x : Bool). cond x Over Ready) (eq-eqb i (count s) (omega (arith, b.1.all))))
            (sym (none_each chip s i each now· (count s - i) (omega (arith, l))) ∙ b.2)

    -- not over: a step begins
    module _ (l : i < count s) (no : is_over now·.player.stage ≡ false) where
      abbrev left : ℕ
      left = count s - (i + 1)

      abbrev Begun : Type 0
      Begun = (n : ℕ) × Before chip s i n (suc left) t.calls now· × (each_from chip s i each now· (suc left) ≡ all)

      before : Begun
      before = go t.stands
        where
          go : Stood → Begun
          go (inl g) = absurd (false≢true (sym no ∙ ap is_over g.0))
          go (inr b) =
              let less : count s - i ≡ suc left = omega (arith, l) in (
                b.0,
                subst (λ k. Before chip s i b.0 k t.calls now·) less b.1,
                ap (each_from chip s i each now·) (sym less) ∙ b.2,
              )

      abbrev n : ℕ
      n = before.0

      abbrev done : Done
      done = d chip s i each now·

      -- the step that begins here, as the run of the whole sheet takes it
      step : Played chip s i n left t.turns t.calls now·
      step = played chip s t.sized (length now·.sums) t.rooms.accepted i n left t.turns t.calls now· before.1

      pub may_start : StepReady chip s now·
      may_start = record { rooms = t.rooms; sized = t.sized; begins = step.begins }

      -- and is played, and its frames are put
      module _ (next : Joined) (e : next ≡ (step_run clean chip s 0 now·).reached) (rooms : Rooms chip s next) where
        end_is : next ≡ step.end
        end_is = e ∙ ap (λ (r : Ran). r.reached) (sym (any_step chip s t.turns now·) ∙ step.ran)

        abbrev after : ℕ
        after = t.calls - done.frames

        -- the player's count, less the count before
        frames_are : next.player.frames - now·.player.frames ≡ done.frames
        frames_are =
            let n-is = ap (λ (p : Player). p.frames) before.1.at in
            let end = ap (λ (x : Joined). x.player.frames) end_is ∙ step.ends.frames in
            omega (arith, n-is, end)

        module _ (more : List ℕ) (put : more ≡ set each i (next.player.frames - now·.player.frames)) where
          more_is : more ≡ set each i done.frames
          more_is = put ∙ ap (set each i) frames_are

          abbrev StandsAt : Joined → Type 0
          StandsAt x =
              ((x.player.stage ≡ Over) × (more ≡ all))
              ⊎ ((m : ℕ) × Before chip s (i + 1) m (count s - (i + 1)) after x × (each_from chip s (i + 1) more x left ≡ all))

          stands_so : StandsAt step.end
          stands_so = go step.stands
            where
              go : ((done.status ≡ 0x06 → ⊥) × (step.end.player.stage ≡ Over)) ⊎ ((done.status ≡ 0x06) × Before chip s (i + 1) (n + done.frames) left after step.end)
                  → StandsAt step.end
              go (inl g) = inl (g.1, more_is ∙ sym (stopped_each chip s i each now· left g.0) ∙ before.2)
              go (inr b) =
                  inr (
                    n + done.frames,
                    b.1,
                    rw (step.ends.left.options, step.ends.left.memory, more_is) (sym (done_each chip s i each now· left b.0) ∙ before.2),
                  )

          pub step_done_lem : Through chip s j each₀ (i + 1) next more
          step_done_lem =
              record {
                sized = t.sized;
                rooms = rooms;
                turns = t.turns + done.frames;
                calls = after;
                some = step.some;
                leads = ap (run_from clean chip s (t.turns + done.frames) after) end_is ∙ sym step.goes_on ∙ t.leads;
                stands = subst StandsAt (sym end_is) stands_so;
              }
