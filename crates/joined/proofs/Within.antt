-- Within a step: the run of the step leads here, and so it does after one more turn. Assumes nothing.
use mathlib.Core.Path.{◌≡◌, sym, ap, ◌∙◌}
use mathlib.Core.Bool.{Bool, true, false, cond, false≢true}
use mathlib.Core.List.{List}
use Prim.Native.Nat.{ℕ, suc, ◌+◌, ◌-◌, ◌<◌, ◌≤◌}
use native.Mathlib.Omega.{arith}
use lib.ListN.{length}
use borrow.Author.Tests.{ltb-false}
use Rattle.rules.specs.declared.Chip.{Chip}
use Rattle.rules.specs.Sheet.{count, step_at}
use Rattle.rules.specs.Run.{clean, Joined, Ran, ran, turned, between, step_from, most_frames, step_run}
use Rattle.rules.proofs.Sheet.{accepted_allowed}
use Rattle.joined_laws.specs.Turns.{Sized, step_leaves}
use Rattle.joined_laws.proofs.Turns.{Mid, Turned, Ends, Goes, mid_frame, mid_found, turn, any_turn_as}
use Rattle.joined_laws.proofs.Steps.{begin}
use Rattle.joined.specs.Turn.{Rooms, TurnReady, StepReady}

-- the states of the step that was begun at `j`
abbrev In : Chip → List ℕ → Joined → ℕ → Joined → Type 0
In chip s j k now =
    Mid chip s j.player.step j.player.frames j.state.options j.sums
    (step_leaves j.state.options s (step_at chip s j.player.step) j.state.memory)
    k
    now

-- the room is there while what is lent keeps its lengths
pub rooms_kept : (chip : Chip) (s : List ℕ) (j k : Joined) → Rooms chip s j → length k.sums ≡ length j.sums → length k.frame ≡ length j.frame → length k.reply ≡ length j.reply
    → Rooms chip s k
rooms_kept chip s j k rooms sums frame reply =
    record { accepted = rw sums rooms.accepted; frame = rw frame rooms.frame; reply = rw reply rooms.reply }

-- an accepted sheet has 64 steps at most
pub few_steps : (chip : Chip) (s : List ℕ) (j : Joined) → Rooms chip s j → count s ≤ 64
few_steps chip s j rooms = ltb-false 64 (count s) (accepted_allowed chip s (length j.sums) rooms.accepted).sheet.j2

-- i turns were made of at most so many
pub record Within (chip : Chip) (s : List ℕ) (j : Joined) (most i : ℕ) (now : Joined) : Type 0 where
  pub sized : Sized chip
  pub rooms : Rooms chip s now
  pub few : i < most
  pub mid : In chip s j (most - i) now
  pub leads : step_from clean chip s i (most - i) now ≡ step_run clean chip s 0 j

module _ (chip : Chip) (s : List ℕ) (j : Joined) where
  pub starting : StepReady chip s j → (most : ℕ) → most ≡ most_frames (step_at chip s j.player.step) → Within chip s j most 0 j
  unfolding step_run
  starting b most e =
      let z : most - 0 ≡ most_frames (step_at chip s j.player.step) = omega arith in
      let mid = begin chip b.sized s (length j.sums) b.rooms.accepted j b.begins in
      record {
        sized = b.sized;
        rooms = b.rooms;
        few = omega (arith, mid.some);
        mid = rw z mid;
        leads = ap (λ (k : ℕ). step_from clean chip s 0 k j) z;
      }

  module _ (most i : ℕ) (now : Joined) (w : Within chip s j most i now) where
    pub turnable : TurnReady chip s now
    turnable =
        record {
          rooms = w.rooms;
          found = mid_found chip s _ _ _ _ _ (length now.sums) w.rooms.accepted (most - i) now w.mid;
          fit = w.mid.fit;
          framed = mid_frame chip s _ _ _ _ _ (length now.sums) w.rooms.accepted (most - i) now w.mid;
        }

    -- one turn of the step's run
    one_turn : let t = turned clean chip s 0 now in
        cond (between t.player) (ran true t) (step_from clean chip s (i + 1) (most - (i + 1)) t) ≡ step_run clean chip s 0 j
    unfolding step_from
    one_turn =
        let k : most - i ≡ suc (most - (i + 1)) = omega (arith, w.few) in
        ap (λ (x : Joined). cond (between x.player) (ran true x) (step_from clean chip s (i + 1) (most - (i + 1)) x)) (any_turn_as chip s now 0 i)
        ∙ ap (λ (n : ℕ). step_from clean chip s i n now) (sym k)
        ∙ w.leads

    module _ (next : Joined) (e : next ≡ turned clean chip s 0 now) where
      -- the player is between two steps: that is the end
      pub ends_here : between next.player ≡ true → next ≡ (step_run clean chip s 0 j).reached
      ends_here b =
          let t = turned clean chip s 0 now in
          let c : between t.player ≡ true = ap (λ (x : Joined). between x.player) (sym e) ∙ b in
          e ∙ ap (λ (r : Ran). r.reached) (ap (λ (x : Bool). cond x (ran true t) (step_from clean chip s (i + 1) (most - (i + 1)) t)) (sym c) ∙ one_turn)

      -- else the step goes on
      pub goes_on_lem : between next.player ≡ false → Rooms chip s next → Within chip s j most (i + 1) next
      goes_on_lem b rooms =
          go (turn chip s _ _ _ _ _ (length now.sums) w.rooms.accepted (most - i) now w.mid w.sized 0)
        where
          c : between (turned clean chip s 0 now).player ≡ false
          c = ap (λ (x : Joined). between x.player) (sym e) ∙ b

          go : Turned chip s j.player.step j.player.frames j.state.options j.sums (step_leaves j.state.options s (step_at chip s j.player.step) j.state.memory) (most - i) now (turned clean chip s 0 now)
              → Within chip s j most (i + 1) next
          go (Ends d f ends) = absurd (false≢true (sym c ∙ d))
          go (Goes d f more k mid) =
              let z : most - (i + 1) ≡ more = omega arith in
              record {
                sized = w.sized;
                rooms = rooms;
                few = omega (arith, mid.some, w.few);
                mid = rw (z, e) mid;
                leads = rw e (ap (λ (x : Bool). cond x (ran true (turned clean chip s 0 now)) (step_from clean chip s (i + 1) (most - (i + 1)) (turned clean chip s 0 now))) (sym c) ∙ one_turn);
              }
