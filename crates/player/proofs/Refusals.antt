-- A player call: which refusal it names, and, where it names none, that it is the frame given after the reply was taken in. Assumes nothing.
use mathlib.Core.Path.{◌≡◌, refl, sym, ap, ◌∙◌}
use mathlib.Core.Bool.{true, false, cond}
use mathlib.Core.List.{List, [], ◌∷◌}
use Prim.Native.Nat.{ℕ, ◌<◌, ◌≤◌}
use native.Mathlib.Omega.{arith}
use lib.Dec.{eqb}
use lib.ListN.{length}
use borrow.Author.Tests.{lt-ltb, le-ltb, ne_eqb}
use Rattle.rules.specs.declared.Chip.{Chip}
use Rattle.rules.specs.Answers.{Next, Refused, Frame, End, Accepted}
use Rattle.rules.specs.declared.Player.{Player}
use Rattle.rules.specs.declared.Refusal.{Refusal}
use Rattle.rules.specs.declared.Refusal.TheVariants.{P1, P2}
use Rattle.rules.specs.declared.Report.{Report}
use Rattle.rules.specs.Answers as v
use Rattle.rules.specs.Sheet.{verdict}
use Rattle.rules.specs.First.{first}
use Rattle.rules.specs.Numbers.{next_number, status_number}
use Rattle.rules.specs.Player.{Called, Absorbed, absorbs, absorbed, emitted, report_of, lost, frame_room, player_verdict, calls, next_of, played, called}
use Rattle.player_laws.proofs.Moves.{call_refused, call_played}
use Rattle.player_laws.proofs.CallAdvances.{absorbed_stands}
use Rattle.player_laws.proofs.PlaceInSheet.{call_allowed}
use Rattle.player_absorb.specs.Absorbing.{absorbed_in}
use Rattle.player_emit.specs.Emitting.{Emitting, emitting, emitting_by, emitted_into}
use Rattle.player_emit.proofs.EmittedInto.{into_emitted}

-- calls that are the same answer and report by the same numbers
pub numbered : (x y : Called) → x ≡ y
    → (x ≡ y) × ((next_number x.call ≡ next_number y.call) × (status_number x.report.status ≡ status_number y.report.status))
numbered x y e =
    (e, (ap (λ (c : Called). next_number c.call) e, ap (λ (c : Called). status_number c.report.status) e))

-- the answer of a call by the bytes given
next_is : (bytes : List ℕ) → cond (eqb (length bytes) 0) End (Frame (length bytes)) ≡ next_of bytes
next_is [] = refl
next_is (b ∷ bs) = rw (ne_eqb (length (b ∷ bs)) 0 (λ e. omega arith))

module _ (chip : Chip) (s : List ℕ) (p : Player) (r buffer sums : List ℕ) where
  -- "A player call names a J refusal first"
  pub refused_J : (n : Refusal) → verdict chip s (length sums) ≡ v.Refused n → called chip s p r buffer sums ≡ calls p (Refused n) buffer sums
  unfolding player_verdict first
  refused_J n e = call_refused chip s p r buffer sums n (rw e)

  module _ (ok : verdict chip s (length sums) ≡ Accepted) where
    -- "then P1"
    pub refused_P1 : length buffer < frame_room → called chip s p r buffer sums ≡ calls p (Refused P1) buffer sums
    unfolding player_verdict first
    refused_P1 h = call_refused chip s p r buffer sums P1 (rw (ok, lt-ltb (length buffer) frame_room h))

    module _ (room : frame_room ≤ length buffer) where
      -- "then P2"
      pub refused_P2 : lost chip s p ≡ true → (q : Player) (sums2 : List ℕ) → absorbs q sums2 ≡ absorbed_in chip s p r sums
          → called chip s p r buffer sums ≡ calls p (Refused P2) buffer sums2
      unfolding player_verdict first absorbed_in
      refused_P2 h q sums2 taken =
          call_refused chip s p r buffer sums P2 (rw (ok, le-ltb (length buffer) frame_room room, h))
          ∙ ap (calls p (Refused P2) buffer) (sym (ap (λ (a : Absorbed). a.sums) taken ∙ rw h))

      module _ (h : lost chip s p ≡ false) where
        -- A CALL IS `emitted` AFTER `absorbed`
        pub one_after_other : let a = absorbed chip s p r sums in let e = emitted chip s a.player in
            called chip s p r buffer sums
            ≡ calls e.player (next_of e.bytes) (emitting_by e buffer).frame a.sums
        unfolding played
        one_after_other =
            call_played chip s p r buffer sums (call_allowed chip s p (length buffer) (length sums) ok room h)

        -- the parts of a call, each as it came
        module _ (q : Player) (sums2 : List ℕ) (took : absorbs q sums2 ≡ absorbed_in chip s p r sums) where
          taken : absorbs q sums2 ≡ absorbed chip s p r sums
          unfolding absorbed_in
          taken = took ∙ rw h

          still : lost chip s q ≡ false
          still =
              ap (λ (a : Absorbed). lost chip s a.player) taken ∙ absorbed_stands chip s (length sums) ok p r sums h

          pub call_parts : (g : Player) (n : ℕ) (buffer2 : List ℕ) → emitting g n buffer2 ≡ emitted_into chip s q buffer
              → (next : Next) → next ≡ cond (eqb n 0) End (Frame n)
              → (report : Report) → report ≡ report_of g
              → record { player = g; call = next; report = report; frame = buffer2; sums = sums2 } ≡ called chip s p r buffer sums
          call_parts g n buffer2 given next x report y =
              let z = given ∙ into_emitted chip s q buffer (length sums) ok room still in
              ap (λ (w : Next). record { player = g; call = w; report = report; frame = buffer2; sums = sums2 }) x
              ∙ ap (λ (w : Report). record { player = g; call = cond (eqb n 0) End (Frame n); report = w; frame = buffer2; sums = sums2 }) y
              ∙ ap (λ (w : Emitting). calls w.player (cond (eqb w.sent 0) End (Frame w.sent)) w.frame sums2) z
              ∙ ap (λ (w : Next). calls (emitted chip s q).player w (emitting_by (emitted chip s q) buffer).frame sums2) (next_is (emitted chip s q).bytes)
              ∙ ap (λ (w : Absorbed). let e = emitted chip s w.player in calls e.player (next_of e.bytes) (emitting_by e buffer).frame w.sums) taken
              ∙ sym one_after_other
