-- A turn as the code makes it, part by part, is a turn of the definitions. Assumes nothing.
use mathlib.Core.Path.{◌≡◌, refl, sym, ap, ◌∙◌}
use mathlib.Core.List.{List, ◌∷◌}
use Prim.Native.Nat.{ℕ}
use lib.ListN.{length, take, drop}
use lib.Seq.{take-append_seam}
use Rattle.std.specs.Result.{result_unwrap_or}
use Rattle.rules.specs.Answers.{Call, Answer, Refused}
use Rattle.rules.specs.declared.Chip.{Chip}
use Rattle.rules.specs.declared.Flash.TheVariants.{Code, Data}
use Rattle.rules.specs.declared.Phase.TheVariants.{Command}
use Rattle.rules.specs.declared.Player.{Player}
use Rattle.rules.specs.Chip.{over}
use Rattle.rules.specs.StandIn.{State, Out, rest, start_of, task_now, on_frame}
use Rattle.rules.specs.Player.{Absorbed, absorbs, absorbed, Sent, emitted}
use Rattle.rules.specs.Run.{clean, Joined, joining, turned}
use Rattle.rules.proofs.Sheet.{chip_known}
use Rattle.standin_state.specs.View.{Fits}
use Rattle.standin.specs.Feeding.{Feeding, feeding, fed_into}
use Rattle.standin.proofs.Whole.{fed_frame}
use Rattle.player_laws.proofs.CallAdvances.{emitted_stands}
use Rattle.player_emit.specs.Emitting.{Emitting, emitting, emitting_by, emitted_into}
use Rattle.player_absorb.specs.Absorbing.{absorbed_in}
use Rattle.player_emit.proofs.EmittedInto.{into_emitted}
use Rattle.joined_laws.specs.Hears.{hears}
use Rattle.joined_laws.specs.Turns.{Framed}
use Rattle.joined_laws.proofs.FramesHeard.{Fresh, fresh_command, hears_whole}
use Rattle.joined_laws.proofs.Turns.{turn_as}
use Rattle.joined.specs.Rigs.{answer_size}
use Rattle.joined.specs.Turn.{TurnReady}

-- ---- a buffer whose first bytes were replaced ----

pub over_first : (new old : List ℕ) → take (length new) (over new old) ≡ new
unfolding over
over_first new old = take-append_seam new (drop (length new) old)

-- ---- a whole frame of the kind awaited ----

module _ (chip : Chip) (s : List ℕ) (j : Joined) (f : Framed chip s j) where
  abbrev bytes : List ℕ
  bytes = start_of (task_now chip j.state.phase j.state.task) ∷ f.len ∷ f.more

  abbrev done : Out
  done = on_frame chip (rest j.state.phase j.state.task j.state.options j.state.memory) bytes

  fresh : Fresh j.state Command
  fresh = fresh_command j.state f.phase f.got

  -- fed into a reply buffer
  pub fed_heard : (reply : List ℕ) → Fits chip j.state.memory.code j.state.memory.«data» reply
      → let h = hears chip j.state bytes in
      fed_into chip j.state reply bytes ≡ feeding h.state (Answer (length h.answer)) (length bytes) (over h.answer reply)
  fed_heard reply lent =
      fed_frame chip j.state (rw f.phase fresh.listens) (rw f.phase fresh.moded) f.got f.len f.more f.all reply lent
      ∙ ap (λ (o : Out). feeding o.state (Answer (length o.answer)) (length bytes) (over o.answer reply)) (sym (hears_whole chip j.state Command fresh f.len f.more f.all))

-- ---- the parts of a turn, each as it came ----

-- how many bytes a feeding answered: none where it was refused
pub answered : (call : Call) → result_unwrap_or call 0 ≡ answer_size call
answered (Answer n) = refl
answered (Refused r) = refl

module _ (chip : Chip) (s : List ℕ) (j : Joined) (t : TurnReady chip s j) where
  abbrev e : Sent
  e = emitted chip s j.player

  abbrev h : Out
  h = hears chip j.state e.bytes

  -- the frame given
  given_as : emitted_into chip s j.player j.frame ≡ emitting_by e j.frame
  given_as = into_emitted chip s j.player j.frame (length j.sums) t.rooms.accepted t.rooms.frame t.found

  -- the bytes fed
  fed_as_lem : fed_into chip j.state j.reply e.bytes ≡ feeding h.state (Answer (length h.answer)) (length e.bytes) (over h.answer j.reply)
  fed_as_lem =
      rw t.framed.bytes
      (fed_heard chip s j t.framed j.reply (record { counts = chip_known chip s (length j.sums) t.rooms.accepted; in_code = t.fit Code; in_data = t.fit Data; room = t.rooms.reply }))

  -- the answer taken in
  taken_as_lem : absorbed_in chip s e.player h.answer j.sums ≡ absorbed chip s e.player h.answer j.sums
  unfolding absorbed_in
  taken_as_lem = rw (emitted_stands chip s (length j.sums) t.rooms.accepted j.player t.found)

  pub turn_made : (g : Player) (n : ℕ) (frame : List ℕ) → emitting g n frame ≡ emitted_into chip s j.player j.frame
      → (st : State) (call : Call) (taken : ℕ) (reply : List ℕ) → feeding st call taken reply ≡ fed_into chip j.state j.reply (take n frame)
      → (arrived : ℕ) → arrived ≡ answer_size call
      → (q : Player) (sums : List ℕ) → absorbs q sums ≡ absorbed_in chip s g (take arrived reply) j.sums
      → joining q st sums frame reply (take arrived reply) ≡ turned clean chip s 0 j
  turn_made g n frame given st call taken reply fed arrived size q sums absorbs-so =
      let a : emitting g n frame ≡ emitting_by e j.frame = given ∙ given_as in
      let player-is : g ≡ e.player = ap (λ (x : Emitting). x.player) a in
      let frame_is : frame ≡ over e.bytes j.frame = ap (λ (x : Emitting). x.frame) a in
      let sent : take n frame ≡ e.bytes =
      ap (λ (x : Emitting). take x.sent x.frame) a ∙ over_first e.bytes j.frame in
      let b : feeding st call taken reply ≡ feeding h.state (Answer (length h.answer)) (length e.bytes) (over h.answer j.reply) =
      fed ∙ ap (fed_into chip j.state j.reply) sent ∙ fed_as_lem in
      let state-is : st ≡ h.state = ap (λ (x : Feeding). x.state) b in
      let reply-is : reply ≡ over h.answer j.reply = ap (λ (x : Feeding). x.answers) b in
      let answer-is : take arrived reply ≡ h.answer =
      ap (λ (k : ℕ). take k reply) size
      ∙ ap (λ (x : Feeding). take (answer_size x.call) x.answers) b
      ∙ over_first h.answer j.reply in
      let d : absorbs q sums ≡ absorbed chip s e.player h.answer j.sums =
      absorbs-so
      ∙ ap (λ (x : Player). absorbed_in chip s x (take arrived reply) j.sums) player-is
      ∙ ap (λ (x : List ℕ). absorbed_in chip s e.player x j.sums) answer-is
      ∙ taken_as_lem in
      let z = absorbed chip s e.player h.answer j.sums in
      ap (λ (x : Absorbed). joining x.player st x.sums frame reply (take arrived reply)) d
      ∙ ap (λ (x : State). joining z.player x z.sums frame reply (take arrived reply)) state-is
      ∙ ap (λ (x : List ℕ). joining z.player h.state z.sums x reply (take arrived reply)) frame_is
      ∙ ap (λ (x : List ℕ). joining z.player h.state z.sums (over e.bytes j.frame) reply x) answer-is
      ∙ ap (λ (x : List ℕ). joining z.player h.state z.sums (over e.bytes j.frame) x h.answer) reply-is
      ∙ sym (turn_as chip s j clean 0)
