-- One bad byte in an answer stops the play with L1 there: of any accepted sheet with any stand-in that waits for a command, and from a power-on.
-- Assumes nothing.
use mathlib.Core.Path.{◌≡◌, refl, sym, ap, ◌∙◌}
use mathlib.Core.Bool.{Bool, true, false, false≢true}
use mathlib.Core.List.{List}
use mathlib.Core.Logic.{inl, inr}
use Prim.Native.Nat.{ℕ, ◌+◌, ◌-◌, ◌<◌}
use native.Mathlib.Omega.{arith}
use lib.Dec.{eqb}
use lib.ListN.{length}
use borrow.Author.Tests.{eqb-true, eqb-false, lt-ltb}
use Rattle.rules.specs.declared.Chip.{Chip}
use Rattle.rules.specs.declared.Kind.TheVariants.{Write}
use Rattle.rules.specs.declared.Player.{Player}
use Rattle.rules.specs.declared.Phase.TheVariants.{Command}
use Rattle.rules.specs.declared.Report.{Report}
use Rattle.rules.specs.declared.Stage.TheVariants.{Over}
use Rattle.rules.specs.declared.Status.TheVariants.{Byte, L1}
use Rattle.rules.specs.declared.Task.TheVariants.{Idle}
use Rattle.rules.specs.Answers.{Accepted}
use Rattle.rules.specs.StandIn.{Out, powered, feed, rest}
use Rattle.rules.specs.Sheet.{verdict, step_at}
use Rattle.rules.specs.Meaning.{Ended, meaning_from}
use Rattle.rules.specs.Player.{player, Absorbed, absorbed, Sent, counted, emitted, report_by, report_of}
use Rattle.rules.specs.Run.{clean, Joined, joined_at_start, turned, ran, between_in, between, run}
use Rattle.rules.proofs.Sheet.{chip_known}
use Rattle.joined_laws.specs.Hears.{hears}
use Rattle.joined_laws.specs.Turns.{Sized, most_counted, Leaves, step_leaves, StepEnds}
use Rattle.joined_laws.proofs.FramesHeard.{rest_waits}
use Rattle.joined_laws.proofs.LengthsKept.{feed_kept}
use Rattle.joined_laws.proofs.Open.{ifpr_one}
use Rattle.joined_laws.proofs.Opened.{ident_there, opens}
use Rattle.joined_laws.proofs.Turns.{turn_as, Turned, Ends, Goes, turn}
use Rattle.joined_laws.proofs.Run.{over_ends, some_code, accepted_sized}
use Rattle.joined_bent.specs.Bent.{bent, changed, Change, after, answer_to, sure, Copies, StoppedAt, OneBadByte, OneBadByteFromPowerOn}
use Rattle.joined_bent.proofs.Changes.{bent_there, bent_other}
use Rattle.joined_bent.proofs.Replies.{pieces_sure, Awaits, Sender, sender}
use Rattle.joined_bent.proofs.UpTo.{state_after_lem, over_silent, Inside, Stands, speaks, leads_by, wrote_here, stands}

module _ (chip : Chip) (s : List ℕ) (start : Joined) (sized : Sized chip) (room : ℕ) (ok : verdict chip s room ≡ Accepted)
    (k : ℕ) (j : Joined) (x : Inside chip s start k j) where
  abbrev sent : Sent
  sent = emitted chip s j.player

  abbrev heard : Out
  heard = hears chip j.state sent.bytes

  sends : Sender chip s j.player sent.player
  sends = sender chip s j.player (speaks chip s start sized room ok k j x)

  abbrev pieces : ℕ
  pieces = pieces_sure sent.player.stage sent.player.at

  abbrev awaits : Awaits chip s sent.player pieces
  awaits = sends.awaits

  -- a player that an L1 has stopped
  abbrev stopped_by : Player
  stopped_by = player Over sent.player.step sent.player.at sent.player.frames pieces L1

  -- ---- the clean answer is not L1: it would have stopped the play, and no turn of a clean play ends so ----

  abbrev next : Joined
  next = turned clean chip s k j

  well_read : awaits.read heard.answer ≡ L1 → ⊥
  unfolding between between_in report_of report_by
  well_read e = go (turn chip s x.i x.n x.options x.sums leaves room ok x.turns j x.mid sized k)
    where
      leaves : Leaves
      leaves = step_leaves x.options s (step_at chip s x.i) x.begun

      stops : next.player ≡ stopped_by
      stops =
          ap (λ (y : Joined). y.player) (turn_as chip s j clean k) ∙ ap (λ (a : Absorbed). a.player) (awaits.stops heard.answer j.sums e)

      ended : StepEnds chip s x.i x.n x.sums leaves next → (b : Bool) → eqb leaves.done.status 0x06 ≡ b → ⊥
      ended w true h =
          let q = sym stops ∙ (w.went (eqb-true leaves.done.status 0x06 h)).0 in
          let z : L1 ≡ Byte 0x06 = ap (λ (p : Player). p.status) q in
          let y : ◌≡◌ {A = ℕ} 0 1 = cc in
          omega arith
      ended w false h =
          let q = sym (ap report_of stops) ∙ (w.halted (eqb-false leaves.done.status 0x06 h)).0 in
          let z : L1 ≡ Byte leaves.done.status = ap (λ (r : Report). r.status) q in
          let y : ◌≡◌ {A = ℕ} 0 1 = cc in
          omega arith

      go : Turned chip s x.i x.n x.options x.sums leaves x.turns j next → ⊥
      go (Ends b f w) = ended w (eqb leaves.done.status 0x06) refl
      go (Goes b f more z mid) = false≢true (sym b ∙ ap between stops)

  -- ---- the bent one is ----

  module _ (i d : ℕ) (place : i < length heard.answer) (change : Change d) where
    abbrev end : Joined
    end = turned (bent k i d) chip s k j

    stops_there : end.player ≡ stopped_by
    stops_there =
        ap (λ (y : Joined). y.player) (turn_as chip s j (bent k i d) k)
        ∙ ap (λ (r : List ℕ). (absorbed chip s sent.player r j.sums).player) (bent_there k i d heard.answer)
        ∙ ap (λ (a : Absorbed). a.player)
        (awaits.stops (changed i d heard.answer) j.sums (awaits.delicate heard.answer i d place change well_read))

    ran_there : run (bent k i d) chip s start ≡ ran true end
    ran_there =
        leads_by chip s start sized room ok k j x (bent k i d) (λ n l answer. bent_other k i d n answer (λ e. omega arith))
        ∙ over_ends chip s (bent k i d) (k + 1) (x.calls - 1) end (omega (arith, x.enough, x.mid.some)) (ap (λ (p : Player). p.stage) stops_there)

    -- the report
    reports : report_of end.player ≡ record { status = L1; steps = x.i; frames = k + 1; pieces = pieces }
    unfolding report_of report_by counted
    reports =
        let n : sent.player.frames ≡ k + 1 =
        sends.frames ∙ rw (lt-ltb j.player.frames most_counted (omega (arith, x.mid.counts, x.mid.some))) (omega (arith, x.sent)) in
        let at : sent.player.step ≡ x.i = sends.step ∙ x.mid.step in
        ap report_of stops_there ∙ rw (n, at)

    -- the finished steps' flash
    sure_here : sure chip s start x.i ≡ x.begun
    unfolding sure meaning_from
    sure_here =
        let z : x.i + 0 ≡ x.i = omega arith in
        ap (λ (e : Ended). e.memory) (rw z at (x.before 0))

    copies_here : (step_at chip s x.i).kind ≡ Write → Copies s (step_at chip s x.i) (sure chip s start x.i) end.state.memory pieces
    copies_here kind = rw (sure_here, state_after_lem chip s (bent k i d) k j) (wrote_here chip s start sized room ok k j x kind).copies

    stopped_at : j ≡ after chip s start k → StoppedAt chip s start k (run (bent k i d) chip s start)
    stopped_at there =
        rw ran_there
        (record {
          complete = refl;
          over = ap (λ (p : Player). p.stage) stops_there;
          status = ap (λ (r : Report). r.status) reports;
          frames = ap (λ (r : Report). r.frames) reports;
          steps = ap (λ (r : Report). r.steps) reports ∙ sym x.mid.step ∙ ap (λ (y : Joined). y.player.step) there;
          inside = rw reports x.mid.there;
          write = rw reports copies_here;
        })

-- THE THEOREM
pub one_bad_byte : OneBadByte
unfolding answer_to
one_bad_byte chip s j new ok w fit k i d place change = go (stands chip s j sized (length j.sums) ok new w fit k)
  where
    sized : Sized chip
    sized = accepted_sized chip s (length j.sums) ok

    go : Stands chip s j k (after chip s j k) → StoppedAt chip s j k (run (bent k i d) chip s j)
    go (inl x) = stopped_at chip s j sized (length j.sums) ok k (after chip s j k) x i d place change refl
    go (inr over) = let z = ap length (over_silent chip s (after chip s j k) over) in absurd (omega arith)

-- FROM A POWER-ON
pub one_bad_byte_from_power_on : OneBadByteFromPowerOn
one_bad_byte_from_power_on chip o m fit s frame reply sums ok = (
  λ bytes w. one_bad_byte chip s (joined_at_start (feed chip (powered o m) bytes).state frame reply sums) refl ok w (feed_kept chip (powered o m) fit bytes),
  λ n.
      let e = opens chip o m (ident_there chip m (some_code chip (chip_known chip s (length sums) ok)) fit) n in
      rw e (one_bad_byte chip s (joined_at_start (rest Command Idle o m) frame reply sums) refl ok (rest_waits chip o m (ifpr_one o n)) fit),
)
