-- DEMAND 3 from a power-on, in the code: the results of a power-on, of the opening or any feeding, and of a play, each known by what its call
-- promises, come to the meaning. Assumes nothing.
use mathlib.Core.Path.{◌≡◌, refl, sym, ap, ◌∙◌}
use mathlib.Core.Bool.{true}
use mathlib.Core.List.{List, [], ◌∷◌, ◌++◌}
use Prim.Native.Nat.{ℕ, ◌+◌, ◌≤◌}
use lib.ListN.{length, take, drop}
use borrow.Author.Tests.{eq-eqb}
use Rattle.rules.specs.declared.Chip.{Chip}
use Rattle.rules.specs.declared.Flash.TheVariants.{Code, Data}
use Rattle.rules.specs.declared.Options.{Options}
use Rattle.rules.specs.declared.Phase.TheVariants.{Command}
use Rattle.rules.specs.declared.Task.TheVariants.{Idle}
use Rattle.rules.specs.Answers.{Call, Refused, Answer, Verdict}
use Rattle.rules.specs.Answers as v
use Rattle.rules.specs.Chip.{Memory, known, flash_of, ident_of}
use Rattle.rules.specs.Options.{IFPR}
use Rattle.rules.specs.Numbers.{call_number}
use Rattle.rules.specs.StandIn.{State, Outcome, Powered, rest, step, flash_verdict, lent_verdict, byte_by, byte_call, feed, powered, power_on}
use Rattle.rules.specs.Sheet.{verdict}
use Rattle.rules.specs.Player.{new_player}
use Rattle.rules.specs.Meaning.{meaning, step_frames}
use Rattle.rules.specs.Run.{Joined, joined_at_start, waits, settled}
use Rattle.rules.proofs.Sheet.{chip_known}
use Rattle.chip_finder.specs.LentFlashes.{memory}
use Rattle.standin_state.proofs.Lending.{flashes_fit, all_lent}
use Rattle.standin_engine.specs.View.{view}
use Rattle.standin_engine.proofs.Stays.{letter}
use Rattle.standin.specs.declared.call.Device.{Device}
use Rattle.standin.specs.declared.call.PoweredOn.{PoweredOn}
use Rattle.standin.specs.declared.feeding.Fed.{Fed}
use Rattle.standin.specs.Shows.{shows, powered_as}
use Rattle.standin.specs.Feeding.{Feeding, feeding, fed_as, goes_on, feed_from, fed_into}
use Rattle.standin.specs.Opening.{opening_bytes, opening_room, opening_verdict, opened}
use Rattle.standin.proofs.Powers.{power_well}
use Rattle.standin.proofs.Opens.{roomy, opening_fed}
use Rattle.player_laws.proofs.PlaceInSheet.{stands_new, call_allowed}
use Rattle.joined_laws.specs.Turns.{Fit, end_of}
use Rattle.joined_laws.proofs.FramesHeard.{rest_waits}
use Rattle.joined_laws.proofs.Open.{ifpr_one}
use Rattle.joined_laws.proofs.LengthsKept.{feed_kept}
use Rattle.joined_laws.proofs.Opened.{ident_there, opens}
use Rattle.joined_laws.proofs.Run.{some_code, known_run}
use Rattle.joined_checks.specs.Checks.{joined_verdict}
use Rattle.joined.specs.Rigs.{rigged}
use Rattle.joined.specs.Answers as answers
use Rattle.joined.specs.declared.Played.{Played}
use Rattle.joined.specs.Plays.{SheetOutcome, sheet_outcome, lengths, sheet_played}
use Rattle.joined.specs.CameTo.{CameTo}
use Rattle.joined.proofs.Calls.{sheet_played_lem}

-- ---- a feeding that is not refused ----

-- an answer without a letter is no refusal
record Answers (call : Call) : Type 0 where
  size : ℕ
  is : call ≡ Answer size

told : (call : Call) → (call_number call).letter ≡ 0 → Answers call
told (Answer k) e = record { size = k; is = refl }
told (Refused n) e = absurd (letter n e)

-- a byte's call, and the feeding behind it
abbrev onward : Chip → List ℕ → ℕ → ℕ → List ℕ → Outcome → Feeding
onward chip out w n bs o =
    goes_on o.call (feeding o.state o.call n (take w out ++ o.reply)) (λ k. feed_from chip o.state (take w out ++ o.reply) (w + k) (n + 1) bs)

-- it leads where its bytes lead
fed_state : (chip : Chip) (s : State) (out : List ℕ) (w n : ℕ) (bytes : List ℕ) (k : ℕ)
    → (feed_from chip s out w n bytes).call ≡ Answer k
    → (feed_from chip s out w n bytes).state ≡ (feed chip s bytes).state
unfolding feed_from feed byte_call byte_by
fed_state chip s out w n [] k e = refl
fed_state chip s out w n (b ∷ bs) k e =
    go (lent_verdict chip (length s.memory.code) (length s.memory.«data») (length (drop w out))) (λ next v i h. fed_state chip (step chip s b).state next v i bs k h) e
  where
    go : (x : Verdict)
        → ((next : List ℕ) (v i : ℕ) → (feed_from chip (step chip s b).state next v i bs).call ≡ Answer k → (feed_from chip (step chip s b).state next v i bs).state ≡ (feed chip (step chip s b).state bs).state)
        → (onward chip out w n bs (byte_by x chip s (drop w out) b)).call ≡ Answer k
        → (onward chip out w n bs (byte_by x chip s (drop w out) b)).state ≡ (feed chip (step chip s b).state bs).state
    go v.Accepted later h = later _ _ _ h
    go (v.Refused r) later h = absurd (letter r (ap (λ (x : Call). (call_number x).letter) h))

-- ---- from a power-on: what the call made of the record ----

module _ (chip : Chip) where
  -- the flashes are the chip's
  flashes : known chip ≡ true → (code dat : List ℕ) → Fit chip (memory code dat) → flash_verdict chip (length code) (length dat) ≡ v.Accepted
  flashes counts code dat fit = sym (flashes_fit chip (length code) (length dat) counts (eq-eqb _ _ (fit Code)) (eq-eqb _ _ (fit Data)))

  module _ (counts : known chip ≡ true) (d : Device) (same : d.chip ≡ chip) (o : Options) (code dat : List ℕ) (fit : Fit chip (memory code dat)) (a : PoweredOn)
      (on : powered_as a (memory code dat) ≡ power_on d.chip (shows d (memory code dat)) o (memory code dat))
      (f : Fed) (held code1 dat1 out1 : List ℕ) where
    abbrev m : Memory
    m = memory code dat

    abbrev pub there : State
    there = view f.core held (memory code1 dat1)

    powered_so : shows a.device m ≡ powered o m
    powered_so =
        ap (λ (p : Powered). p.state)
        (on ∙ ap (λ (c : Chip). power_on c (shows d m) o m) same ∙ sym (power_well chip (shows d m) o m (flashes counts code dat fit)))

    -- any bytes fed to it, none refused
    pub power_on_feeds : (out bytes : List ℕ) → fed_as f held (memory code1 dat1) out1 ≡ fed_into chip (shows a.device m) out bytes
        → (call_number f.call).letter ≡ 0
        → there ≡ (feed chip (powered o m) bytes).state
    power_on_feeds out bytes fed well =
        let k = told f.call well in
        let e = fed ∙ ap (λ (st : State). fed_into chip st out bytes) powered_so in
        ap (λ (x : Feeding). x.state) e ∙ fed_state chip (powered o m) out 0 0 bytes k.size (ap (λ (x : Feeding). x.call) (sym e) ∙ k.is)

    -- the opening with the flash's own ID, where IFPR is 1, with room for its answers: the stand-in waits for a command
    pub power_on_opens : (IFPR o ≡ 0 → ⊥) → (out : List ℕ) → opening_room ≤ length out
        → fed_as f held (memory code1 dat1) out1 ≡ opened chip (shows a.device m) out (ident_of m)
        → (opening_verdict chip (length code) (length dat) (length out) ≡ v.Accepted → (call_number f.call).letter ≡ 0)
        → there ≡ rest Command Idle o m
    power_on_opens n out roomed fed well =
        let id = ident_of m in
        let bytes = opening_bytes o id in
        let accepted = sym (roomy chip (length code) (length dat) (length out) (flashes counts code dat fit) roomed) in
        let k = told f.call (well accepted) in
        let e = fed ∙ ap (λ (st : State). opened chip st out id) powered_so ∙ sym (opening_fed chip (powered o m) out id accepted) in
        ap (λ (x : Feeding). x.state) e
        ∙ fed_state chip (powered o m) out 0 0 bytes k.size (ap (λ (x : Feeding). x.call) (sym e) ∙ k.is)
        ∙ opens chip o m (ident_there chip m (some_code chip counts) fit) n

-- ---- a play ----

module _ (chip : Chip) (s frame reply sums each : List ℕ)
    (ok : verdict chip s (length sums) ≡ v.Accepted) (room : 260 ≤ length frame) (replies : 16 ≤ length reply) where
  nothing_refused : (st : State) → Fit chip st.memory → joined_verdict chip s new_player (lengths (joined_at_start st frame reply sums)) ≡ v.Accepted
  unfolding joined_verdict
  nothing_refused st fit =
      let lent = all_lent chip (length st.memory.code) (length st.memory.«data») (length reply) (flashes chip (chip_known chip s (length sums) ok) st.memory.code st.memory.«data» fit) replies in
      rw (call_allowed chip s new_player (length frame) (length sums) ok room (stands_new chip s new_player refl), ← lent)

  -- with a stand-in that waits
  pub comes : (st : State) → Fit chip st.memory → waits chip st ≡ true → (a : answers.Answer) (j : Joined) (list : List ℕ)
      → sheet_outcome a j list ≡ sheet_played chip s (joined_at_start st frame reply sums) each
      → CameTo chip (meaning chip s st.options st.memory sums) (step_frames chip s st.options st.memory each) a j list
  comes st fit w a j list e =
      let start = joined_at_start st frame reply sums in
      let p = e ∙ sheet_played_lem chip s start each (nothing_refused st fit) w in
      let r = known_run chip s start refl ok w fit in
      record {
        played = ap (λ (x : SheetOutcome). x.answer) p;
        end = ap (λ (x : SheetOutcome). end_of x.reached) p ∙ r.end;
        frames = ap (λ (x : SheetOutcome). x.each) p;
        over = ap (λ (x : SheetOutcome). x.reached.player.stage) p ∙ r.over;
        settled = ap (λ (x : SheetOutcome). settled chip x.reached.state) p ∙ r.settled;
      }

  -- ---- from a power-on ----

  module _ (d : Device) (same : d.chip ≡ chip) (o : Options) (code dat : List ℕ) (fit : Fit chip (memory code dat)) (a : PoweredOn)
      (on : powered_as a (memory code dat) ≡ power_on d.chip (shows d (memory code dat)) o (memory code dat))
      (f : Fed) (held code1 dat1 out1 : List ℕ) (q : Played) (held2 code2 dat2 reply2 frame2 sums2 each2 : List ℕ) where
    abbrev now : State
    now = view f.core held (memory code1 dat1)

    abbrev end : Joined
    end = rigged q.rig held2 code2 dat2 reply2 frame2 sums2

    -- ANY BYTES fed to it, none refused, after which the stand-in waits; and a play
    pub power_on_feed_play : (out bytes : List ℕ)
        → fed_as f held (memory code1 dat1) out1 ≡ fed_into chip (shows a.device (memory code dat)) out bytes
        → (call_number f.call).letter ≡ 0
        → waits chip now ≡ true
        → sheet_outcome q.answer end each2 ≡ sheet_played chip s (rigged (record { player = new_player; core = f.core; arrived = 0 }) held code1 dat1 reply frame sums) each
        → CameTo chip (meaning chip s f.core.options (memory code1 dat1) sums) (step_frames chip s f.core.options (memory code1 dat1) each) q.answer end each2
    power_on_feed_play out bytes fed well w play =
        let led = power_on_feeds chip (chip_known chip s (length sums) ok) d same o code dat fit a on f held code1 dat1 out1 out bytes fed well in
        let kept : Fit chip (memory code1 dat1) = λ g. ap (λ (st : State). length (flash_of st.memory g)) led ∙ feed_kept chip (powered o (memory code dat)) fit bytes g in
        comes now kept w q.answer end each2 play

    -- THE OPENING with the flash's own ID, where IFPR is 1, with room for its answers; and a play
    pub power_on_open_play : (IFPR o ≡ 0 → ⊥) → (out : List ℕ) → opening_room ≤ length out
        → fed_as f held (memory code1 dat1) out1 ≡ opened chip (shows a.device (memory code dat)) out (ident_of (memory code dat))
        → (opening_verdict chip (length code) (length dat) (length out) ≡ v.Accepted → (call_number f.call).letter ≡ 0)
        → sheet_outcome q.answer end each2 ≡ sheet_played chip s (rigged (record { player = new_player; core = f.core; arrived = 0 }) held code1 dat1 reply frame sums) each
        → CameTo chip (meaning chip s o (memory code dat) sums) (step_frames chip s o (memory code dat) each) q.answer end each2
    power_on_open_play n out roomed fed well play =
        let led = power_on_opens chip (chip_known chip s (length sums) ok) d same o code dat fit a on f held code1 dat1 out1 n out roomed fed well in
        let m = memory code dat in
        comes (rest Command Idle o m) fit (rest_waits chip o m (ifpr_one o n)) q.answer end each2 (play ∙ ap (λ (st : State). sheet_played chip s (joined_at_start st frame reply sums) each) led)
