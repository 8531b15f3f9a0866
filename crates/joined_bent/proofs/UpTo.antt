-- The run up to the answer that is bent is the clean one: a clean play frame by frame, and that a line which has altered nothing yet leads there too.
-- Assumes nothing.
use mathlib.Core.Path.{◌≡◌, refl, sym, ap, ◌∙◌}
use mathlib.Core.Bool.{Bool, true, false, false≢true}
use mathlib.Core.List.{List, []}
use mathlib.Core.Logic.{◌⊎◌, inl, inr}
use Prim.Native.Nat.{ℕ, zero, suc, ◌+◌, ◌-◌, ◌<◌, ◌≤◌}
use native.Mathlib.Omega.{arith}
use lib.Dec.{eqb}
use borrow.Author.Tests.{eqb-true, eqb-false, eq-eqb}
use Rattle.rules.specs.declared.Chip.{Chip}
use Rattle.rules.specs.declared.Kind.TheVariants.{Write}
use Rattle.rules.specs.declared.Options.{Options}
use Rattle.rules.specs.declared.Player.{Player}
use Rattle.rules.specs.declared.Stage.TheVariants.{New, Over}
use Rattle.rules.specs.declared.Step.{Step}
use Rattle.rules.specs.Answers.{Accepted}
use Rattle.rules.specs.Chip.{Memory}
use Rattle.rules.specs.Options.{IFPR}
use Rattle.rules.specs.StandIn.{feed}
use Rattle.rules.specs.Sheet.{count, verdict, step_at}
use Rattle.rules.specs.Meaning.{Done, meaning_from}
use Rattle.rules.specs.Player.{Absorbed, started, absorbed, Sent, emitted}
use Rattle.rules.specs.Run.{Line, clean, Joined, joining, all_bytes, taken_in, turned, none, run_from, between_in, between, most_frames, most_from, most_calls, run, waits}
use Rattle.sheet.proofs.Accepted.{sound}
use Rattle.player_laws.proofs.Moves.{absorb_over, emit_over}
use Rattle.joined_laws.specs.Hears.{hears}
use Rattle.joined_laws.specs.Turns.{Sized, Fit, most_counted, AtBeginning, Leaves, step_leaves, StepEnds}
use Rattle.joined_laws.proofs.Turns.{heard_by, turn_as, Mid, Turned, Ends, Goes, mid_frame, turn}
use Rattle.joined_laws.proofs.FramesHeard.{settled_waits}
use Rattle.joined_laws.proofs.Open.{step_leaves_open}
use Rattle.joined_laws.proofs.Steps.{begin}
use Rattle.joined_laws.proofs.Run.{Before, played, begun_as, before_first}
use Rattle.joined_bent.specs.Bent.{after, copied}
use Rattle.joined_bent.proofs.Replies.{pieces_sure}
use Rattle.joined_bent.proofs.Copying.{Copying, Wrote, wrote}

module _ (chip : Chip) (s : List ℕ) where
  -- ---- one turn ----

  -- what the stand-in makes of the next frame, whatever comes through of its answer
  pub state_after_lem : (line : Line) (c : ℕ) (j : Joined) → (turned line chip s c j).state ≡ (hears chip j.state (emitted chip s j.player).bytes).state
  state_after_lem line c j = ap (λ (x : Joined). x.state) (turn_as chip s j line c)

  -- a line that lets this answer through
  turn_through : (line : Line) (c : ℕ) (j : Joined) → ((answer : List ℕ) → line c answer ≡ answer) → turned line chip s c j ≡ turned clean chip s c j
  turn_through line c j same =
      let sent = emitted chip s j.player in
      let h = hears chip j.state sent.bytes in
      turn_as chip s j line c ∙ ap (λ (r : List ℕ). heard_by chip s j (λ n answer. r) c sent h) (same h.answer) ∙ sym (turn_as chip s j clean c)

  -- behind the end of a play nothing is sent and nothing answered
  over_stays : (c : ℕ) (j : Joined) → j.player.stage ≡ Over → (turned clean chip s c j).player.stage ≡ Over
  over_stays c j over =
      ap (λ (x : Joined). x.player.stage) (turn_as chip s j clean c)
      ∙ ap (λ (x : Sent). (absorbed chip s x.player (hears chip j.state x.bytes).answer j.sums).player.stage) (emit_over chip s j.player over)
      ∙ ap (λ (a : Absorbed). a.player.stage) (absorb_over chip s j.player _ j.sums over)
      ∙ over

  pub over_silent : (j : Joined) → j.player.stage ≡ Over → (hears chip j.state (emitted chip s j.player).bytes).answer ≡ []
  unfolding feed all_bytes
  over_silent j over = ap (λ (x : Sent). (hears chip j.state x.bytes).answer) (emit_over chip s j.player over)

-- ---- a clean play, frame by frame ----

-- nothing is altered before answer c
abbrev pub CleanTo : ℕ → Line → Type 0
CleanTo c line = (n : ℕ) → n < c → (answer : List ℕ) → line n answer ≡ answer

module _ (chip : Chip) (s : List ℕ) (start : Joined) where
  -- a run over such a line leads here, with so many calls left
  abbrev Leads : ℕ → ℕ → Joined → Type 0
  Leads c calls j = (line : Line) → CleanTo c line → run line chip s start ≡ run_from line chip s c calls j

  -- the steps before step i left that, after n frames
  abbrev Left : ℕ → ℕ → Options → Memory → List ℕ → Type 0
  Left i n o m sums =
      (more : ℕ) → meaning_from chip s start.state.options start.state.memory 0 0 start.sums (i + more) ≡ meaning_from chip s o m i n sums more

  -- WITHIN A STEP, before frame c: it was begun with those options, that flash and that list
  pub record Inside (c : ℕ) (j : Joined) : Type 0 where
    pub i : ℕ
    pub n : ℕ
    pub turns : ℕ
    pub left : ℕ
    pub calls : ℕ
    pub options : Options
    pub begun : Memory
    pub sums : List ℕ
    pub mid : Mid chip s i n options sums (step_leaves options s (step_at chip s i) begun) turns j
    pub all : i + 1 + left ≡ count s
    pub sent : j.player.frames ≡ c
    pub counts : c + turns + most_from chip s (i + 1) left ≤ most_counted
    pub enough : turns + most_from chip s (i + 1) left < calls
    pub before : Left i n options begun sums
    pub copying : (step_at chip s i).kind ≡ Write → Copying s (step_at chip s i) begun j
    pub leads : Leads c calls j

  -- there, or behind the end
  abbrev pub Stands : ℕ → Joined → Type 0
  Stands c j = Inside c j ⊎ (j.player.stage ≡ Over)

  module _ (sized : Sized chip) (room : ℕ) (ok : verdict chip s room ≡ Accepted) where
    -- a step begins, if there is one
    enter : (left i n c calls : ℕ) (j : Joined) → Before chip s i n left calls j → n ≡ c → Left i n j.state.options j.state.memory j.sums → Leads c calls j
        → Stands c j
    unfolding most_from copied
    enter zero i n c calls j b f before leads = inr (ap (λ (p : Player). p.stage) b.at ∙ rw (eq-eqb i (count s) (omega (arith, b.all))))
    enter (suc left) i n c calls j b f before leads =
        let at : AtBeginning chip s j = (played chip s sized room ok i n left c calls j b).begins in
        let here : j.player.step ≡ i = ap (λ (p : Player). p.step) b.at in
        let there : j.player.frames ≡ n = ap (λ (p : Player). p.frames) b.at in
        inl
        (record {
          i = j.player.step;
          n = j.player.frames;
          turns = most_frames (step_at chip s j.player.step);
          left = left;
          calls = calls;
          options = j.state.options;
          begun = j.state.memory;
          sums = j.sums;
          mid = begin chip sized s room ok j at;
          all = rw here (omega (arith, b.all));
          sent = there ∙ f;
          counts = rw here (omega (arith, b.counts));
          enough = rw here (omega (arith, b.enough));
          before = rw (here, there) before;
          copying =
              λ kind.
              record {
                pages = 0;
                flash = refl;
                none_yet = λ g. refl;
                near = λ g. let z : ◌≡◌ {A = ℕ} 0 1 = cc at.stage in absurd (omega arith);
              };
          leads = leads;
        })

    -- a frame more
    module _ (c : ℕ) (j : Joined) (x : Inside c j) where
      abbrev i : ℕ
      i = x.i

      abbrev t : Step
      t = step_at chip s i

      abbrev e : Leaves
      e = step_leaves x.options s t x.begun

      abbrev d : Done
      d = e.done

      abbrev next : Joined
      next = turned clean chip s c j

      pub speaks : none (emitted chip s j.player).bytes ≡ false
      speaks = ap none (mid_frame chip s i x.n x.options x.sums e room ok x.turns j x.mid).bytes

      -- the turn of any line
      pub leads_by : (line : Line) → CleanTo c line → run line chip s start ≡ run_from line chip s (c + 1) (x.calls - 1) (turned line chip s c j)
      unfolding run_from
      leads_by line h =
          let z : x.calls ≡ suc (x.calls - 1) = omega (arith, x.enough) in
          x.leads line h ∙ ap (λ (calls : ℕ). run_from line chip s c calls j) z ∙ rw speaks

      leads_on : Leads (c + 1) (x.calls - 1) next
      leads_on line h =
          leads_by line (λ n l. h n (omega arith))
          ∙ ap (run_from line chip s (c + 1) (x.calls - 1)) (turn_through chip s line c j (h c (omega arith)))

      pub wrote_here : t.kind ≡ Write
          → let sent = (emitted chip s j.player).player in
          Wrote s t x.begun (hears chip j.state (emitted chip s j.player).bytes).state (pieces_sure sent.stage sent.at)
      wrote_here kind =
          wrote chip sized s i x.n x.options x.sums e room ok x.turns j x.mid x.begun kind (x.copying kind)

      -- the step goes on
      goes : between next.player ≡ false → next.player.frames ≡ j.player.frames + 1 → (more : ℕ) → x.turns ≡ suc more
          → Mid chip s i x.n x.options x.sums e more next → Inside (c + 1) next
      unfolding between between_in
      goes b f more z mid =
          record {
            i = i;
            n = x.n;
            turns = more;
            left = x.left;
            calls = x.calls - 1;
            options = x.options;
            begun = x.begun;
            sums = x.sums;
            mid = mid;
            all = x.all;
            sent = omega (arith, f, x.sent);
            counts = omega (arith, z, x.counts);
            enough = omega (arith, z, x.enough);
            before = x.before;
            copying =
                λ kind.
                let w = wrote_here kind in
                let q = state_after_lem chip s clean c j in
                record {
                  pages = w.copies.pages;
                  flash = rw q w.copies.flash;
                  none_yet = λ g. absurd (false≢true (sym b ∙ ap between_in g));
                  near = λ g. rw q w.near;
                };
            leads = leads_on;
          }

      -- a lock that clears IFPR stands last: where another step is behind this one, the stand-in waits again
      waits_on : StepEnds chip s i x.n x.sums e next → 0 < x.left → waits chip next.state ≡ true
      waits_on w more =
          settled_waits chip next.state w.left.settled
          (ap IFPR w.left.options
          ∙ step_leaves_open t x.options x.mid.ifpr (λ k c. omega (arith, (sound chip s room ok i x.mid.there).ends k c, x.all)))

      -- the step ends, and the next one begins if it went well
      ends : next.player.frames ≡ j.player.frames + 1 → StepEnds chip s i x.n x.sums e next → Stands (c + 1) next
      unfolding meaning_from
      ends f w = go (eqb d.status 0x06) refl
        where
          go : (b : Bool) → eqb d.status 0x06 ≡ b → Stands (c + 1) next
          go true h =
              let st = eqb-true d.status 0x06 h in
              enter x.left (i + 1) (x.n + d.frames) (c + 1) (x.calls - 1) next
              (record {
                at = (w.went st).0;
                all = x.all;
                counts = omega (arith, f, w.frames, x.sent, x.counts, x.mid.some);
                enough = omega (arith, x.enough, x.mid.some);
                settled = w.left.settled;
                waiting = waits_on w;
                fit = w.left.fit;
              })
              (omega (arith, f, w.frames, x.sent))
              (λ more.
              let z : i + 1 + more ≡ i + suc more = omega arith in
              rw (z, w.left.options, w.left.memory, (w.went st).1) (x.before (suc more) ∙ rw h))
              leads_on
          go false h = inr (w.halted (eqb-false d.status 0x06 h)).1

      turn_on : Stands (c + 1) next
      turn_on = go (turn chip s i x.n x.options x.sums e room ok x.turns j x.mid sized c)
        where
          go : Turned chip s i x.n x.options x.sums e x.turns j next → Stands (c + 1) next
          go (Ends b f w) = ends f w
          go (Goes b f more z mid) = inl (goes b f more z mid)

    -- before the first frame
    first : start.player.stage ≡ New → waits chip start.state ≡ true → Fit chip start.state.memory → Stands 0 (taken_in chip s start)
    unfolding run
    first new w fit =
        let begins = joining (started s) start.state start.sums start.frame start.reply start.arrived in
        let so = begun_as chip s start new in
        rw so
        (enter (count s) 0 0 0 (most_calls chip s) begins (before_first chip s begins sized room ok refl w fit) refl
        (λ more. ap (meaning_from chip s start.state.options start.state.memory 0 0 start.sums) (omega arith))
        (λ line h. ap (run_from line chip s 0 (most_calls chip s)) so))

    -- BEFORE FRAME n of a clean play
    pub stands : start.player.stage ≡ New → waits chip start.state ≡ true → Fit chip start.state.memory → (n : ℕ) → Stands n (after chip s start n)
    unfolding after
    stands new w fit zero = first new w fit
    stands new w fit (suc n) = go (stands new w fit n)
      where
        z : n + 1 ≡ suc n
        z = omega arith

        go : Stands n (after chip s start n) → Stands (suc n) (turned clean chip s n (after chip s start n))
        go (inl x) = rw z at (turn_on n (after chip s start n) x)
        go (inr over) = inr (over_stays chip s n (after chip s start n) over)
