-- A whole run, of any accepted sheet with any stand-in that waits for a command, comes to the meaning. Assumes nothing.
use mathlib.Core.Path.{◌≡◌, refl, sym, ap, subst, ◌∙◌}
use mathlib.Core.Bool.{Bool, true, false}
use mathlib.Core.List.{List}
use mathlib.Core.Logic.{◌⊎◌, inl, inr}
use Prim.Native.Nat.{ℕ, zero, suc, ◌+◌, ◌-◌, ◌<◌, ◌≤◌}
use native.Mathlib.Omega.{arith}
use lib.Dec.{eqb}
use lib.ListN.{length}
use borrow.Author.Tests.{eqb-true, eqb-false, eq-eqb, ne_eqb}
use Rattle.rules.specs.declared.Chip.{Chip}
use Rattle.rules.specs.declared.Flash.{Flash}
use Rattle.rules.specs.declared.Flash.TheVariants.{Code, Data}
use Rattle.rules.specs.declared.Player.{Player}
use Rattle.rules.specs.declared.Report.{Report}
use Rattle.rules.specs.declared.Stage.TheVariants.{New, Over}
use Rattle.rules.specs.Answers.{Accepted}
use Rattle.rules.specs.Chip.{small, large, known, start, blocks, flash_size}
use Rattle.rules.specs.Options.{IFPR}
use Rattle.rules.specs.Sheet.{count, verdict, step_at}
use Rattle.rules.specs.Meaning.{Done, Ended, ended, step_meaning, meaning_from, meaning}
use Rattle.rules.specs.Player.{player, well, Absorbed, beginning, started, Sent, report_of, report_by}
use Rattle.rules.specs.Run.{Line, clean, Joined, joining, taken_in, Ran, ran, none, run_from, most_from, most_calls, run, step_run, waits}
use Rattle.rules.proofs.Sheet.{chip_known}
use Rattle.chip_finder.proofs.Known.{known_chip}
use Rattle.sheet.proofs.Accepted.{whole, sound}
use Rattle.player_laws.proofs.Moves.{absorb_new, emit_over}
use Rattle.joined_laws.specs.Turns.{Sized, Fit, Settled, most_counted, AtBeginning, Leaves, step_leaves, StepEnds, StepRuns, end_of, Comes, Means}
use Rattle.joined_laws.proofs.FramesHeard.{waiting_open, settled_waits, waits_settled}
use Rattle.joined_laws.proofs.Open.{step_leaves_open}
use Rattle.joined_laws.proofs.Sizes.{few_from}
use Rattle.joined_laws.proofs.Steps.{step_ends}

-- the same end of the same run
comes_as : {chip : Chip} {a b : Ended} {q r : Ran} → a ≡ b → q ≡ r → Comes chip a q → Comes chip b r
comes_as e f c = rw (← e, ← f) c

module _ (chip : Chip) (s : List ℕ) where
  -- ---- the run ends where the player does, over any line ----

  pub over_ends : (line : Line) (c calls : ℕ) (j : Joined) → 0 < calls → j.player.stage ≡ Over → run_from line chip s c calls j ≡ ran true j
  unfolding run_from
  over_ends line c zero j h over = absurd (omega arith)
  over_ends line c (suc calls) j h over = rw (ap (λ (x : Sent). none x.bytes) (emit_over chip s j.player over))

  over_comes : (c calls : ℕ) (j : Joined) (e : Ended) → 0 < calls → j.player.stage ≡ Over → Settled chip j.state → end_of j ≡ e
      → Comes chip e (run_from clean chip s c calls j)
  over_comes c calls j e h over settled there =
      comes_as there (sym (over_ends clean c calls j h over)) (record { complete = refl; end = refl; over = over; settled = settled })

  -- ---- step after step ----

  -- a player that has finished i steps with n frames
  abbrev pub starts : ℕ → ℕ → Player
  starts i n = player (beginning i (count s)) i 0 n 0 well

  -- it is about to begin the next of those left, with calls enough for all of them and for the end
  pub record Before (i n left calls : ℕ) (j : Joined) : Type 0 where
    pub at : j.player ≡ starts i n
    pub all : i + left ≡ count s
    pub counts : n + most_from chip s i left ≤ most_counted
    pub enough : most_from chip s i left < calls
    pub settled : Settled chip j.state
    pub waiting : 0 < left → waits chip j.state ≡ true
    pub fit : Fit chip j.state.memory

  -- what that step comes to
  abbrev pub done_at : ℕ → Joined → Done
  done_at i j = step_meaning j.state.options s (step_at chip s i) j.state.memory

  abbrev pub leaves_at : ℕ → Joined → Leaves
  leaves_at i j = step_leaves j.state.options s (step_at chip s i) j.state.memory

  -- that step was played: how it ended, and where the run stands behind it
  pub record Played (i n left c calls : ℕ) (j : Joined) : Type 0 where
    pub begins : AtBeginning chip s j
    pub end : Joined
    pub ran : step_run clean chip s c j ≡ ran true end
    pub ends : StepEnds chip s i n j.sums (leaves_at i j) end
    pub some : 0 < calls - (done_at i j).frames
    pub goes_on : run_from clean chip s c calls j ≡ run_from clean chip s (c + (done_at i j).frames) (calls - (done_at i j).frames) end
    pub stands : (((done_at i j).status ≡ 0x06 → ⊥) × (end.player.stage ≡ Over))
        ⊎ (((done_at i j).status ≡ 0x06) × Before (i + 1) (n + (done_at i j).frames) left (calls - (done_at i j).frames) end)

  -- what the run then comes to
  abbrev Meant : ℕ → ℕ → ℕ → ℕ → ℕ → Joined → Type 0
  Meant i n left c calls j = Comes chip (meaning_from chip s j.state.options j.state.memory i n j.sums left) (run_from clean chip s c calls j)

  -- no step is left
  none_left : (i n c calls : ℕ) (j : Joined) → Before i n 0 calls j → Meant i n 0 c calls j
  unfolding meaning_from most_from report_of report_by
  none_left i n c calls j b =
      let over : starts i n ≡ player Over i 0 n 0 well = rw (eq-eqb i (count s) (omega (arith, b.all))) in
      let at = b.at ∙ over in
      over_comes c calls j _ b.enough (ap (λ (p : Player). p.stage) at) b.settled
      (ap (λ (r : Report). record { memory = j.state.memory; options = j.state.options; report = r; sums = j.sums }) (ap report_of at))

  -- a step, and those behind it
  module _ (sized : Sized chip) (room : ℕ) (ok : verdict chip s room ≡ Accepted) (i n left c calls : ℕ) (j : Joined) (b : Before i n (suc left) calls j) where
    abbrev d : Done
    d = done_at i j

    abbrev e : Leaves
    e = leaves_at i j

    -- the player's record, written out
    abbrev there : Joined
    there = joining (starts i n) j.state j.sums j.frame j.reply j.arrived

    there_is : j ≡ there
    there_is = ap (λ (p : Player). joining p j.state j.sums j.frame j.reply j.arrived) b.at

    begins : AtBeginning chip s there
    unfolding most_from
    begins =
        record {
          stage = rw (ne_eqb i (count s) (omega (arith, b.all)));
          there = omega (arith, b.all);
          counts = omega (arith, b.counts);
          waiting = b.waiting (omega arith);
          fit = b.fit;
        }

    now : StepRuns chip s e c there
    now = step_ends chip sized s room ok c there begins

    abbrev end : Joined
    end = now.end

    abbrev ends : StepEnds chip s i n j.sums e end
    ends = now.ends

    -- the calls that are left
    abbrev after : ℕ
    after = calls - d.frames

    enough_after : most_from chip s (i + 1) left < after
    unfolding most_from
    enough_after = omega (arith, now.most, b.enough)

    goes_on_lem : run_from clean chip s c calls j ≡ run_from clean chip s (c + d.frames) after end
    goes_on_lem =
        ap (run_from clean chip s c calls) there_is ∙ ap (λ (x : ℕ). run_from clean chip s c x there) (omega (arith, enough_after)) ∙ now.within after

    -- a lock that clears IFPR stands last, so a step that has others behind it leaves it 1
    still_open : 0 < left → IFPR e.options ≡ 1
    still_open more =
        step_leaves_open (step_at chip s i) j.state.options (waiting_open chip j.state (b.waiting (omega arith)))
        (λ k c. omega (arith, (sound chip s room ok i (omega (arith, b.all))).ends k c, b.all))

    next : d.status ≡ 0x06 → Before (i + 1) (n + d.frames) left after end
    unfolding most_from
    next st =
        record {
          at = (ends.went st).0;
          all = omega (arith, b.all);
          counts = omega (arith, now.most, b.counts);
          enough = enough_after;
          settled = ends.left.settled;
          waiting = λ more. settled_waits chip end.state ends.left.settled (ap IFPR ends.left.options ∙ still_open more);
          fit = ends.left.fit;
        }

    pub played : Played i n left c calls j
    played =
        record {
          begins = subst (AtBeginning chip s) (sym there_is) begins;
          end = end;
          ran = ap (step_run clean chip s c) there_is ∙ now.ran;
          ends = ends;
          some = omega (arith, enough_after);
          goes_on = goes_on_lem;
          stands = go (eqb d.status 0x06) refl;
        }
      where
        go : (t : Bool) → eqb d.status 0x06 ≡ t
            → ((d.status ≡ 0x06 → ⊥) × (end.player.stage ≡ Over)) ⊎ ((d.status ≡ 0x06) × Before (i + 1) (n + d.frames) left after end)
        go true h = inr (eqb-true d.status 0x06 h, next (eqb-true d.status 0x06 h))
        go false h = inl (eqb-false d.status 0x06 h, (ends.halted (eqb-false d.status 0x06 h)).1)

    step_on : (d.status ≡ 0x06 → Meant (i + 1) (n + d.frames) left (c + d.frames) after end) → Meant i n (suc left) c calls j
    unfolding meaning_from
    step_on later = go (eqb d.status 0x06) refl
      where
        go : (t : Bool) → eqb d.status 0x06 ≡ t → Meant i n (suc left) c calls j
        go true h =
            let st = eqb-true d.status 0x06 h in
            comes_as (rw (h, ends.left.options, ends.left.memory, (ends.went st).1)) (sym goes_on_lem) (later st)
        go false h =
            let w = ends.halted (eqb-false d.status 0x06 h) in
            comes_as (rw h) (sym goes_on_lem)
            (over_comes (c + d.frames) after end (ended d.memory e.options d.status i (n + d.frames) d.pieces j.sums)
            (omega (arith, enough_after)) w.1 ends.left.settled
            (rw (ends.left.memory, ends.left.options, w.2, w.0)))

  steps_run : Sized chip → (room : ℕ) → verdict chip s room ≡ Accepted → (left i n c calls : ℕ) (j : Joined) → Before i n left calls j
      → Meant i n left c calls j
  steps_run sized room ok zero i n c calls j b = none_left i n c calls j b
  steps_run sized room ok (suc left) i n c calls j b =
      step_on sized room ok i n left c calls j b
      (λ st. steps_run sized room ok left (i + 1) _ _ _ (end sized room ok i n left c calls j b) (next sized room ok i n left c calls j b st))

-- ---- the whole sheet ----

module _ (chip : Chip) (s : List ℕ) (j : Joined) where
  -- the first call reads no reply
  pub begun_as : j.player.stage ≡ New → taken_in chip s j ≡ joining (started s) j.state j.sums j.frame j.reply j.arrived
  unfolding taken_in
  begun_as new =
      ap (λ (a : Absorbed). joining a.player j.state a.sums j.frame j.reply j.arrived) (absorb_new chip s j.player j.arrived j.sums new)

  pub before_first : Sized chip → (room : ℕ) → verdict chip s room ≡ Accepted → j.player ≡ started s → waits chip j.state ≡ true
      → Fit chip j.state.memory → Before chip s 0 0 (count s) (most_calls chip s) j
  before_first sized room ok at w fit =
      let few = few_from chip sized s room ok (count s) 0 (omega arith) in
      let short = (whole chip s room ok).steps in
      record { at = at; all = omega arith; counts = omega arith; enough = omega arith; settled = waits_settled chip j.state w; waiting = λ _. w; fit = fit }

-- THE THEOREM: the clean run of a new player and a stand-in that waits for a command comes to the meaning of the sheet
pub run_means : (chip : Chip) → Sized chip → (s : List ℕ) (j : Joined) → j.player.stage ≡ New → verdict chip s (length j.sums) ≡ Accepted
    → waits chip j.state ≡ true → Fit chip j.state.memory → Means chip s j (run clean chip s j)
unfolding run meaning
run_means chip sized s j new ok w fit =
    let room = length j.sums in
    let start = joining (started s) j.state j.sums j.frame j.reply j.arrived in
    let calls = most_calls chip s in
    comes_as refl (ap (run_from clean chip s 0 calls) (sym (begun_as chip s j new)))
    (steps_run chip s sized room ok (count s) 0 0 0 calls start (before_first chip s start sized room ok refl w fit))

-- ---- the known chips ----

-- a known chip's flashes lie apart, and three bytes hold every address
pub known_sized : (chip : Chip) → known chip ≡ true → Sized chip
known_sized chip k = go (known_chip chip k)
  where
    few : (c : Chip) → c.code ≤ 64 → c.«data» ≤ 32 → (f : Flash) → start f + flash_size c f ≤ 0x1000000
    few c h g Code = omega arith
    few c h g Data = omega arith

    sized : (c : Chip) → c.code ≤ 64 → c.«data» ≤ 32 → Sized c
    sized c h g = record { apart = omega arith; few = few c h g }

    go : (chip ≡ small) ⊎ (chip ≡ large) → Sized chip
    go (inl e) = rw e (sized small (omega arith) (omega arith))
    go (inr e) = rw e (sized large (omega arith) (omega arith))

-- it has code flash
pub some_code : (chip : Chip) → known chip ≡ true → 0 < blocks chip Code
some_code chip k = go (known_chip chip k)
  where
    go : (chip ≡ small) ⊎ (chip ≡ large) → 0 < chip.code
    go (inl e) = rw e (omega arith)
    go (inr e) = rw e (omega arith)

-- an accepted sheet is one for a known chip
pub accepted_sized : (chip : Chip) (s : List ℕ) (room : ℕ) → verdict chip s room ≡ Accepted → Sized chip
accepted_sized chip s room ok = known_sized chip (chip_known chip s room ok)

-- DEMAND 3: for every known chip, with sheets judged against it
pub known_run : (chip : Chip) (s : List ℕ) (j : Joined) → j.player.stage ≡ New → verdict chip s (length j.sums) ≡ Accepted
    → waits chip j.state ≡ true → Fit chip j.state.memory → Means chip s j (run clean chip s j)
known_run chip s j new ok = run_means chip (accepted_sized chip s (length j.sums) ok) s j new ok
