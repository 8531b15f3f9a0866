-- One player call, whatever the reply: it leaves one call less, and stands higher or is over. Assumes nothing.
use mathlib.Core.Path.{◌≡◌, refl, ap, ◌∙◌}
use mathlib.Core.Bool.{Bool, true, false, cond}
use mathlib.Core.List.{List}
use mathlib.Core.Logic.{◌⊎◌, inl, inr}
use Prim.Native.Nat.{ℕ, suc, ◌+◌, ◌*◌, ◌-◌, ◌<◌, ◌≤◌}
use native.Mathlib.Nat.{mul-le-mul_right}
use native.Mathlib.Omega.{arith}
use lib.Dec.{eqb}
use lib.ListN.{length}
use borrow.Author.Tests.{eqb-true, eqb-false, lt-ltb}
use Rattle.rules.specs.declared.Chip.{Chip}
use Rattle.rules.specs.declared.Flash.{Flash}
use Rattle.rules.specs.declared.Flash.TheVariants.{Code, Data}
use Rattle.rules.specs.declared.Kind.{Kind}
use Rattle.rules.specs.declared.Kind.TheVariants.{Erase, Write, Verify, Sum, Blank, Lock}
use Rattle.rules.specs.declared.Player.{Player}
use Rattle.rules.specs.declared.Stage.{Stage}
use Rattle.rules.specs.declared.Stage.TheVariants.{New, Ready, Block, Commanded, Page, Paged, Over}
use Rattle.rules.specs.declared.Status.{Status}
use Rattle.rules.specs.declared.Step.{Step}
use Rattle.rules.specs.Answers.{Accepted}
use Rattle.rules.specs.Chip.{pages_per_block, blocks}
use Rattle.rules.specs.Sheet.{most_steps, count, step_at, step_blocks, step_pages, verdict}
use Rattle.rules.specs.Player.{player, well, is_well, command_reply, lock_reply, sum_reply, data_reply, beginning, finished, took_once, absorb_command, absorbed, counted, emitted, command_in, lost, player_verdict, played, called, Sent, silent, emit_by}
use Rattle.rules.specs.Run.{most_for, most_frames, most_from, most_calls}
use Rattle.sheet.proofs.Accepted.{sound, whole}
use Rattle.player_laws.specs.Calls.{frames_behind, left_by, later, calls_left, most_pages, rank_from, blocks_before, rank_by, rank, most_rank}
use Rattle.player_laws.proofs.Moves.{absorb_new, absorb_ready, absorb_block, absorb_ahead, absorb_over, absorb_opened, absorb_opened_stop, absorb_once, absorb_once_stop, absorb_erase_on, absorb_erase_last, absorb_erase_stop, absorb_page_on, absorb_page_last, absorb_page_stop, emit_over, emit_first, emit_block, emit_page, call_played}
use Rattle.player_laws.proofs.Replies.{is_well_lem}
use Rattle.player_laws.proofs.PlaceInSheet.{Paging, first_in_lem, ready_stands, block_stands, commanded_stands, erased_stands, page_stands, paged_stands, stands_ready, stands_block, stands_commanded, stands_page, stands_paged, stands_over, allowed_call}

-- ---- calls left and rank, by the stage ----

module _ (chip : Chip) (s : List ℕ) (p : Player) {g : Stage} (e : p.stage ≡ g) where
  pub left_is : calls_left chip s p ≡ left_by g (step_at chip s p.step) p.at (later chip s p) (most_calls chip s)
  unfolding calls_left
  left_is = ap (λ (x : Stage). left_by x (step_at chip s p.step) p.at (later chip s p) (most_calls chip s)) e

rank_is : (chip : Chip) (p : Player) {g : Stage} → p.stage ≡ g → rank chip p ≡ rank_by g (rank_from chip p.step) p.at
unfolding rank
rank_is chip p e = ap (λ (x : Stage). rank_by x (rank_from chip p.step) p.at) e

-- the first frame of a step is one of its most, and stands at its beginning
first_frame : (k : Kind) (t : Step) → 0 < step_blocks t → (1 + frames_behind k t 0 ≤ most_for k t) × (blocks_before k 0 ≡ 0)
unfolding frames_behind most_for blocks_before
first_frame Erase t h = (omega arith, refl)
first_frame Write t h = (omega arith, refl)
first_frame Verify t h = (omega arith, refl)
first_frame Sum t h = (omega arith, refl)
first_frame Blank t h = (omega arith, refl)
first_frame Lock t h = (omega arith, refl)

-- the kinds that send pages
paging : (k : Kind) (t : Step) (at : ℕ) → Paging k → (frames_behind k t at ≡ step_pages t) × (blocks_before k at ≡ 0)
unfolding frames_behind blocks_before
paging k t at (inl e) = rw e (refl, refl)
paging k t at (inr e) = rw e (refl, refl)

-- ---- the sizes of a step ----

pages_within : (chip : Chip) (f : Flash) (n : ℕ) → 1 ≤ n → n ≤ blocks chip f → (n ≤ n * pages_per_block f) × (n * pages_per_block f ≤ most_pages chip)
pages_within chip Code n l h = omega arith
pages_within chip Data n l h = omega arith

module _ (chip : Chip) (s : List ℕ) (room : ℕ) (ok : verdict chip s room ≡ Accepted) (i : ℕ) (l : i < count s) where
  some_blocks : 0 < step_blocks (step_at chip s i)
  some_blocks = (sound chip s room ok i l).some

  step_sizes : (step_blocks (step_at chip s i) ≤ step_pages (step_at chip s i)) × (step_pages (step_at chip s i) ≤ most_pages chip)
  step_sizes =
      let a = sound chip s room ok i l in
      let t = step_at chip s i in
      pages_within chip t.flash (step_blocks t) a.some (omega (arith, a.there))

  -- the numbers of step i end where those of the next begin, and there is a last step
  step_ranks : rank_from chip (i + 1) ≤ rank_from chip most_steps
  step_ranks = mul-le-mul_right (most_pages chip + 1) (omega (arith, (whole chip s room ok).steps))

-- ---- a reply taken in ----

-- about to send what stands as high as j, or over
data Next (chip : Chip) (j : ℕ) (p : Player) : Type 0 where
  AtStep : p.stage ≡ Ready → j ≤ rank chip p → Next chip j p
  AtBlock : p.stage ≡ Block → j ≤ rank chip p → Next chip j p
  AtPage : (k : Kind) → p.stage ≡ Page k → j ≤ rank chip p → Next chip j p
  AtEnd : p.stage ≡ Over → Next chip j p

-- so, in the sheet, and with at most k calls left
record Due (chip : Chip) (s : List ℕ) (k j : ℕ) (p : Player) : Type 0 where
  stands : lost chip s p ≡ false
  few : calls_left chip s p ≤ k
  due : Next chip j p

module _ (chip : Chip) (s : List ℕ) where
  over_due : (k j : ℕ) (p : Player) → p.stage ≡ Over → Due chip s k j p
  unfolding left_by
  over_due k j p g = record { stands = stands_over chip s p g; few = omega (arith, left_is chip s p g); due = AtEnd g }

  most_more : (i m : ℕ) → i + m ≡ count s → i < count s
      → most_from chip s i m ≡ most_frames (step_at chip s i) + most_from chip s (i + 1) (count s - (i + 1))
  unfolding most_from
  most_more i m c l = let e : m ≡ suc (count s - (i + 1)) = omega arith in rw e

  module _ (room : ℕ) (ok : verdict chip s room ≡ Accepted) where
    -- at the beginning of step i with m steps to come, or at the end
    begin_due : (i m f k j : ℕ) → i + m ≡ count s → 1 + most_from chip s i m ≤ k → j ≤ rank_from chip i
        → Due chip s k j (player (beginning i (count s)) i 0 f 0 well)
    unfolding left_by rank_by
    begin_due i m f k j c h u = go (eqb i (count s)) refl
      where
        go : (b : Bool) → eqb i (count s) ≡ b → Due chip s k j (player (cond b Over Ready) i 0 f 0 well)
        go true e = over_due k j (player Over i 0 f 0 well) refl
        go false e =
            let n = eqb-false i (count s) e in
            let l : i < count s = omega arith in
            let q = player Ready i 0 f 0 well in
            record {
              stands = stands_ready chip s q l refl;
              few = omega (arith, left_is chip s q refl, most_more i m c l);
              due = AtStep refl (omega (arith, rank_is chip q refl));
            }

    module _ (p : Player) (r sums : List ℕ) (h : lost chip s p ≡ false) where
      abbrev here : Step
      here = step_at chip s p.step

      abbrev Taken : Type 0
      Taken = Due chip s (calls_left chip s p) (rank chip p) (absorbed chip s p r sums).player

      -- the step is finished
      ended : (sum : ℕ) → p.step < count s → 1 + later chip s p ≤ calls_left chip s p → rank chip p ≤ rank_from chip (p.step + 1)
          → Due chip s (calls_left chip s p) (rank chip p) (finished s p sum sums).player
      unfolding finished
      ended sum l f u =
          begin_due (p.step + 1) (count s - (p.step + 1)) p.frames (calls_left chip s p) (rank chip p) (omega arith) f u

      erased_due : p.stage ≡ Commanded Erase → (b c : Bool) → is_well (command_reply r) ≡ b → eqb (p.at + 1) (step_blocks here) ≡ c → Taken
      unfolding left_by frames_behind rank_by blocks_before
      erased_due g false c w e = rw (absorb_erase_stop chip s p r sums g w) (over_due _ _ _ refl)
      erased_due g true true w e =
          let a = erased_stands chip s p here refl h g in
          rw (absorb_erase_last chip s p r sums g here refl (is_well_lem _ w) (eqb-true _ _ e))
          (ended 0 a.0 (omega (arith, left_is chip s p g)) (omega (arith, rank_is chip p g, step_sizes chip s room ok p.step a.0)))
      erased_due g true false w e =
          let a = commanded_stands chip s p here refl h g in
          let b = erased_stands chip s p here refl h g in
          let n = eqb-false (p.at + 1) (step_blocks here) e in
          let q = player Block p.step (p.at + 1) p.frames 0 well in
          rw (absorb_erase_on chip s p r sums g here refl (is_well_lem _ w) n)
          (record {
            stands = stands_block chip s q here refl a.0 refl a.1 (omega (arith, b.1));
            few = omega (arith, left_is chip s p g, left_is chip s q refl);
            due = AtBlock refl (omega (arith, rank_is chip p g, rank_is chip q refl));
          })

      opened_due : (k : Kind) → p.stage ≡ Commanded k → Paging k → (b : Bool) → is_well (command_reply r) ≡ b → Taken
      unfolding left_by rank_by
      opened_due k g x false w = rw (absorb_opened_stop chip s p r sums g x w) (over_due _ _ _ refl)
      opened_due k g x true w =
          let a = commanded_stands chip s p here refl h g in
          let q = player (Page k) p.step 0 p.frames 0 well in
          let f = paging k here p.at x in
          let z : 0 < step_pages here = omega (arith, some_blocks chip s room ok p.step a.0, step_sizes chip s room ok p.step a.0) in
          rw (absorb_opened chip s p r sums g x (is_well_lem _ w))
          (record {
            stands = stands_page chip s q here refl a.0 a.1 refl x z;
            few = omega (arith, left_is chip s p g, left_is chip s q refl, f.0);
            due = AtPage k refl (omega (arith, rank_is chip p g, rank_is chip q refl, f.1));
          })

      -- the only frame of a step
      once_due : (k : Kind) (g : p.stage ≡ Commanded k) (st : Status) (sum : ℕ) → absorb_command k s here p r sums ≡ took_once s p st sum sums
          → blocks_before k p.at ≡ 0 → (b : Bool) → is_well st ≡ b → Taken
      unfolding left_by rank_by
      once_due k g st sum o z false w = rw (absorb_once_stop chip s p r sums g st sum o w) (over_due _ _ _ refl)
      once_due k g st sum o z true w =
          rw (absorb_once chip s p r sums g st sum o (is_well_lem _ w))
          (ended sum (commanded_stands chip s p here refl h g).0 (omega (arith, left_is chip s p g)) (omega (arith, z, rank_is chip p g)))

      -- to a command frame, by the kind begun
      command_due : (k : Kind) → p.stage ≡ Commanded k → Taken
      unfolding absorb_command blocks_before
      command_due Erase g = erased_due g (is_well (command_reply r)) (eqb (p.at + 1) (step_blocks here)) refl refl
      command_due Write g = opened_due Write g (inl refl) (is_well (command_reply r)) refl
      command_due Verify g = opened_due Verify g (inr refl) (is_well (command_reply r)) refl
      command_due Sum g = once_due Sum g _ _ refl refl (is_well (sum_reply r)) refl
      command_due Blank g = once_due Blank g _ _ refl refl (is_well (command_reply r)) refl
      command_due Lock g = once_due Lock g _ _ refl refl (is_well (lock_reply here r)) refl

      paged_due : (k : Kind) → p.stage ≡ Paged k → (b c : Bool) → is_well (data_reply r) ≡ b → eqb (p.at + 1) (step_pages here) ≡ c → Taken
      unfolding left_by rank_by
      paged_due k g false c w e = rw (absorb_page_stop chip s p r sums g _ refl w) (over_due _ _ _ refl)
      paged_due k g true true w e =
          let a = paged_stands chip s p here refl h g in
          rw (absorb_page_last chip s p r sums g here refl (is_well_lem _ w) (eqb-true _ _ e))
          (ended 0 a.0 (omega (arith, left_is chip s p g)) (omega (arith, rank_is chip p g, step_sizes chip s room ok p.step a.0)))
      paged_due k g true false w e =
          let a = paged_stands chip s p here refl h g in
          let n = eqb-false (p.at + 1) (step_pages here) e in
          let q = player (Page k) p.step (p.at + 1) p.frames 0 well in
          rw (absorb_page_on chip s p r sums g here refl (is_well_lem _ w) n)
          (record {
            stands = stands_page chip s q here refl a.0 a.1 refl a.2 (omega (arith, a.3));
            few = omega (arith, left_is chip s p g, left_is chip s q refl);
            due = AtPage k refl (omega (arith, rank_is chip p g, rank_is chip q refl));
          })

      absorb_due : Taken
      unfolding left_by rank_by
      absorb_due = go p.stage refl
        where
          -- no reply is awaited
          rests : Next chip (rank chip p) p → Due chip s (calls_left chip s p) (rank chip p) p
          rests d = record { stands = h; few = omega arith; due = d }

          go : (g : Stage) → p.stage ≡ g → Taken
          go New g =
              rw (absorb_new chip s p r sums g)
              (begin_due 0 (count s) 0 _ _ (omega arith) (omega (arith, left_is chip s p g)) (omega (arith, rank_is chip p g)))
          go Ready g = rw (absorb_ready chip s p r sums g) (rests (AtStep g (omega arith)))
          go Block g = rw (absorb_block chip s p r sums g) (rests (AtBlock g (omega arith)))
          go (Commanded k) g = command_due k g
          go (Page k) g = rw (absorb_ahead chip s p r sums g) (rests (AtPage k g (omega arith)))
          go (Paged k) g = paged_due k g (is_well (data_reply r)) (eqb (p.at + 1) (step_pages here)) refl refl
          go Over g = rw (absorb_over chip s p r sums g) (over_due _ _ p g)

-- a player in the sheet is still in it
pub absorbed_stands : (chip : Chip) (s : List ℕ) (room : ℕ) → verdict chip s room ≡ Accepted → (p : Player) (r sums : List ℕ)
    → lost chip s p ≡ false
    → lost chip s (absorbed chip s p r sums).player ≡ false
absorbed_stands chip s room ok p r sums h = (absorb_due chip s room ok p r sums h).stands

-- ---- the next frame given ----

-- in the sheet; with one call less than k left; and over, or higher than j
pub record Onward (chip : Chip) (s : List ℕ) (k j : ℕ) (p : Player) : Type 0 where
  pub stands : lost chip s p ≡ false
  pub left : calls_left chip s p ≤ k - 1
  pub higher : (p.stage ≡ Over) ⊎ ((j < rank chip p) × (rank chip p < most_rank chip))

module _ (chip : Chip) (s : List ℕ) (room : ℕ) (ok : verdict chip s room ≡ Accepted) (p : Player) (h : lost chip s p ≡ false) where
  abbrev step : Step
  step = step_at chip s p.step

  -- its answer is awaited
  abbrev waiting : Stage → ℕ → Player
  waiting g at = player g p.step at (counted p.frames) p.pieces p.status

  -- ---- it is still in the sheet ----

  first_stands : p.stage ≡ Ready → lost chip s (waiting (Commanded step.kind) 0) ≡ false
  first_stands g =
      let l = ready_stands chip s p h g in
      let q = waiting (Commanded step.kind) 0 in
      stands_commanded chip s q step refl l refl refl (first_in_lem step.kind step (some_blocks chip s room ok p.step l))

  block_waits : p.stage ≡ Block → lost chip s (waiting (Commanded Erase) p.at) ≡ false
  unfolding command_in
  block_waits g =
      let a = block_stands chip s p step refl h g in
      stands_commanded chip s (waiting (Commanded Erase) p.at) step refl a.0 a.1 refl (lt-ltb p.at (step_blocks step) a.2)

  page_waits : (c : Kind) → p.stage ≡ Page c → lost chip s (waiting (Paged c) p.at) ≡ false
  page_waits c g =
      let a = page_stands chip s p step refl h g in
      stands_paged chip s (waiting (Paged c) p.at) step refl a.0 a.1 refl a.2 a.3

  -- a player in the sheet is still in it when it has given its frame
  pub emitted_stands : lost chip s (emitted chip s p).player ≡ false
  unfolding emitted emit_by
  emitted_stands = go p.stage refl
    where
      sent : {x : Sent} → emitted chip s p ≡ x → lost chip s x.player ≡ false → lost chip s (emitted chip s p).player ≡ false
      sent e q = ap (λ (x : Sent). lost chip s x.player) e ∙ q

      silently : (g : Stage) → p.stage ≡ g → emit_by g s step p ≡ silent p → lost chip s (emitted chip s p).player ≡ false
      silently g e q = sent (ap (λ (x : Stage). emit_by x s step p) e ∙ q) h

      go : (g : Stage) → p.stage ≡ g → lost chip s (emitted chip s p).player ≡ false
      go New g = silently New g refl
      go Ready g = sent (emit_first chip s p step refl g refl) (first_stands g)
      go Block g = sent (emit_block chip s p step refl g) (block_waits g)
      go (Commanded k) g = silently (Commanded k) g refl
      go (Page k) g = sent (emit_page chip s p step refl g) (page_waits k g)
      go (Paged k) g = silently (Paged k) g refl
      go Over g = silently Over g refl

  -- ---- with one call less, and higher ----

  module _ (k j : ℕ) (few : calls_left chip s p ≤ k) where
    sizes : (l : p.step < count s) → (step_blocks step ≤ step_pages step) × (step_pages step ≤ most_pages chip)
    sizes l = step_sizes chip s room ok p.step l

    first_onward : p.stage ≡ Ready → j ≤ rank chip p → Onward chip s k j (waiting (Commanded step.kind) 0)
    unfolding left_by rank_by most_frames
    first_onward g u =
        let l = ready_stands chip s p h g in
        let q = waiting (Commanded step.kind) 0 in
        let z = rank_is chip q refl in
        let f = first_frame step.kind step (some_blocks chip s room ok p.step l) in
        record {
          stands = first_stands g;
          left = omega (arith, few, left_is chip s p g, left_is chip s q refl, f.0);
          higher = inr (omega (arith, u, z, rank_is chip p g, f.1), omega (arith, z, f.1, step_ranks chip s room ok p.step l));
        }

    block_onward : p.stage ≡ Block → j ≤ rank chip p → Onward chip s k j (waiting (Commanded Erase) p.at)
    unfolding left_by frames_behind rank_by blocks_before
    block_onward g u =
        let a = block_stands chip s p step refl h g in
        let q = waiting (Commanded Erase) p.at in
        let z = rank_is chip q refl in
        record {
          stands = block_waits g;
          left = omega (arith, few, a.2, left_is chip s p g, left_is chip s q refl);
          higher = inr (omega (arith, u, z, rank_is chip p g), omega (arith, z, a.2, sizes a.0, step_ranks chip s room ok p.step a.0));
        }

    page_onward : (c : Kind) → p.stage ≡ Page c → j ≤ rank chip p → Onward chip s k j (waiting (Paged c) p.at)
    unfolding left_by rank_by
    page_onward c g u =
        let a = page_stands chip s p step refl h g in
        let q = waiting (Paged c) p.at in
        let z = rank_is chip q refl in
        record {
          stands = page_waits c g;
          left = omega (arith, few, a.3, left_is chip s p g, left_is chip s q refl);
          higher = inr (omega (arith, u, z, rank_is chip p g), omega (arith, z, a.3, sizes a.0, step_ranks chip s room ok p.step a.0));
        }

    emit_onward : Next chip j p → Onward chip s k j (emitted chip s p).player
    unfolding left_by
    emit_onward (AtStep g u) = rw (emit_first chip s p step refl g refl) (first_onward g u)
    emit_onward (AtBlock g u) = rw (emit_block chip s p step refl g) (block_onward g u)
    emit_onward (AtPage c g u) = rw (emit_page chip s p step refl g) (page_onward c g u)
    emit_onward (AtEnd g) =
        rw (emit_over chip s p g) (record { stands = h; left = omega (arith, left_is chip s p g); higher = inl g })

-- ---- a call ----

-- A CALL THAT IS NOT REFUSED, whatever the reply
pub call_onward : (chip : Chip) (s : List ℕ) (p : Player) (r buffer sums : List ℕ)
    → player_verdict chip s p (length buffer) (length sums) ≡ Accepted
    → Onward chip s (calls_left chip s p) (rank chip p) (called chip s p r buffer sums).player
unfolding played
call_onward chip s p r buffer sums e =
    let a = allowed_call chip s p (length buffer) (length sums) e in
    rw (call_played chip s p r buffer sums e)
    (let due = absorb_due chip s (length sums) a.0 p r sums a.2 in emit_onward chip s (length sums) a.0 _ due.stands _ _ due.few due.due)
