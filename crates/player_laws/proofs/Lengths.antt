-- A player call leaves the frame buffer and the list of sums their lengths, and gives no frame of more than 260 bytes. Assumes nothing.
use mathlib.Core.Path.{◌≡◌, refl}
use mathlib.Core.Bool.{Bool, true, false, cond}
use mathlib.Core.List.{List}
use Prim.Native.Nat.{ℕ, ◌+◌, ◌*◌, ◌≤◌}
use native.Mathlib.Omega.{arith}
use lib.Dec.{eqb}
use lib.ListN.{length, drop, length-append, length-drop, length-take, length-set}
use Rattle.rules.specs.declared.Chip.{Chip}
use Rattle.rules.specs.declared.Kind.{Kind}
use Rattle.rules.specs.declared.Kind.TheVariants.{Erase, Write, Verify, Sum, Blank, Lock}
use Rattle.rules.specs.declared.Player.{Player}
use Rattle.rules.specs.declared.Stage.{Stage}
use Rattle.rules.specs.declared.Stage.TheVariants.{New, Ready, Block, Commanded, Page, Paged, Over}
use Rattle.rules.specs.declared.Step.{Step}
use Rattle.rules.specs.Answers.{Verdict, Accepted, Refused}
use Rattle.rules.specs.Chip.{over, page_size}
use Rattle.rules.specs.Frame.{frame}
use Rattle.rules.specs.Sheet.{step_at, step_blocks, step_pages}
use Rattle.rules.specs.Player.{is_well, command_reply, lock_reply, sum_reply, sum_in, data_reply, Absorbed, finished, erased_block, opened_pages, took_once, sent_page, absorb_command, absorb_by, absorbed, first_command, emit_by, emitted, frame_room, player_verdict, played, called}
use Rattle.frame_build.proofs.Buffers.{length_frame}
use Rattle.player_laws.proofs.Moves.{call_refused, call_played}
use Rattle.player_laws.proofs.PlaceInSheet.{allowed_call}

-- ---- the frame given ----

-- of a body of at most a page
pub frame_short : (start end : ℕ) (body : List ℕ) → length body ≤ page_size → length (frame start end body) ≤ frame_room
frame_short start end body h = omega (arith, length_frame start end body)

pub first_short : (k : Kind) (t : Step) → length (first_command k t) ≤ frame_room
unfolding first_command
first_short Erase t = frame_short _ _ _ (omega arith)
first_short Write t = frame_short _ _ _ (omega arith)
first_short Verify t = frame_short _ _ _ (omega arith)
first_short Sum t = frame_short _ _ _ (omega arith)
first_short Blank t = frame_short _ _ _ (omega arith)
first_short Lock t = frame_short _ _ _ (omega arith)

stage_short : (g : Stage) (s : List ℕ) (t : Step) (p : Player) → length (emit_by g s t p).bytes ≤ frame_room
unfolding emit_by
stage_short New s t p = omega arith
stage_short Ready s t p = first_short t.kind t
stage_short Block s t p = frame_short _ _ _ (omega arith)
stage_short (Commanded k) s t p = omega arith
stage_short (Page k) s t p = frame_short _ _ _ (omega (arith, length-take page_size (drop (t.body + p.at * page_size) s)))
stage_short (Paged k) s t p = omega arith
stage_short Over s t p = omega arith

pub emit_short : (chip : Chip) (s : List ℕ) (p : Player) → length (emitted chip s p).bytes ≤ frame_room
unfolding emitted
emit_short chip s p = stage_short p.stage s (step_at chip s p.step) p

length_over : (new old : List ℕ) → length new ≤ length old → length (over new old) ≡ length old
unfolding over
length_over new old h = rw (length-append, length-drop) (omega arith)

-- ---- the sums ----

either : (t : Bool) (x y : Absorbed) (n : ℕ) → length x.sums ≡ n → length y.sums ≡ n → length (cond t x y).sums ≡ n
either true x y n a b = a
either false x y n a b = b

finished_sums : (s : List ℕ) (p : Player) (sum : ℕ) (sums : List ℕ) → length (finished s p sum sums).sums ≡ length sums
unfolding finished
finished_sums s p sum sums = length-set sums p.step sum

command_sums : (k : Kind) (s : List ℕ) (t : Step) (p : Player) (r sums : List ℕ) → length (absorb_command k s t p r sums).sums ≡ length sums
unfolding absorb_command erased_block opened_pages took_once
command_sums Erase s t p r sums =
    either (is_well (command_reply r)) _ _ (length sums)
    (either (eqb (p.at + 1) (step_blocks t)) _ _ (length sums) (finished_sums s p 0 sums) refl)
    refl
command_sums Write s t p r sums = either (is_well (command_reply r)) _ _ (length sums) refl refl
command_sums Verify s t p r sums = either (is_well (command_reply r)) _ _ (length sums) refl refl
command_sums Sum s t p r sums = either (is_well (sum_reply r)) _ _ (length sums) (finished_sums s p (sum_in r) sums) refl
command_sums Blank s t p r sums = either (is_well (command_reply r)) _ _ (length sums) (finished_sums s p 0 sums) refl
command_sums Lock s t p r sums = either (is_well (lock_reply t r)) _ _ (length sums) (finished_sums s p 0 sums) refl

stage_sums : (g : Stage) (s : List ℕ) (t : Step) (p : Player) (r sums : List ℕ) → length (absorb_by g s t p r sums).sums ≡ length sums
unfolding absorb_by sent_page
stage_sums New s t p r sums = refl
stage_sums Ready s t p r sums = refl
stage_sums Block s t p r sums = refl
stage_sums (Commanded k) s t p r sums = command_sums k s t p r sums
stage_sums (Page k) s t p r sums = refl
stage_sums (Paged k) s t p r sums =
    either (is_well (data_reply r)) _ _ (length sums)
    (either (eqb (p.at + 1) (step_pages t)) _ _ (length sums) (finished_sums s p 0 sums) refl)
    refl
stage_sums Over s t p r sums = refl

-- ---- a call ----

module _ (chip : Chip) (s : List ℕ) (p : Player) (r buffer sums : List ℕ) where
  pub absorb_sums : length (absorbed chip s p r sums).sums ≡ length sums
  unfolding absorbed
  absorb_sums = stage_sums p.stage s (step_at chip s p.step) p r sums

  pub call_lengths : (length (called chip s p r buffer sums).frame ≡ length buffer) × (length (called chip s p r buffer sums).sums ≡ length sums)
  unfolding played
  call_lengths = go (player_verdict chip s p (length buffer) (length sums)) refl
    where
      go : (v : Verdict) → player_verdict chip s p (length buffer) (length sums) ≡ v
          → (length (called chip s p r buffer sums).frame ≡ length buffer) × (length (called chip s p r buffer sums).sums ≡ length sums)
      go Accepted e =
          let l : frame_room ≤ length buffer = (allowed_call chip s p (length buffer) (length sums) e).1 in
          rw (call_played chip s p r buffer sums e)
          (length_over _ buffer (omega (arith, emit_short chip s (absorbed chip s p r sums).player)), absorb_sums)
      go (Refused n) e = rw (call_refused chip s p r buffer sums n e) (refl, refl)
