-- The frame that is given, in its buffer: one law for each outcome; and, where the sheet is accepted and the player in it, that it is the
-- frame of the definitions. Assumes nothing.
use mathlib.Core.Path.{◌≡◌, refl, ap, ◌∙◌}
use mathlib.Core.Bool.{true, false}
use mathlib.Core.List.{List}
use mathlib.Core.Logic.{inl, inr}
use Prim.Native.Nat.{ℕ, ◌+◌, ◌*◌, ◌<◌, ◌≤◌}
use native.Mathlib.Omega.{arith}
use lib.ListN.{length, drop, length-take}
use borrow.Author.Tests.{lt-ltb, le-ltb, le-leb}
use Rattle.rules.specs.declared.Chip.{Chip}
use Rattle.rules.specs.declared.Kind.{Kind}
use Rattle.rules.specs.declared.Kind.TheVariants.{Write, Verify}
use Rattle.rules.specs.declared.Player.{Player}
use Rattle.rules.specs.declared.Stage.{Stage}
use Rattle.rules.specs.declared.Stage.TheVariants.{New, Ready, Block, Commanded, Page, Paged, Over}
use Rattle.rules.specs.declared.Step.{Step}
use Rattle.rules.specs.Answers.{Accepted}
use Rattle.rules.specs.Chip.{over, page_size}
use Rattle.rules.specs.Frame.{frame}
use Rattle.rules.specs.Sheet.{count, step_at, body_page, verdict}
use Rattle.rules.specs.Player.{page_frame, emit_by, emitted, lost_in, lost}
use Rattle.sheet.proofs.Accepted.{Inside, sound, page_inside}
use Rattle.frame_build.specs.Buffer.{Put, put, put_bytes}
use Rattle.frame_build.proofs.Buffers.{bytes_fit}
use Rattle.player_laws.proofs.Lengths.{frame_short}
use Rattle.player_laws.proofs.PlaceInSheet.{Paging, page_stands}
use Rattle.player_emit.specs.Emitting.{emitting, emitting_by, page_there, page_into, emitted_into_by, emitted_at, emitted_into}

-- ---- bytes put over the first of a buffer ----

module _ (p : Player) (new buffer : List ℕ) (h : length new ≤ length buffer) where
  pub gave_put : (n : ℕ) (b : List ℕ) → put n b ≡ put_bytes new buffer → emitting p n b ≡ emitting p (length new) (over new buffer)
  gave_put n b e = ap (λ (x : Put). emitting p x.count x.buffer) (e ∙ bytes_fit new buffer h)

-- a frame has room where 260 bytes have
pub frame_room_lem : (start end : ℕ) (body b : List ℕ) → length body ≤ 256 → 260 ≤ length b → length (frame start end body) ≤ length b
frame_room_lem start end body b h g = omega (arith, frame_short start end body h)

-- ---- a page of the body ----

pub page_short : (s : List ℕ) (t : Step) (k : ℕ) (b : List ℕ) → 260 ≤ length b → length (page_frame s t k) ≤ length b
page_short s t k b g =
    frame_room_lem _ _ (body_page s t k) b (omega (arith, length-take page_size (drop (t.body + k * page_size) s))) g

module _ (k : Kind) (s : List ℕ) (t : Step) (p : Player) (buffer : List ℕ) where
  pub page_not : page_there s t p.at ≡ false → page_into k s t p buffer ≡ emitting p 0 buffer
  unfolding page_into
  page_not h = rw h

  pub page_is : page_there s t p.at ≡ true → page_into k s t p buffer ≡ emitting_by (emit_by (Page k) s t p) buffer
  unfolding page_into emit_by
  page_is h = rw h

-- ---- the whole ----

module _ (n : ℕ) (t : Step) (s : List ℕ) (p : Player) (buffer : List ℕ) where
  pub no_room : length buffer < 260 → emitted_at n t s p buffer ≡ emitting p 0 buffer
  unfolding emitted_at
  no_room h = rw (lt-ltb (length buffer) 260 h)

  module _ (room : 260 ≤ length buffer) where
    pub at_lost : lost_in p.stage n t p ≡ true → emitted_at n t s p buffer ≡ emitting p 0 buffer
    unfolding emitted_at
    at_lost h = rw (le-ltb (length buffer) 260 room, h)

    pub at_in : lost_in p.stage n t p ≡ false → emitted_at n t s p buffer ≡ emitted_into_by p.stage s t p buffer
    unfolding emitted_at
    at_in h = rw (le-ltb (length buffer) 260 room, h)

-- a body that is read lies in the sheet
paging_inside : (s : List ℕ) (t : Step) (k : Kind) → t.kind ≡ k → Paging k
    → (t.kind ≡ Write → Inside s t) → (t.kind ≡ Verify → Inside s t) → Inside s t
paging_inside s t k e (inl h) w v = w (e ∙ h)
paging_inside s t k e (inr h) w v = v (e ∙ h)

-- ACCEPTED AND NOT LOST: the frame of the definitions
pub into_emitted : (chip : Chip) (s : List ℕ) (p : Player) (buffer : List ℕ) (sums : ℕ)
    → verdict chip s sums ≡ Accepted
    → 260 ≤ length buffer
    → lost chip s p ≡ false
    → emitted_into chip s p buffer ≡ emitting_by (emitted chip s p) buffer
unfolding lost emitted emitted_into_by emit_by over
into_emitted chip s p buffer sums ok room h =
    at_in (count s) t s p buffer room h ∙ go p.stage refl
  where
    t : Step
    t = step_at chip s p.step

    go : (g : Stage) → p.stage ≡ g → emitted_into_by g s t p buffer ≡ emitting_by (emit_by g s t p) buffer
    go New g = refl
    go Ready g = refl
    go Block g = refl
    go (Commanded k) g = refl
    go (Page k) g =
        let a = page_stands chip s p t refl h g in
        let d = sound chip s sums ok p.step a.0 in
        let inside = paging_inside s t k a.1 a.2 d.write d.verify in
        page_is k s t p buffer (le-leb (t.body + p.at * page_size + page_size) (length s) (page_inside s t inside p.at a.3))
    go (Paged k) g = refl
    go Over g = refl
