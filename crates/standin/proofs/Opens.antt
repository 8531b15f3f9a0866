-- The opening: its refusals, and its bytes. Assumes nothing.
use mathlib.Core.Path.{◌≡◌, ap, ◌∙◌}
use mathlib.Core.List.{List, ◌∷◌, ◌++◌, append-nil}
use Prim.Native.Nat.{ℕ, ◌+◌, ◌≤◌, ◌<◌}
use native.Mathlib.Omega.{arith}
use lib.ListN.{length, take, drop_of_length-le}
use borrow.Author.Tests.{eq-eqb, ne_eqb, ltb-false, lt-ltb, le-ltb}
use Rattle.rules.specs.declared.Chip.{Chip}
use Rattle.rules.specs.declared.Options.{Options}
use Rattle.rules.specs.Answers.{Refused}
use Rattle.rules.specs.declared.Refusal.{Refusal}
use Rattle.rules.specs.declared.Refusal.TheVariants.{D3}
use Rattle.rules.specs.Answers as v
use Rattle.rules.specs.Chip.{over}
use Rattle.rules.specs.First.{first}
use Rattle.rules.specs.Frame.{command_start, last_end, frame}
use Rattle.rules.specs.Options.{IDEN}
use Rattle.rules.specs.StandIn.{State, flash_verdict}
use Rattle.rules.proofs.Sheet.{unbroken, both}
use Rattle.frame_build.specs.Buffer.{put, put_frame}
use Rattle.frame_build.proofs.Buffers.{buffer_put, frame_fits, length_frame}
use Rattle.standin.specs.Feeding.{Feeding, feeding, fed_into, Roomy}
use Rattle.standin.specs.Opening.{speed_bytes, opening_bytes, opening_room, opening_verdict, open_by, opened}

-- a buffer just long enough for a frame is the frame
pub filled : (start end : ℕ) (body old new : List ℕ) (n : ℕ) → put n new ≡ put_frame start end body old
    → 1 ≤ length body → length body ≤ 256 → length old ≡ length body + 4
    → new ≡ frame start end body
unfolding over
filled start end body old new n e l m r =
    buffer_put _ _ (e ∙ frame_fits start end body old l m (omega arith))
    ∙ rw (drop_of_length-le old {i = length (frame start end body)} (omega (arith, length_frame start end body)))
    (append-nil (frame start end body))

module _ (o : Options) (id all : List ℕ) (e : all ≡ speed_bytes ++ frame command_start last_end (0x9C ∷ id)) where
  pub with_ident_lem : IDEN o ≡ 0 → all ≡ opening_bytes o id
  unfolding opening_bytes
  with_ident_lem z = e ∙ rw (eq-eqb (IDEN o) 0 z)

  pub without_ident : (IDEN o ≡ 0 → ⊥) → take 8 all ≡ opening_bytes o id
  unfolding opening_bytes
  without_ident n = ap (take 8) e ∙ rw (ne_eqb (IDEN o) 0 n)

-- ---- the refusals ----

module _ (chip : Chip) (code dat answers : ℕ) where
  pub no_flash : (n : Refusal) → flash_verdict chip code dat ≡ v.Refused n → v.Refused n ≡ opening_verdict chip code dat answers
  unfolding opening_verdict
  no_flash n e = rw e

  module _ (f : flash_verdict chip code dat ≡ v.Accepted) where
    pub no_room : answers < opening_room → v.Refused D3 ≡ opening_verdict chip code dat answers
    unfolding opening_verdict first
    no_room l = rw (f, lt-ltb answers opening_room l)

    pub roomy : opening_room ≤ answers → v.Accepted ≡ opening_verdict chip code dat answers
    unfolding opening_verdict first
    roomy l = rw (f, le-ltb answers opening_room l)

  -- what an acceptance says
  pub room_there : opening_verdict chip code dat answers ≡ v.Accepted → (flash_verdict chip code dat ≡ v.Accepted) × (opening_room ≤ answers)
  unfolding opening_verdict first
  room_there e =
      let a = both _ _ e in
      (a.0, ltb-false _ _ (unbroken _ _ _ a.1).0)

-- ---- the opening ----

module _ (chip : Chip) (s : State) (out id : List ℕ) where
  pub opening_refused : (n : Refusal) → opening_verdict chip (length s.memory.code) (length s.memory.«data») (length out) ≡ v.Refused n
      → feeding s (Refused n) 0 out ≡ opened chip s out id
  unfolding opened open_by
  opening_refused n e = rw e

  pub opening_fed : opening_verdict chip (length s.memory.code) (length s.memory.«data») (length out) ≡ v.Accepted
      → fed_into chip s out (opening_bytes s.options id) ≡ opened chip s out id
  unfolding opened open_by
  opening_fed e = rw e

  pub opening_came : (bytes : List ℕ) → bytes ≡ opening_bytes s.options id
      → opening_verdict chip (length s.memory.code) (length s.memory.«data») (length out) ≡ v.Accepted
      → (f : Feeding) → f ≡ fed_into chip s out bytes → f ≡ opened chip s out id
  opening_came bytes same ok f e = e ∙ ap (fed_into chip s out) same ∙ opening_fed ok

  pub opening_roomy : (bytes : List ℕ) → opening_verdict chip (length s.memory.code) (length s.memory.«data») (length out) ≡ v.Accepted → length bytes ≤ 23
      → Roomy chip s.memory.code s.memory.«data» out bytes
  opening_roomy bytes ok l =
      let r = room_there chip (length s.memory.code) (length s.memory.«data») (length out) ok in
      (r.0, omega (arith, r.1, l))
