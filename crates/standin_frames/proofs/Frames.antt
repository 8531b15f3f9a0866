-- The frame call in the code's terms: its tests one after the other, and the frame put into the receive buffer. Assumes nothing.
use mathlib.Core.Path.{◌≡◌, sym, ap, ◌∙◌}
use mathlib.Core.Bool.{true, false, ◌&&◌}
use mathlib.Core.List.{List, ◌++◌}
use Prim.Native.Nat.{ℕ, ◌<◌, ◌≤◌}
use native.Mathlib.Omega.{arith}
use lib.Dec.{leb, eqb}
use lib.ListN.{length, take, get_or-append}
use lib.Seq.{length-take-le, take-append_seam}
use borrow.Author.Tests.{eqb-true, leb-true, lt-leb, le-leb, eq-eqb, ne_eqb}
use Rattle.rules.specs.declared.Chip.{Chip}
use Rattle.rules.specs.declared.Phase.{Phase}
use Rattle.rules.specs.declared.Task.{Task}
use Rattle.rules.specs.Answers.{Refused}
use Rattle.rules.specs.Notes.{Empty}
use Rattle.rules.specs.declared.Refusal.{Refusal}
use Rattle.rules.specs.declared.Refusal.TheVariants.{E1}
use Rattle.rules.specs.Answers as v
use Rattle.rules.specs.First.{first}
use Rattle.rules.specs.Chip.{byte_at}
use Rattle.rules.specs.Frame.{len_of, frame_size, whole}
use Rattle.rules.specs.StandIn.{State, rest, listening, start_of, task_now, on_frame, answered, lent_verdict, received}
use Rattle.rules.specs.WholeFrame.{awaited, frame_verdict, frame_by, frame_call}
use Rattle.rules.proofs.Choices.{both}
use Rattle.frame_build.specs.Buffer.{frame_in}
use Rattle.standin_engine.specs.View.{call_outcome, held_count}
use Rattle.standin_engine.proofs.Receives.{held_take}

-- ---- a whole frame ----

module _ (f : List ℕ) where
  pub too_short : length f < 2 → false ≡ whole f
  unfolding whole
  too_short l = rw (lt-leb 2 (length f) l)

  pub by_len : 2 ≤ length f → eqb (length f) (frame_size (len_of f)) ≡ whole f
  unfolding whole
  by_len l = rw (le-leb 2 (length f) l)

  pub whole_size : whole f ≡ true → (2 ≤ length f) × (length f ≡ frame_size (len_of f))
  unfolding whole
  whole_size w =
      let p = both (leb 2 (length f)) (eqb (length f) (frame_size (len_of f))) w in
      (leb-true 2 (length f) p.0, eqb-true (length f) (frame_size (len_of f)) p.1)

  -- a whole frame over the first bytes of a buffer is the frame that the buffer holds
  pub frame_held : (later : List ℕ) → whole f ≡ true → frame_in (f ++ later) ≡ f
  frame_held later w =
      let p = whole_size w in
      let same : len_of (f ++ later) ≡ len_of f = get_or-append f later 0 1 (omega (arith, p.0)) in
      ap (λ (n : ℕ). take n (f ++ later)) (ap frame_size same ∙ sym p.1) ∙ take-append_seam f later

-- how many bytes are held of a frame is how many were received
pub held_length : (n : ℕ) (b : List ℕ) → held_count n b ≤ length b → length (received n b) ≡ held_count n b
held_length n b l = ap length (held_take n b) ∙ length-take-le (held_count n b) b l

-- ---- what is awaited ----

module _ (chip : Chip) (phase : Phase) (task : Task) (got input : List ℕ) where
  pub deaf : listening phase ≡ false → false ≡ awaited chip phase task got input
  unfolding awaited
  deaf e = rw e

  module _ (l : listening phase ≡ true) where
    pub half : (length got ≡ 0 → ⊥) → false ≡ awaited chip phase task got input
    unfolding awaited
    half n = rw (l, ne_eqb (length got) 0 n)

    module _ (z : length got ≡ 0) where
      pub not_whole : whole input ≡ false → false ≡ awaited chip phase task got input
      unfolding awaited
      not_whole e = rw (l, eq-eqb (length got) 0 z, e)

      pub by_start : whole input ≡ true → eqb (byte_at input 0) (start_of (task_now chip phase task)) ≡ awaited chip phase task got input
      unfolding awaited
      by_start e = rw (l, eq-eqb (length got) 0 z, e)

  -- three tests hold, and the start byte decides; or one of them does not
  pub by_tests : (listening phase && eqb (length got) 0 && whole input) ≡ true
      → eqb (byte_at input 0) (start_of (task_now chip phase task)) ≡ awaited chip phase task got input
  unfolding awaited
  by_tests e = rw e

  pub not_by_tests : (listening phase && eqb (length got) 0 && whole input) ≡ false → false ≡ awaited chip phase task got input
  unfolding awaited
  not_by_tests e = rw e

  pub last_test : (listening phase && eqb (length got) 0 && whole input) ≡ true → whole input ≡ true
  last_test e = (both (listening phase && eqb (length got) 0) (whole input) e).1

  pub one_frame : awaited chip phase task got input ≡ true → whole input ≡ true
  unfolding awaited
  one_frame e =
      last_test (both (listening phase && eqb (length got) 0 && whole input) (eqb (byte_at input 0) (start_of (task_now chip phase task))) e).0

-- ---- the call ----

module _ (chip : Chip) (s : State) (reply input : List ℕ) where
  pub not_lent : (n : Refusal) → lent_verdict chip (length s.memory.code) (length s.memory.«data») (length reply) ≡ v.Refused n
      → call_outcome s (Refused n) Empty reply ≡ frame_call chip s reply input
  unfolding frame_call frame_by frame_verdict
  not_lent n e = rw e

  module _ (ok : lent_verdict chip (length s.memory.code) (length s.memory.«data») (length reply) ≡ v.Accepted) where
    pub not_awaited_lem : awaited chip s.phase s.task s.got input ≡ false
        → call_outcome s (Refused E1) Empty reply ≡ frame_call chip s reply input
    unfolding frame_call frame_by frame_verdict first
    not_awaited_lem e = rw (ok, e)

    pub handed_on : awaited chip s.phase s.task s.got input ≡ true
        → answered (on_frame chip (rest s.phase s.task s.options s.memory) input) reply ≡ frame_call chip s reply input
    unfolding frame_call frame_by frame_verdict first
    handed_on e = rw (ok, e)
