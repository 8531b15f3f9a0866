-- One byte taken, in the terms of a count and a frame buffer. Assumes nothing.
use mathlib.Core.Path.{◌≡◌, refl, sym, ap, ◌∙◌}
use mathlib.Core.Bool.{Bool, true, false, cond, false≢true, ◌||◌}
use mathlib.Core.List.{List, [], ◌∷◌, ◌++◌}
use mathlib.Core.Logic.{◌⊎◌, inl, inr}
use Prim.Native.Nat.{ℕ, ◌+◌, ◌<◌, ◌≤◌}
use native.Mathlib.Omega.{arith}
use native.Mathlib.Numerals.{add-one}
use lib.Dec.{ltb, eqb}
use lib.ListN.{length, take, set, length-set}
use lib.Seq.{take-suc-set, get_or-take, get_or-set_other, length-take-le}
use borrow.Author.Tests.{eqb-true, eqb-false, ltb-true, lt-ltb, le-ltb, le-leb, eq-eqb, ne_eqb}
use Rattle.rules.specs.declared.Chip.{Chip}
use Rattle.rules.specs.declared.Phase.{Phase}
use Rattle.rules.specs.declared.Phase.TheVariants.{Mode, Speed, Ident, Command, Silent}
use Rattle.rules.specs.Answers.{Refused, Answer}
use Rattle.rules.specs.Notes.{Empty}
use Rattle.rules.specs.declared.Refusal.{Refusal}
use Rattle.rules.specs.declared.Task.TheVariants.{Idle}
use Rattle.rules.specs.Answers as v
use Rattle.rules.specs.Chip.{over}
use Rattle.rules.specs.Frame.{frame_size, len_of, whole}
use Rattle.rules.specs.Command.{phase_number}
use Rattle.rules.specs.StandIn.{State, Out, out, rest, holding, listening, start_of, task_now, on_frame, receive, takes, step, after_mode, answered, lent_verdict, byte_by, byte_call, received}
use Rattle.frame_build.proofs.Frames.{frame_size_lem, body_least}
use Rattle.frame_build.specs.Buffer.{frame_in}
use Rattle.standin_engine.specs.View.{call_outcome, held_count}

-- ---- what is held ----

pub held_small : (n : ℕ) (b : List ℕ) → n < 2 → n ≡ held_count n b
unfolding held_count
held_small n b h = rw (lt-ltb n 2 h)

pub held_more : (n : ℕ) (b : List ℕ) → 2 ≤ n → n < frame_size (len_of b) → n ≡ held_count n b
unfolding held_count
held_more n b h l = rw (le-ltb n 2 h, lt-ltb n (frame_size (len_of b)) l)

pub held_none : (n : ℕ) (b : List ℕ) → 2 ≤ n → frame_size (len_of b) ≤ n → 0 ≡ held_count n b
unfolding held_count
held_none n b h l = rw (le-ltb n 2 h, le-ltb n (frame_size (len_of b)) l)

pub held_take : (n : ℕ) (b : List ℕ) → received n b ≡ take (held_count n b) b
unfolding received held_count
held_take n b = go (ltb n 2 || ltb n (frame_size (len_of b)))
  where
    go : (t : Bool) → cond t (take n b) [] ≡ take (cond t n 0) b
    go true = refl
    go false = refl

-- what is held of a frame past its LEN ends before the frame's end
pub held_short : (n : ℕ) (b : List ℕ) → 2 ≤ held_count n b → held_count n b < frame_size (len_of b)
unfolding held_count
held_short n b = go (ltb n 2) refl (ltb n (frame_size (len_of b))) refl
  where
    go : (s : Bool) → ltb n 2 ≡ s → (t : Bool) → ltb n (frame_size (len_of b)) ≡ t → 2 ≤ cond (s || t) n 0 → cond (s || t) n 0 < frame_size (len_of b)
    go true e t q h = let l = ltb-true n 2 e in absurd (omega arith)
    go false e true q h = ltb-true n _ q
    go false e false q h = absurd (omega arith)

-- ---- one byte more ----

module _ (chip : Chip) (s : State) (b : ℕ) where
  pub skipped : (b ≡ start_of (task_now chip s.phase s.task) → ⊥) → holding s [] ≡ receive chip s [] b
  unfolding receive
  skipped n = rw (ne_eqb b (start_of (task_now chip s.phase s.task)) n)

  pub begun : b ≡ start_of (task_now chip s.phase s.task) → holding s (b ∷ []) ≡ receive chip s [] b
  unfolding receive
  begun e = rw (eq-eqb b (start_of (task_now chip s.phase s.task)) e)

  pub more : (g : List ℕ) → (length g ≡ 0 → ⊥)
      → receive chip s g b ≡ cond (whole (g ++ (b ∷ []))) (on_frame chip (rest s.phase s.task s.options s.memory) (g ++ (b ∷ []))) (holding s (g ++ (b ∷ [])))
  unfolding receive
  more [] n = absurd (n refl)
  more (a ∷ g) n = refl

-- a byte stored behind n bytes of a frame, in a buffer of 260
module _ (chip : Chip) (s : State) (b : ℕ) (xs : List ℕ) (n : ℕ) (some : n ≡ 0 → ⊥) (fits : n < length xs) where
  stored : take n xs ++ (b ∷ []) ≡ take (n + 1) (set xs n b)
  stored = sym (rw add-one (take-suc-set xs n b fits))

  taken_length : length (take (n + 1) (set xs n b)) ≡ n + 1
  taken_length = length-take-le (n + 1) (set xs n b) (rw length-set (omega arith))

  len_there : len_of (take (n + 1) (set xs n b)) ≡ len_of (set xs n b)
  len_there = get_or-take (n + 1) (set xs n b) 1 0 (omega arith)

  whole_is : whole (take (n + 1) (set xs n b)) ≡ eqb (n + 1) (frame_size (len_of (set xs n b)))
  unfolding whole
  whole_is = let l : 2 ≤ n + 1 = omega arith in rw (taken_length, len_there, le-leb 2 (n + 1) l)

  held_length : length (take n xs) ≡ 0 → ⊥
  held_length e = some (sym (length-take-le n xs (omega arith)) ∙ e)

  onward : (t : Bool) → eqb (n + 1) (frame_size (len_of (set xs n b))) ≡ t
      → receive chip s (take n xs) b ≡ cond t (on_frame chip (rest s.phase s.task s.options s.memory) (take (n + 1) (set xs n b))) (holding s (take (n + 1) (set xs n b)))
  onward t e = more chip s b (take n xs) held_length ∙ rw (stored, whole_is, e)

  -- the frame is whole, or not yet
  pub completed : n + 1 ≡ frame_size (len_of (set xs n b))
      → on_frame chip (rest s.phase s.task s.options s.memory) (frame_in (set xs n b)) ≡ receive chip s (take n xs) b
  completed e =
      ap (λ (k : ℕ). on_frame chip (rest s.phase s.task s.options s.memory) (take k (set xs n b))) (sym e)
      ∙ sym (onward true (eq-eqb _ _ e))

  pub continued : (n + 1 ≡ frame_size (len_of (set xs n b)) → ⊥) → holding s (take (n + 1) (set xs n b)) ≡ receive chip s (take n xs) b
  continued e = sym (onward false (ne_eqb _ _ e))

-- the LEN in hand, and that what is now held is still short of its end
pub still_short : (xs : List ℕ) (n b k : ℕ) → n < length xs → n ≡ held_count k xs → (n ≡ 0 → ⊥)
    → (n + 1 ≡ frame_size (len_of (set xs n b)) → ⊥)
    → n + 1 ≡ held_count (n + 1) (set xs n b)
still_short xs n b k h e z d = go (eqb n 1) refl
  where
    five : (l : ℕ) → 5 ≤ frame_size l
    five l = omega (arith, frame_size_lem l, body_least l)

    go : (t : Bool) → eqb n 1 ≡ t → n + 1 ≡ held_count (n + 1) (set xs n b)
    go true q =
        let o = eqb-true n 1 q in
        held_more (n + 1) (set xs n b) (omega arith) (omega (arith, five (len_of (set xs n b))))
    go false q =
        let o = eqb-false n 1 q in
        let same : len_of (set xs n b) ≡ len_of xs = get_or-set_other xs n 1 b 0 (λ w. o (sym w)) in
        let l : n < frame_size (len_of xs) = rw (← e) at (held_short k xs (rw (← e) (omega arith))) in
        let m : n < frame_size (len_of (set xs n b)) = rw same l in
        held_more (n + 1) (set xs n b) (omega arith) (omega arith)

-- ---- the phases, and the refusals ----

pub is_silent_lem : (p : Phase) → phase_number p ≡ 4 → p ≡ Silent
is_silent_lem p e = grind arith

pub is_mode : (p : Phase) → phase_number p ≡ 0 → p ≡ Mode
is_mode p e = grind arith

-- a phase that takes frames is neither silent nor the one that waits for a mode byte
pub takes_frames : (p : Phase) → listening p ≡ true → (phase_number p ≡ 4 → ⊥) × (phase_number p ≡ 0 → ⊥)
takes_frames p e = grind arith

pub only_mode : (p : Phase) → listening p ≡ false → (p ≡ Silent → ⊥) → p ≡ Mode
only_mode Mode e n = refl
only_mode Speed e n = absurd (false≢true (sym e))
only_mode Ident e n = absurd (false≢true (sym e))
only_mode Command e n = absurd (false≢true (sym e))
only_mode Silent e n = absurd (n refl)

module _ (chip : Chip) (s : State) (b : ℕ) where
  by_phase : (p : Phase) → s.phase ≡ p → takes p chip s b ≡ step chip s b
  unfolding step
  by_phase p e = ap (λ (q : Phase). takes q chip s b) (sym e)

  pub silent_phase : s.phase ≡ Silent → out s [] ≡ step chip s b
  unfolding takes
  silent_phase e = by_phase Silent e

  pub mode_phase : s.phase ≡ Mode → out (rest (after_mode b) Idle s.options s.memory) [] ≡ step chip s b
  unfolding takes
  mode_phase e = by_phase Mode e

  -- the same by the phase's number
  pub silent_step : phase_number s.phase ≡ 4 → out s [] ≡ step chip s b
  silent_step e = silent_phase (is_silent_lem s.phase e)

  pub mode_step : phase_number s.phase ≡ 0 → out (rest (after_mode b) Idle s.options s.memory) [] ≡ step chip s b
  mode_step e = mode_phase (is_mode s.phase e)

  pub listening_step : (s.phase ≡ Speed) ⊎ (s.phase ≡ Ident) ⊎ (s.phase ≡ Command) → receive chip s s.got b ≡ step chip s b
  unfolding takes
  listening_step (inl e) = by_phase Speed e
  listening_step (inr (inl e)) = by_phase Ident e
  listening_step (inr (inr e)) = by_phase Command e

  frame_step_at : (p : Phase) → s.phase ≡ p → (phase_number p ≡ 4 → ⊥) → (phase_number p ≡ 0 → ⊥) → receive chip s s.got b ≡ step chip s b
  unfolding takes
  frame_step_at Mode e n z = absurd (z refl)
  frame_step_at Speed e n z = by_phase Speed e
  frame_step_at Ident e n z = by_phase Ident e
  frame_step_at Command e n z = by_phase Command e
  frame_step_at Silent e n z = absurd (n refl)

  pub frame_step : (phase_number s.phase ≡ 4 → ⊥) → (phase_number s.phase ≡ 0 → ⊥) → receive chip s s.got b ≡ step chip s b
  frame_step n z = frame_step_at s.phase refl n z

  module _ (reply : List ℕ) where
    pub refused_byte : (n : Refusal) → lent_verdict chip (length s.memory.code) (length s.memory.«data») (length reply) ≡ v.Refused n
        → call_outcome s (Refused n) Empty reply ≡ byte_call chip s reply b
    unfolding byte_call byte_by
    refused_byte n e = rw e

    pub taken : lent_verdict chip (length s.memory.code) (length s.memory.«data») (length reply) ≡ v.Accepted
        → answered (step chip s b) reply ≡ byte_call chip s reply b
    unfolding byte_call byte_by
    taken e = rw e

-- no answer leaves the reply buffer
pub unanswered : (s : State) (reply : List ℕ) → call_outcome s (Answer 0) Empty reply ≡ answered (out s []) reply
unfolding over
unanswered s reply = refl

-- a record that holds those bytes, and answers nothing
pub held_as : (s : State) (g : List ℕ) (o : Out) (reply : List ℕ) → s.got ≡ g → holding s g ≡ o → call_outcome s (Answer 0) Empty reply ≡ answered o reply
held_as s g o reply e q =
    ap (λ (x : List ℕ). call_outcome (holding s x).state (Answer 0) Empty reply) e
    ∙ unanswered (holding s g).state reply
    ∙ ap (λ (x : Out). answered x reply) q

pub first_got : (xs : List ℕ) (b : ℕ) → 0 < length xs → received 1 (set xs 0 b) ≡ b ∷ []
unfolding received
first_got [] b h = absurd (omega arith)
first_got (x ∷ xs) b h = refl

-- nothing received
pub none_got : (n : ℕ) (b : List ℕ) → n ≡ 0 → received n b ≡ []
unfolding received
none_got n b e = rw e

-- what is held, from what the code found
pub held_is : (n k : ℕ) (b : List ℕ) → k ≡ held_count n b → received n b ≡ take k b
held_is n k b e = held_take n b ∙ ap (λ (j : ℕ). take j b) (sym e)
