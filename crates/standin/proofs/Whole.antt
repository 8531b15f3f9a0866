-- A whole frame of the kind awaited, fed byte by byte from nothing received: only its last byte answers, and what it comes to is what the
-- frame comes to. Assumes nothing.
use mathlib.Core.Path.{◌≡◌, refl, sym, ap, ◌∙◌}
use mathlib.Core.Bool.{Bool, true, false, ◌&&◌}
use mathlib.Core.List.{List, [], ◌∷◌, ◌++◌, append_assoc, append-nil}
use Prim.Native.Nat.{ℕ, zero, suc, ◌+◌}
use native.Mathlib.Nat.{zero-add}
use native.Mathlib.Omega.{arith}
use lib.Dec.{leb, eqb}
use lib.ListN.{length, replicate, length-append, get_or-append}
use borrow.Author.Tests.{eqb-true, leb-true, ne_eqb}
use Rattle.rules.specs.declared.Chip.{Chip}
use Rattle.rules.specs.Answers.{Answer}
use Rattle.rules.specs.Chip.{over}
use Rattle.rules.specs.Frame.{len_of, frame_size, whole}
use Rattle.rules.specs.Command.{phase_number}
use Rattle.rules.specs.StandIn.{State, Out, rest, holding, start_of, task_now, on_frame, step, feed}
use Rattle.rules.specs.Run.{all_bytes}
use Rattle.rules.proofs.Choices.{both}
use Rattle.standin.specs.Feeding.{feeding, feed_from, fed_into}
use Rattle.standin_state.specs.View.{Fits}
use Rattle.standin_state.proofs.Lending.{fits_lent}
use Rattle.standin_engine.proofs.Receives.{begun, more, frame_step, taken}

-- a beginning of a whole frame is none
beginning : (p q : List ℕ) → (length q ≡ 0 → ⊥) → whole (p ++ q) ≡ true → whole p ≡ false
unfolding whole
beginning p q n w = go (leb 2 (length p)) refl
  where
    parts : (leb 2 (length (p ++ q)) ≡ true) × (eqb (length (p ++ q)) (frame_size (len_of (p ++ q))) ≡ true)
    parts = both (leb 2 (length (p ++ q))) (eqb (length (p ++ q)) (frame_size (len_of (p ++ q)))) w

    go : (t : Bool) → leb 2 (length p) ≡ t → (t && eqb (length p) (frame_size (len_of p))) ≡ false
    go false e = refl
    go true e =
        let l = leb-true 2 (length p) e in
        let same : len_of (p ++ q) ≡ len_of p = get_or-append p q 0 1 (omega arith) in
        let sized : length p + length q ≡ frame_size (len_of p) =
        sym (length-append p q) ∙ eqb-true (length (p ++ q)) (frame_size (len_of (p ++ q))) parts.1 ∙ ap frame_size same in
        ne_eqb (length p) (frame_size (len_of p)) (λ z. n (omega arith))

-- a device that takes frames
module _ (chip : Chip) (s : State) (listens : phase_number s.phase ≡ 4 → ⊥) (moded : phase_number s.phase ≡ 0 → ⊥) where
  -- the same with those bytes in hand
  abbrev with : List ℕ → State
  with g = (holding s g).state

  -- what a whole frame comes to
  abbrev done : List ℕ → Out
  done f = on_frame chip (rest s.phase s.task s.options s.memory) f

  -- so many bytes that answer nothing, and the last one
  abbrev told : ℕ → List ℕ → List (List ℕ)
  told n a = replicate n [] ++ (a ∷ [])

  goes_on_lem : (g : List ℕ) (b : ℕ) → (length g ≡ 0 → ⊥) → whole (g ++ (b ∷ [])) ≡ false → step chip (with g) b ≡ holding s (g ++ (b ∷ []))
  goes_on_lem g b n w =
      sym (frame_step chip (with g) b listens moded) ∙ more chip (with g) b g n ∙ rw w

  completes : (g : List ℕ) (b : ℕ) → (length g ≡ 0 → ⊥) → whole (g ++ (b ∷ [])) ≡ true → step chip (with g) b ≡ done (g ++ (b ∷ []))
  completes g b n w =
      sym (frame_step chip (with g) b listens moded) ∙ more chip (with g) b g n ∙ rw w

  feed_one : (t : State) (b : ℕ) (bs : List ℕ)
      → feed chip t (b ∷ bs) ≡ record { state = (feed chip (step chip t b).state bs).state; answers = (step chip t b).answer ∷ (feed chip (step chip t b).state bs).answers }
  unfolding feed
  feed_one t b bs = refl

  feed_none : (t : State) → feed chip t [] ≡ record { state = t; answers = [] }
  unfolding feed
  feed_none t = refl

  -- what holds of the last byte of a whole frame, and of a byte before it where it holds of the bytes behind, holds of the frame
  module _ (f : List ℕ) (w : whole f ≡ true) (P : List ℕ → ℕ → List ℕ → Type 0)
      (last : (g : List ℕ) (b : ℕ) → step chip (with g) b ≡ done f → P g b [])
      (quiet : (g : List ℕ) (b c : ℕ) (bs : List ℕ) → step chip (with g) b ≡ holding s (g ++ (b ∷ [])) → P (g ++ (b ∷ [])) c bs → P g b (c ∷ bs)) where
    by_rest : (g : List ℕ) (b : ℕ) (bs : List ℕ) → (length g ≡ 0 → ⊥) → g ++ (b ∷ bs) ≡ f → P g b bs
    by_rest g b [] n e = last g b (completes g b n (ap whole e ∙ w) ∙ ap done e)
    by_rest g b (c ∷ bs) n e =
        let h = g ++ (b ∷ []) in
        let q : h ++ (c ∷ bs) ≡ f = append_assoc g (b ∷ []) (c ∷ bs) ∙ e in
        let short = goes_on_lem g b n (beginning h (c ∷ bs) (λ z. omega arith) (ap whole q ∙ w)) in
        quiet g b c bs short (by_rest h c bs (λ z. omega (arith, length-append g (b ∷ []))) q)

    pub by_frame : (l : ℕ) (bs : List ℕ) → let b = start_of (task_now chip s.phase s.task) in b ∷ l ∷ bs ≡ f → P [] b (l ∷ bs)
    by_frame l bs e =
        let b = start_of (task_now chip s.phase s.task) in
        let first : step chip (with []) b ≡ holding s (b ∷ []) =
        sym (frame_step chip (with []) b listens moded) ∙ sym (begun chip (with []) b refl) in
        quiet [] b l bs first (by_rest (b ∷ []) l bs (λ z. omega arith) e)

  -- A WHOLE FRAME
  pub feed_frame : s.got ≡ [] → (l : ℕ) (bs : List ℕ) → let f = start_of (task_now chip s.phase s.task) ∷ l ∷ bs in
      whole f ≡ true
      → feed chip s f ≡ record { state = (done f).state; answers = told (suc (length bs)) (done f).answer }
  feed_frame none l bs w =
      let f = start_of (task_now chip s.phase s.task) ∷ l ∷ bs in
      ap (λ (g : List ℕ). feed chip (with g) f) none
      ∙ by_frame f w
      (λ g b cs. feed chip (with g) (b ∷ cs) ≡ record { state = (done f).state; answers = told (length cs) (done f).answer })
      (λ g b e. rw (feed_one (with g) b [], e, feed_none))
      (λ g b c cs e later. rw (feed_one (with g) b (c ∷ cs), e, later))
      l bs refl

  -- a byte fed into a buffer with room for any answer
  fed_one : (out : List ℕ) → Fits chip s.memory.code s.memory.«data» out
      → (g : List ℕ) (b : ℕ) (bs : List ℕ) (n : ℕ) (o : Out) → step chip (with g) b ≡ o
      → feed_from chip (with g) out 0 n (b ∷ bs) ≡ feed_from chip o.state (over o.answer out) (length o.answer) (n + 1) bs
  unfolding feed_from
  fed_one out lent g b bs n o e =
      rw (← taken chip (with g) b out (fits_lent chip s.memory.code s.memory.«data» out lent), e, zero-add (length o.answer))

  pub fed_frame : s.got ≡ [] → (l : ℕ) (bs : List ℕ) → let f = start_of (task_now chip s.phase s.task) ∷ l ∷ bs in
      whole f ≡ true
      → (out : List ℕ) → Fits chip s.memory.code s.memory.«data» out
      → fed_into chip s out f ≡ feeding (done f).state (Answer (length (done f).answer)) (length f) (over (done f).answer out)
  unfolding feed_from over
  fed_frame none l bs w out lent =
      let f = start_of (task_now chip s.phase s.task) ∷ l ∷ bs in
      let one = fed_one out lent in
      ap (λ (g : List ℕ). fed_into chip (with g) out f) none
      ∙ by_frame f w
      (λ g b cs. (n k : ℕ) → k ≡ n + suc (length cs) → feed_from chip (with g) out 0 n (b ∷ cs) ≡ feeding (done f).state (Answer (length (done f).answer)) k (over (done f).answer out))
      (λ g b e n k q. one g b [] n (done f) e ∙ rw q)
      (λ g b c cs e later n k q. one g b (c ∷ cs) n (holding s (g ++ (b ∷ []))) e ∙ later (n + 1) k (omega arith))
      l bs refl 0 (length f) (omega arith)

-- only the last byte answers: all bytes answered are those of the frame
pub all_told : (n : ℕ) (a : List ℕ) → all_bytes (replicate n [] ++ (a ∷ [])) ≡ a
unfolding all_bytes
all_told zero a = append-nil a
all_told (suc n) a = all_told n a
