-- Whether a stand-in waits for a command, test by test. Assumes nothing.
use mathlib.Core.Path.{◌≡◌, refl}
use mathlib.Core.Bool.{Bool, true, false, cond, ◌||◌}
use mathlib.Core.List.{List, [], ◌∷◌}
use Prim.Native.Nat.{ℕ, zero, suc, ◌<◌}
use native.Mathlib.Omega.{arith}
use lib.Dec.{ltb, eqb}
use lib.ListN.{length, take}
use borrow.Author.Tests.{ne_eqb}
use Rattle.rules.specs.declared.Phase.{Phase}
use Rattle.rules.specs.declared.Phase.TheVariants.{Mode, Speed, Ident, Command, Silent}
use Rattle.rules.specs.declared.Task.{Task}
use Rattle.rules.specs.declared.Task.TheVariants.{Idle, Programming, Verifying}
use Rattle.rules.specs.Frame.{frame_size, len_of}
use Rattle.rules.specs.StandIn.{received}
use Rattle.rules.specs.Run.{waits_in}
use Rattle.standin_engine.specs.View.{held_count}

-- ---- phase and command begun ----

pub other_phase : (ph : Phase) (t : Task) (g : List ℕ) → (ph ≡ Command → ⊥) → waits_in ph t g ≡ false
unfolding waits_in
other_phase Mode t g n = refl
other_phase Speed t g n = refl
other_phase Ident t g n = refl
other_phase Command t g n = absurd (n refl)
other_phase Silent t g n = refl

pub task_begun : (ph : Phase) (t : Task) (g : List ℕ) → (t ≡ Idle → ⊥) → waits_in ph t g ≡ false
unfolding waits_in
task_begun Command (Programming p) g n = refl
task_begun Command (Verifying p) g n = refl
task_begun Command Idle g n = absurd (n refl)
task_begun Mode t g n = refl
task_begun Speed t g n = refl
task_begun Ident t g n = refl
task_begun Silent t g n = refl

-- ---- what is half received ----

-- the first n bytes of a buffer are none only where n is 0
first_none : (n : ℕ) (b : List ℕ) → 0 < length b → eqb n 0 ≡ waits_in Command Idle (take n b)
unfolding waits_in
first_none zero b h = refl
first_none (suc n) [] h = absurd (omega arith)
first_none (suc n) (x ∷ b) h = ne_eqb (suc n) 0 (λ e. omega arith)

pub held_none : (n : ℕ) (b : List ℕ) → 0 < length b → eqb (held_count n b) 0 ≡ waits_in Command Idle (received n b)
unfolding held_count received waits_in
held_none n b h = go (ltb n 2 || ltb n (frame_size (len_of b)))
  where
    go : (t : Bool) → eqb (cond t n 0) 0 ≡ waits_in Command Idle (cond t (take n b) [])
    go true = first_none n b h
    go false = refl
