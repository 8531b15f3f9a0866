-- No answer is longer than 16 bytes, and a byte call leaves the reply buffer its length. Assumes nothing.
use mathlib.Core.Path.{◌≡◌, refl}
use mathlib.Core.Bool.{◌&&◌}
use mathlib.Core.List.{List, [], ◌∷◌, ◌++◌}
use Prim.Native.Nat.{ℕ, ◌≤◌}
use native.Mathlib.Omega.{arith}
use lib.Dec.{eqb}
use lib.ListN.{length}
use Rattle.rules.specs.declared.Chip.{Chip}
use Rattle.rules.specs.Answers.{Refused, Answer, Verdict}
use Rattle.rules.specs.Notes.{Empty}
use Rattle.rules.specs.declared.Refusal.{Refusal}
use Rattle.rules.specs.declared.Phase.{Phase}
use Rattle.rules.specs.declared.Phase.TheVariants.{Mode, Speed, Ident, Command, Silent}
use Rattle.rules.specs.declared.Pages.{Pages}
use Rattle.rules.specs.declared.Task.{Task}
use Rattle.rules.specs.declared.Task.TheVariants.{Idle, Programming, Verifying}
use Rattle.rules.specs.Answers as v
use Rattle.rules.specs.Frame.{data_start, last_end, pair, status_byte, whole, data_fault}
use Rattle.rules.specs.StandIn.{State, Out, Outcome, answered, start_of, last_page, task_now, on_page, on_compare, on_task, on_frame, receive, takes, step, lent_verdict, byte_by, byte_call}
use Rattle.rules.proofs.Choices.{chosen}
use Rattle.frame_build.proofs.Buffers.{length_frame}
use Rattle.standin_state.proofs.Lending.{lent_fits}
use Rattle.standin_command.proofs.Answers.{command_short}
use Rattle.standin_engine.specs.View.{call_outcome}

abbrev Short : Out → Type 0
Short o = length o.answer ≤ 16

pair_short : (a b : ℕ) → length (pair a b) ≤ 16
pair_short a b = omega (arith, length_frame data_start last_end (a ∷ b ∷ []))

page_short : (p : Pages) (s : State) (f : List ℕ) → Short (on_page p s f)
unfolding on_page
page_short p s f =
    chosen Short (eqb (status_byte (data_fault (last_page p) f)) 0x06 && eqb p.status 0x06) _ _
    (λ _. chosen Short (last_page p) _ _ (λ _. pair_short _ _) (pair_short _ _))
    (pair_short _ _)

compare_short : (p : Pages) (s : State) (f : List ℕ) → Short (on_compare p s f)
unfolding on_compare
compare_short p s f =
    chosen Short (eqb (status_byte (data_fault (last_page p) f)) 0x06) _ _
    (λ _. chosen Short (last_page p) _ _ (λ _. pair_short _ _) (pair_short _ _))
    (pair_short _ _)

task_short : (t : Task) (chip : Chip) (s : State) (f : List ℕ) → Short (on_task t chip s f)
unfolding on_task
task_short Idle chip s f = command_short chip s f
task_short (Programming p) chip s f = page_short p s f
task_short (Verifying p) chip s f = compare_short p s f

frame_short : (chip : Chip) (s : State) (f : List ℕ) → Short (on_frame chip s f)
unfolding on_frame
frame_short chip s f = task_short (task_now chip s.phase s.task) chip s f

receive_short : (chip : Chip) (s : State) (g : List ℕ) (b : ℕ) → Short (receive chip s g b)
unfolding receive
receive_short chip s [] b = chosen Short (eqb b (start_of (task_now chip s.phase s.task))) _ _ (λ _. omega arith) (omega arith)
receive_short chip s (a ∷ g) b = chosen Short (whole (a ∷ (g ++ (b ∷ [])))) _ _ (λ _. frame_short chip _ _) (omega arith)

takes_short : (p : Phase) (chip : Chip) (s : State) (b : ℕ) → Short (takes p chip s b)
unfolding takes
takes_short Mode chip s b = omega arith
takes_short Speed chip s b = receive_short chip s s.got b
takes_short Ident chip s b = receive_short chip s s.got b
takes_short Command chip s b = receive_short chip s s.got b
takes_short Silent chip s b = omega arith

pub step_short : (chip : Chip) (s : State) (b : ℕ) → length (step chip s b).answer ≤ 16
unfolding step
step_short chip s b = takes_short s.phase chip s b

-- an outcome that answers no more than the buffer holds, and never more than 16 bytes
pub record Fitting (reply : List ℕ) (o : Outcome) : Type 0 where
  pub answer : (n : ℕ) → o.call ≡ Answer n → n ≤ length reply
  pub short : (n : ℕ) → o.call ≡ Answer n → n ≤ 16

refused_fits : (reply : List ℕ) (s : State) (r : Refusal) → Fitting reply (call_outcome s (Refused r) Empty reply)
refused_fits reply s r =
    let no : (n : ℕ) → Refused r ≡ Answer n → ⊥ = λ n e. let z : ◌≡◌ {A = ℕ} 0 1 = cc in omega arith in
    record { answer = λ n e. absurd (no n e); short = λ n e. absurd (no n e) }

taken_fits : (reply : List ℕ) (o : Out) → length o.answer ≤ 16 → 16 ≤ length reply → Fitting reply (answered o reply)
taken_fits reply o h r =
    let told : (n : ℕ) → Answer (length o.answer) ≡ Answer n → n ≤ 16 = λ n e. let same : length o.answer ≡ n = cc in omega arith in
    record { answer = λ n e. omega (arith, told n e); short = told }

pub call_fits : (chip : Chip) (s : State) (reply : List ℕ) (b : ℕ) → Fitting reply (byte_call chip s reply b)
unfolding byte_call byte_by
call_fits chip s reply b = go (lent_verdict chip (length s.memory.code) (length s.memory.«data») (length reply)) refl
  where
    go : (x : Verdict) → lent_verdict chip (length s.memory.code) (length s.memory.«data») (length reply) ≡ x → Fitting reply (byte_by x chip s reply b)
    go (v.Refused n) e = refused_fits reply s n
    go v.Accepted e =
        taken_fits reply (step chip s b) (step_short chip s b) (lent_fits chip s.memory.code s.memory.«data» reply e).room
