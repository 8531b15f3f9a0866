-- IFPR: a lock that clears it makes it 0, and nothing else does; a chip that is not Silent has it 1, whatever bytes it is fed after a power-on.
-- Assumes nothing.
use mathlib.Core.Path.{◌≡◌, refl, sym, ap, ◌∙◌}
use mathlib.Core.Bool.{Bool, true, false, ◌&&◌}
use mathlib.Core.List.{List, [], ◌∷◌, ◌++◌}
use mathlib.Core.Logic.{◌⊎◌, inl, inr}
use Prim.Native.Nat.{ℕ, zero, suc, ◌*◌, ◌<◌}
use native.Mathlib.Omega.{arith}
use lib.Dec.{eqb}
use borrow.Author.Tests.{eqb-true, eqb-false, eq-eqb}
use Rattle.rules.specs.declared.Chip.{Chip}
use Rattle.rules.specs.declared.Flags.{Flags}
use Rattle.rules.specs.declared.Kind.{Kind}
use Rattle.rules.specs.declared.Kind.TheVariants.{Erase, Write, Verify, Sum, Blank, Lock}
use Rattle.rules.specs.declared.Options.{Options}
use Rattle.rules.specs.declared.Phase.{Phase}
use Rattle.rules.specs.declared.Phase.TheVariants.{Mode, Speed, Ident, Command, Silent}
use Rattle.rules.specs.declared.Order.{Order}
use Rattle.rules.specs.declared.Order.TheVariants.{Reset, Verify as VerifyOrder, Erase as EraseOrder, BlankCheck, Program, BaudRate, Identity, SecuritySet, SecurityGet, Release, WindowSet, WindowGet, Checksum}
use Rattle.rules.specs.Answers.{Judged, Faulty, Ordered}
use Rattle.rules.specs.declared.Step.{Step}
use Rattle.rules.specs.declared.Task.{Task}
use Rattle.rules.specs.declared.Task.TheVariants.{Idle, Programming, Verifying}
use Rattle.rules.specs.Chip.{Memory}
use Rattle.rules.specs.Options.{IFPR, bit, with_bit, and_bit, security_set, window_set}
use Rattle.rules.specs.Frame.{status_byte, data_fault, whole}
use Rattle.rules.specs.Command.{secured, done}
use Rattle.rules.specs.Sheet.{clears}
use Rattle.rules.specs.StandIn.{State, Out, rest, start_of, on_command, last_page, on_page, on_compare, task_now, on_task, on_frame, receive, takes, step, feed, powered, on_judged}
use Rattle.rules.specs.Meaning.{options_by, options_after}
use Rattle.rules.specs.Run.{waits_in, waits}
use Rattle.rules.proofs.Choices.{chosen}
use Rattle.rules.proofs.OptionBits.{ifpr_set}

-- ---- the bit ----

-- a bit that is not 0 is 1
pub ifpr_one : (o : Options) → (IFPR o ≡ 0 → ⊥) → IFPR o ≡ 1
ifpr_one o n = omega (arith, n)

-- the product of two bits is a bit
bits_product : (x y : ℕ) → x < 2 → y < 2 → x * y < 2
bits_product x zero h g = omega arith
bits_product x (suc zero) h g = omega arith
bits_product x (suc (suc y)) h g = absurd (omega arith)

set_2 : (v n : ℕ) → v < 2 → bit 2 (with_bit 2 v n) ≡ v
set_2 v n h = omega arith

kept_2 : (v n : ℕ) → v < 2 → bit 2 (with_bit 0 v n) ≡ bit 2 n
kept_2 v n h = omega arith

-- Security Set makes it the AND of old and sent
ifpr_and : (sf1 sf2 : ℕ) (o : Options) → IFPR (security_set sf1 sf2 o) ≡ IFPR o * bit 2 sf2
unfolding security_set
ifpr_and sf1 sf2 o =
    let low = and_bit 0 sf2 o.sf2 in
    set_2 (bit 2 low * bit 2 sf2) low (bits_product (bit 2 low) (bit 2 sf2) (omega arith) (omega arith))
    ∙ ap (λ (b : ℕ). b * bit 2 sf2) (kept_2 (bit 0 o.sf2 * bit 0 sf2) o.sf2 (bits_product (bit 0 o.sf2) (bit 0 sf2) (omega arith) (omega arith)))

module _ (o : Options) (f : Flags) where
  -- a lock that clears it
  pub lock_shuts : clears f ≡ true → IFPR (security_set f.sf1 f.sf2 o) ≡ 0
  lock_shuts c = ifpr_and f.sf1 f.sf2 o ∙ rw (eqb-true (bit 2 f.sf2) 0 c) (omega arith)

  -- and any other
  pub lock_leaves_open : IFPR o ≡ 1 → clears f ≡ false → IFPR (security_set f.sf1 f.sf2 o) ≡ 1
  lock_leaves_open i c =
      let n = eqb-false (bit 2 f.sf2) 0 c in
      let one : bit 2 f.sf2 ≡ 1 = omega (arith, n) in
      ifpr_and f.sf1 f.sf2 o ∙ rw (i, one) (omega arith)

-- a step that is no lock that clears it
pub step_leaves_open : (t : Step) (o : Options) → IFPR o ≡ 1 → (t.kind ≡ Lock → clears t.flags ≡ true → ⊥) → IFPR (options_after t o) ≡ 1
unfolding options_after options_by
step_leaves_open t o i n = go t.kind refl
  where
    shut : t.kind ≡ Lock → (b : Bool) → clears t.flags ≡ b → IFPR (security_set t.flags.sf1 t.flags.sf2 o) ≡ 1
    shut k true c = absurd (n k c)
    shut k false c = lock_leaves_open o t.flags i c

    go : (k : Kind) → t.kind ≡ k → IFPR (options_by k t o) ≡ 1
    go Erase e = i
    go Write e = i
    go Verify e = i
    go Sum e = i
    go Blank e = i
    go Lock e = shut e (clears t.flags) refl

-- ---- whatever a stand-in is fed ----

-- it is Silent, or IFPR is 1
abbrev Open : State → Type 0
Open x = (x.phase ≡ Silent) ⊎ (IFPR x.options ≡ 1)

abbrev Opened : Out → Type 0
Opened o = Open o.state

module _ (chip : Chip) (s : State) (i : IFPR s.options ≡ 1) (f : List ℕ) where
  secured_open : (o : Options) → Opened (secured o s)
  unfolding secured
  secured_open o = go (eqb (IFPR o) 0) refl
    where
      go : (b : Bool) → eqb (IFPR o) 0 ≡ b → Opened (secured o s)
      go true e = rw e (inl refl)
      go false e = rw e (inr (ifpr_one o (eqb-false (IFPR o) 0 e)))

  order_open : (order : Order) → Opened (done chip s order)
  unfolding done window_set
  order_open Reset = inr i
  order_open (VerifyOrder g a b) = inr i
  order_open (EraseOrder g b) = inr i
  order_open (BlankCheck g a b tar) = inr i
  order_open (Program g a b) = inr i
  order_open BaudRate = inr i
  order_open Identity = inr i
  order_open (SecuritySet sf1 sf2) = secured_open (security_set sf1 sf2 s.options)
  order_open SecurityGet = inr i
  order_open Release = inr (ifpr_set s.options)
  order_open (WindowSet sws swe) = inr i
  order_open WindowGet = inr i
  order_open (Checksum g a b) = inr i

  judged_open : (j : Judged) → Opened (on_judged j chip s)
  unfolding on_judged
  judged_open (Faulty v) = inr i
  judged_open (Ordered order) = order_open order

  command_open : Opened (on_command chip s f)
  unfolding on_command
  command_open = judged_open _

  task_open : (t : Task) → Opened (on_task t chip s f)
  unfolding on_task on_page on_compare
  task_open Idle = command_open
  task_open (Programming p) =
      chosen Opened (eqb (status_byte (data_fault (last_page p) f)) 0x06 && eqb p.status 0x06) _ _ (λ _. chosen Opened (last_page p) _ _ (λ _. inr i) (inr i)) (inr i)
  task_open (Verifying p) =
      chosen Opened (eqb (status_byte (data_fault (last_page p) f)) 0x06) _ _ (λ _. chosen Opened (last_page p) _ _ (λ _. inr i) (inr i)) (inr i)

  frame_open : Opened (on_frame chip s f)
  unfolding on_frame
  frame_open = task_open (task_now chip s.phase s.task)

module _ (chip : Chip) (s : State) (i : IFPR s.options ≡ 1) (b : ℕ) where
  receive_open : (g : List ℕ) → Opened (receive chip s g b)
  unfolding receive
  receive_open [] = chosen Opened (eqb b (start_of (task_now chip s.phase s.task))) _ _ (λ _. inr i) (inr i)
  receive_open (a ∷ g) =
      let f = a ∷ (g ++ (b ∷ [])) in
      chosen Opened (whole f) _ _ (λ w. frame_open chip (rest s.phase s.task s.options s.memory) i f) (inr i)

  takes_open : (ph : Phase) → Opened (takes ph chip s b)
  unfolding takes
  takes_open Mode = inr i
  takes_open Speed = receive_open s.got
  takes_open Ident = receive_open s.got
  takes_open Command = receive_open s.got
  takes_open Silent = inr i

step_open : (chip : Chip) (s : State) (b : ℕ) → Open s → Open (step chip s b).state
unfolding step takes
step_open chip s b (inl e) = rw e (inl refl)
step_open chip s b (inr i) = takes_open chip s i b s.phase

feed_open : (chip : Chip) (s : State) → Open s → (bs : List ℕ) → Open (feed chip s bs).state
unfolding feed
feed_open chip s h [] = h
feed_open chip s h (b ∷ bs) = feed_open chip (step chip s b).state (step_open chip s b h) bs

powered_open : (o : Options) (m : Memory) → Open (powered o m)
powered_open o m = go (eqb (IFPR o) 0) refl
  where
    go : (b : Bool) → eqb (IFPR o) 0 ≡ b → Open (powered o m)
    go true e = inl (rw e)
    go false e = inr (ifpr_one o (eqb-false (IFPR o) 0 e))

-- AFTER ANY POWER-ON AND ANY BYTES phase Command has IFPR 1: a stand-in there that has no command begun and nothing half received waits
pub power_on_waits : (chip : Chip) (o : Options) (m : Memory) (bytes : List ℕ) → let there = (feed chip (powered o m) bytes).state in
    there.phase ≡ Command → waits_in there.phase (task_now chip there.phase there.task) there.got ≡ true
    → (IFPR there.options ≡ 1) × (waits chip there ≡ true)
unfolding waits
power_on_waits chip o m bytes c w = go (feed_open chip (powered o m) (powered_open o m) bytes)
  where
    there : State
    there = (feed chip (powered o m) bytes).state

    silent_not : Silent ≡ Command → ⊥
    silent_not e = let z : ◌≡◌ {A = ℕ} 0 1 = cc in omega arith

    go : Open there → (IFPR there.options ≡ 1) × (waits chip there ≡ true)
    go (inl e) = absurd (silent_not (sym e ∙ c))
    go (inr i) = (i, rw w (eq-eqb (IFPR there.options) 1 i))
