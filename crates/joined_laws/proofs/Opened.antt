-- The opening: with the ID that the flash holds it brings a chip that was powered on to wait for a command, and changes neither flash nor
-- options. Assumes nothing.
use mathlib.Core.Path.{◌≡◌, refl, ap, ◌∙◌}
use mathlib.Core.Bool.{Bool, true, false, cond, not}
use mathlib.Core.List.{List, [], ◌∷◌, ◌++◌}
use Prim.Native.Nat.{ℕ, ◌+◌, ◌<◌, ◌≤◌}
use native.Mathlib.Omega.{arith}
use lib.Dec.{eqb}
use lib.ListN.{length, take, drop, length-drop}
use lib.Seq.{take_at, length-take-le}
use borrow.Author.Tests.{ne_eqb, le-leb}
use Rattle.rules.specs.declared.Chip.{Chip}
use Rattle.rules.specs.declared.Flash.TheVariants.{Code}
use Rattle.rules.specs.declared.Options.{Options}
use Rattle.rules.specs.declared.Phase.{Phase}
use Rattle.rules.specs.declared.Phase.TheVariants.{Speed, Ident, Command}
use Rattle.rules.specs.declared.Task.TheVariants.{Idle}
use Rattle.rules.specs.Answers.{Row}
use Rattle.rules.specs.declared.Order.TheVariants.{BaudRate, Identity}
use Rattle.rules.specs.Chip.{Memory, total, same, blocks, ident_at, ident_size, ident_of}
use Rattle.rules.specs.Options.{IDEN, IFPR}
use Rattle.rules.specs.Frame.{data_start, last_end, sum_byte, frame}
use Rattle.rules.specs.Command.{phase_number, commands, rows, lookup, read_as, order_checks, ack, after_speed, done}
use Rattle.rules.specs.StandIn.{State, Out, Fed, out, rest, task_now, after_mode, takes, step, feed, powered}
use Rattle.rules.specs.Player.{command}
use Rattle.rules.specs.Run.{waits}
use Rattle.rules.proofs.First.{passed, none_applies}
use Rattle.octets.proofs.Lists.{same_refl}
use Rattle.standin.specs.Opening.{speed_bytes, opening_bytes}
use Rattle.joined_laws.specs.Hears.{hears}
use Rattle.joined_laws.specs.Released.{Good, speed_at}
use Rattle.joined_laws.proofs.FramesHeard.{Fresh, hears_well, rest_waits}
use Rattle.joined_laws.proofs.Open.{ifpr_one}
use Rattle.joined_laws.specs.Turns.{Fit}

-- bytes behind others
pub feed_append : (chip : Chip) (s : State) (xs ys : List ℕ) → let later = feed chip (feed chip s xs).state ys in
    feed chip s (xs ++ ys) ≡ record { state = later.state; answers = (feed chip s xs).answers ++ later.answers }
unfolding feed
feed_append chip s [] ys = refl
feed_append chip s (x ∷ xs) ys = rw (feed_append chip (step chip s x).state xs ys)

-- ten bytes of ID, and a frame that carries them
module _ (m : Memory) (long : ident_at + ident_size ≤ length m.code) where
  ident_long : length (ident_of m) ≡ 10
  ident_long = length-take-le ident_size (drop ident_at m.code) (omega (arith, length-drop ident_at m.code))

  ident_known : lookup rows 0x9C ≡ Row (length (ident_of m) + 1) 2
  unfolding commands rows lookup
  ident_known = rw ident_long

  ident_same : not (same (take ident_size (drop 3 (command (0x9C ∷ ident_of m)))) (ident_of m)) ≡ false
  unfolding frame
  ident_same =
      let carried = take_at (ident_of m) (sum_byte (0x9C ∷ ident_of m) ∷ last_end ∷ []) ident_size ident_long in
      ap (λ (xs : List ℕ). not (same xs (ident_of m))) carried ∙ ap not (same_refl (ident_of m))

-- they are there where the chip has a code block
pub ident_there : (chip : Chip) (m : Memory) → 0 < blocks chip Code → Fit chip m → ident_at + ident_size ≤ length m.code
ident_there chip m some fit = omega (arith, fit Code)

module _ (chip : Chip) (o : Options) (m : Memory) where
  fresh_rest : (ph : Phase) → (phase_number ph ≡ 4 → ⊥) → (phase_number ph ≡ 0 → ⊥) → Fresh (rest ph Idle o m) ph
  fresh_rest ph l d = record { phase = refl; listens = l; moded = d; got = refl }

  mode_heard : (mode : ℕ) → after_mode mode ≡ Speed → (IFPR o ≡ 0 → ⊥) → step chip (powered o m) mode ≡ out (rest Speed Idle o m) []
  unfolding step takes
  mode_heard mode goes n = rw (ne_eqb (IFPR o) 0 n, goes)

  speed_heard : (brt vdd : ℕ) → brt ≤ 3 → 0x10 ≤ vdd → vdd ≤ 0x37 → hears chip (rest Speed Idle o m) (command (0x9A ∷ brt ∷ vdd ∷ []))
      ≡ out (rest (after_speed o) Idle o m) (frame data_start last_end (0x06 ∷ 0x20 ∷ 0x00 ∷ []))
  unfolding commands rows lookup read_as order_checks frame done task_now
  speed_heard brt vdd slow low high =
      hears_well chip (rest Speed Idle o m) Speed (fresh_rest Speed (λ e. omega arith) (λ e. omega arith)) refl 0x9A (brt ∷ vdd ∷ []) (omega arith) refl BaudRate
      (rw (le-leb brt 3 slow, le-leb 0x10 vdd low, le-leb vdd 0x37 high)) (none_applies _)

  ident_heard : ident_at + ident_size ≤ length m.code → hears chip (rest Ident Idle o m) (command (0x9C ∷ ident_of m)) ≡ out (rest Command Idle o m) ack
  unfolding commands read_as order_checks frame done task_now
  ident_heard long =
      hears_well chip (rest Ident Idle o m) Ident (fresh_rest Ident (λ e. omega arith) (λ e. omega arith)) refl 0x9C (ident_of m) (omega (arith, ident_long m long)) (ident_known m long) Identity refl (passed _ _ _ _ (ident_same m long) ∙ none_applies _)

  -- a mode byte that goes on, and a good 9Ah
  pub rated_fed : (IFPR o ≡ 0 → ⊥) → (mode brt vdd : ℕ) → Good mode brt vdd → (feed chip (powered o m) (speed_at mode brt vdd)).state ≡ rest (after_speed o) Idle o m
  unfolding feed
  rated_fed n mode brt vdd good =
      ap (λ (x : Out). (feed chip x.state (command (0x9A ∷ brt ∷ vdd ∷ []))).state) (mode_heard mode good.goes n)
      ∙ ap (λ (x : Out). x.state) (speed_heard brt vdd good.slow good.low good.high)

  speed_fed : (IFPR o ≡ 0 → ⊥) → (feed chip (powered o m) speed_bytes).state ≡ rest (after_speed o) Idle o m
  unfolding frame sum_byte total
  speed_fed n = rated_fed n 0x3A 0x00 0x21 (record { goes = refl; slow = omega arith; low = omega arith; high = omega arith })

  module _ (long : ident_at + ident_size ≤ length m.code) (n : IFPR o ≡ 0 → ⊥) where
    -- THE OPENING
    pub opens : (feed chip (powered o m) (opening_bytes o (ident_of m))).state ≡ rest Command Idle o m
    unfolding opening_bytes feed
    opens =
        let asked = eqb (IDEN o) 0 in
        let later = cond asked (command (0x9C ∷ ident_of m)) [] in
        ap (λ (x : Fed). x.state) (feed_append chip (powered o m) speed_bytes later)
        ∙ ap (λ (s : State). (feed chip s later).state) (speed_fed n)
        ∙ go asked
      where
        go : (t : Bool) → (feed chip (rest (cond t Ident Command) Idle o m) (cond t (command (0x9C ∷ ident_of m)) [])).state ≡ rest Command Idle o m
        go true = ap (λ (x : Out). x.state) (ident_heard long)
        go false = refl

    pub opened_waits : waits chip (feed chip (powered o m) (opening_bytes o (ident_of m))).state ≡ true
    opened_waits = ap (waits chip) opens ∙ rest_waits chip o m (ifpr_one o n)
