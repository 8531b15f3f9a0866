-- From a power-on: whatever bytes led to a stand-in that waits for a command, a play comes to the meaning on what they left; and the opening
-- with the flash's own ID leads there. Assumes nothing.
use mathlib.Core.Path.{◌≡◌, refl}
use mathlib.Core.Bool.{true}
use mathlib.Core.List.{List}
use Prim.Native.Nat.{ℕ}
use lib.ListN.{length}
use Rattle.rules.specs.declared.Chip.{Chip}
use Rattle.rules.specs.declared.Options.{Options}
use Rattle.rules.specs.declared.Phase.TheVariants.{Command}
use Rattle.rules.specs.declared.Task.TheVariants.{Idle}
use Rattle.rules.specs.Answers.{Accepted}
use Rattle.rules.specs.Chip.{Memory, ident_of}
use Rattle.rules.specs.Options.{IFPR}
use Rattle.rules.specs.StandIn.{feed, powered, rest}
use Rattle.rules.specs.Sheet.{verdict}
use Rattle.rules.specs.Meaning.{meaning}
use Rattle.rules.specs.Run.{clean, joined_at_start, run, waits}
use Rattle.rules.proofs.Sheet.{chip_known}
use Rattle.standin.specs.Opening.{opening_bytes}
use Rattle.joined_laws.specs.Turns.{Fit, Comes, Means}
use Rattle.joined_laws.proofs.LengthsKept.{feed_kept}
use Rattle.joined_laws.proofs.Opened.{ident_there, opens}
use Rattle.joined_laws.proofs.Run.{some_code, known_run}
use Rattle.joined_laws.proofs.FramesHeard.{rest_waits}
use Rattle.joined_laws.proofs.Open.{ifpr_one}

module _ (chip : Chip) (o : Options) (m : Memory) (fit : Fit chip m) (s frame reply sums : List ℕ) (ok : verdict chip s (length sums) ≡ Accepted) where
  -- EVERY LIST OF BYTES after a power-on that leads to a stand-in that waits
  pub from_power_on : (bytes : List ℕ) → let there = (feed chip (powered o m) bytes).state in
      waits chip there ≡ true
      → Means chip s (joined_at_start there frame reply sums) (run clean chip s (joined_at_start there frame reply sums))
  from_power_on bytes w =
      known_run chip s (joined_at_start (feed chip (powered o m) bytes).state frame reply sums) refl ok w (feed_kept chip (powered o m) fit bytes)

  -- THE OPENING, where IFPR is 1: flash and options as they were
  pub from_opening : (IFPR o ≡ 0 → ⊥) → let there = (feed chip (powered o m) (opening_bytes o (ident_of m))).state in
      (there ≡ rest Command Idle o m)
      × Comes chip (meaning chip s o m sums) (run clean chip s (joined_at_start there frame reply sums))
  from_opening n =
      let e = opens chip o m (ident_there chip m (some_code chip (chip_known chip s (length sums) ok)) fit) n in
      (e, rw e (known_run chip s (joined_at_start (rest Command Idle o m) frame reply sums) refl ok (rest_waits chip o m (ifpr_one o n)) fit))
