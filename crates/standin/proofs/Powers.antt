-- Power-on, by what is lent. Assumes nothing.
use mathlib.Core.Path.{◌≡◌}
use lib.ListN.{length}
use Rattle.rules.specs.declared.Chip.{Chip}
use Rattle.rules.specs.declared.Options.{Options}
use Rattle.rules.specs.Answers.{Refused, Answer}
use Rattle.rules.specs.declared.Refusal.{Refusal}
use Rattle.rules.specs.Answers as v
use Rattle.rules.specs.Chip.{Memory}
use Rattle.rules.specs.StandIn.{State, powered, flash_verdict, power_by, power_on}

module _ (chip : Chip) (given : State) (o : Options) (m : Memory) where
  pub power_refused : (n : Refusal) → flash_verdict chip (length m.code) (length m.«data») ≡ v.Refused n
      → record { state = given; call = Refused n } ≡ power_on chip given o m
  unfolding power_on power_by
  power_refused n e = rw e

  pub power_well : flash_verdict chip (length m.code) (length m.«data») ≡ v.Accepted
      → record { state = powered o m; call = Answer 0 } ≡ power_on chip given o m
  unfolding power_on power_by
  power_well e = rw e
