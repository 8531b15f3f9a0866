-- The phase behind a fault: all that silence do the same, and any other leaves it. Assumes nothing.
use mathlib.Core.Path.{◌≡◌, refl}
use mathlib.Core.Bool.{true, false}
use Rattle.rules.specs.Faults.{Fault, Parameter}
use Rattle.rules.specs.declared.Phase.{Phase}
use Rattle.rules.specs.declared.Phase.TheVariants.{Mode, Speed, Ident, Command, Silent}
use Rattle.rules.specs.StandIn.{silences, phase_after}

pub as_silencing : (p : Phase) (v : Fault) → silences v ≡ true → phase_after p Parameter ≡ phase_after p v
as_silencing Mode v e = refl
as_silencing Speed v e = rw e
as_silencing Ident v e = rw e
as_silencing Command v e = refl
as_silencing Silent v e = refl

pub phase_stays : (p : Phase) (v : Fault) → silences v ≡ false → p ≡ phase_after p v
phase_stays Mode v e = refl
phase_stays Speed v e = rw e
phase_stays Ident v e = rw e
phase_stays Command v e = refl
phase_stays Silent v e = refl
