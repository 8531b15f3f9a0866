-- 02, M-111: the verdict on a capture. Assumes nothing.
use Rattle.std.specs.Prelude.{ℕ, Result, Ok, Err}
use Rattle.rules.specs.declared.Refusal.{Refusal}
use Rattle.rules.specs.declared.capture.CaptureFault.{CaptureFault}
use Rattle.rules.specs.declared.capture.CaptureFault.TheVariants as fault

abbrev pub CaptureVerdict : Type 0
CaptureVerdict = Result (Unit {0}) CaptureFault

pattern abbrev pub Accepted : CaptureVerdict
Accepted = Ok tt

pattern abbrev pub Wrong : ℕ → CaptureVerdict
Wrong line = Err (fault.Wrong line)

pattern abbrev pub BadForm : ℕ → CaptureVerdict
BadForm line = Err (fault.BadForm line)

pattern abbrev pub Refused : Refusal → CaptureVerdict
Refused n = Err (fault.Refused n)
