-- A verdict told in a buffer, by its case; and that it has room. Assumes nothing.
use mathlib.Core.Path.{◌≡◌, ap, sym, ◌∙◌}
use mathlib.Core.List.{List}
use Prim.Native.Nat.{ℕ, ◌≤◌}
use native.Mathlib.Omega.{arith}
use lib.ListN.{length, length-append}
use Rattle.rules.specs.CaptureVerdicts.{CaptureVerdict, Accepted, Wrong, BadForm, Refused}
use Rattle.rules.specs.Text.{decimal, digits}
use Rattle.rules.specs.Capture.{capture_line}
use Rattle.text_out.specs.Out.{out, add, Filled}
use Rattle.text_out.proofs.Appended.{filled}
use Rattle.text_out.proofs.Decimal.{decimal_longer}
use Rattle.text_told.proofs.Room.{refused_fits}
use Rattle.text_capture.specs.Told.{line_told, verdict_told}

pub told_as : (h k : CaptureVerdict) → h ≡ k → (n : ℕ) (b c : List ℕ) → out n c ≡ add (verdict_told k) (out 0 b) → Filled (verdict_told h) b n c
told_as h k e n b c f = filled (verdict_told h) n b c (f ∙ ap (λ (x : CaptureVerdict). add (verdict_told x) (out 0 b)) (sym e))

-- a line's number of 64 bits has at most 20 digits
line_fits : (words : List ℕ) (n : ℕ) → n ≤ 18446744073709551615 → length words ≤ 14 → length (line_told words n) ≤ 64
unfolding line_told decimal digits
line_fits words n h g = let d = decimal_longer n 18446744073709551615 (omega arith) h in simp length-append (omega arith)

-- THE ROOM that `ROOM` gives is enough
pub verdict_fits : (h : CaptureVerdict) → capture_line h ≤ 18446744073709551615 → length (verdict_told h) ≤ 64
unfolding verdict_told
verdict_fits Accepted h = omega arith
verdict_fits (Wrong n) h = line_fits _ n h (omega arith)
verdict_fits (BadForm n) h = line_fits _ n h (omega arith)
verdict_fits (Refused n) h = omega (arith, refused_fits n)
