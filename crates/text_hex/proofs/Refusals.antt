-- A refusal told in a buffer, by its case; and that it has room. Assumes nothing.
use mathlib.Core.Path.{◌≡◌, ap, sym, ◌∙◌}
use mathlib.Core.List.{List}
use Prim.Native.Nat.{ℕ, ◌≤◌}
use native.Mathlib.Omega.{arith}
use lib.ListN.{length, length-append}
use Rattle.rules.specs.declared.hex.HexRefusal.{HexRefusal}
use Rattle.rules.specs.declared.hex.HexRefusal.TheVariants.{BadForm, WrongSum, OtherType, Outside, Twice, AfterEnd, NoEnd, ManySteps, ManyBytes, ShortBuffer}
use Rattle.rules.specs.Text.{decimal, digits}
use Rattle.rules.specs.Hex.{hex_line}
use Rattle.text_out.specs.Out.{out, add, Filled}
use Rattle.text_out.proofs.Appended.{filled}
use Rattle.text_out.proofs.Decimal.{decimal_longer}
use Rattle.text_hex.specs.Told.{line_told, refusal_told}

pub told_as : (h k : HexRefusal) → h ≡ k → (n : ℕ) (b c : List ℕ) → out n c ≡ add (refusal_told k) (out 0 b) → Filled (refusal_told h) b n c
told_as h k e n b c f = filled (refusal_told h) n b c (f ∙ ap (λ (x : HexRefusal). add (refusal_told x) (out 0 b)) (sym e))

-- a line's number of 64 bits has at most 20 digits
most_digits : (n : ℕ) → n ≤ 18446744073709551615 → length (decimal n) ≤ 20
unfolding decimal digits
most_digits n h = decimal_longer n 18446744073709551615 (omega arith) h

line_fits : (n : ℕ) (words : List ℕ) → n ≤ 18446744073709551615 → length words ≤ 98 → length (line_told n words) ≤ 128
unfolding line_told
line_fits n words h g = let d = most_digits n h in simp length-append (omega arith)

-- THE ROOM that `ROOM` gives is enough
pub refusal_fits : (h : HexRefusal) → hex_line h ≤ 18446744073709551615 → length (refusal_told h) ≤ 128
unfolding refusal_told
refusal_fits (BadForm n) h = line_fits n _ h (omega arith)
refusal_fits (WrongSum n) h = line_fits n _ h (omega arith)
refusal_fits (OtherType n) h = line_fits n _ h (omega arith)
refusal_fits (Outside n) h = line_fits n _ h (omega arith)
refusal_fits (Twice n) h = line_fits n _ h (omega arith)
refusal_fits (AfterEnd n) h = line_fits n _ h (omega arith)
refusal_fits NoEnd h = omega arith
refusal_fits ManySteps h = omega arith
refusal_fits ManyBytes h = omega arith
refusal_fits ShortBuffer h = omega arith
