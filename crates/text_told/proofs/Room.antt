-- Every text of an accepted sheet has room in a buffer of 2,048 bytes. Assumes nothing.
use mathlib.Core.Path.{◌≡◌, refl}
use mathlib.Core.Bool.{Bool, true, false, cond, ◌&&◌}
use Prim.Native.Nat.{ℕ, zero, suc, ◌+◌, ◌*◌, ◌≤◌, ◌<◌}
use mathlib.Core.List.{List}
use native.Mathlib.Omega.{arith}
use lib.Dec.{ltb, eqb}
use lib.ListN.{length, get_or, length-append}
use Rattle.rules.specs.declared.Chip.{Chip}
use Rattle.rules.specs.declared.Refusal.{Refusal}
use Rattle.rules.specs.declared.Refusal.TheVariants.{D0, D1, D2, D3, E1, J1, J2, J3, J4, J5, J6, J7, J8, J9, J10, J11, J12, J13, J14, J15, J16, P1, P2}
use Rattle.rules.specs.Answers.{Accepted}
use Rattle.rules.specs.declared.Kind.{Kind}
use Rattle.rules.specs.declared.Kind.TheVariants.{Erase, Write, Verify, Sum, Blank, Lock}
use Rattle.rules.specs.declared.Status.{Status}
use Rattle.rules.specs.declared.Status.TheVariants.{Byte, L1}
use Rattle.rules.specs.declared.Report.{Report}
use Rattle.rules.specs.Sheet.{count, verdict}
use Rattle.rules.specs.Text.{digits, decimal, status_text, kind_text, step_line, end_line, refused_line, stopped, line_at, lines_from, play_text}
use Rattle.text_out.proofs.Decimal.{decimal_longer}
use Rattle.sheet.proofs.Accepted.{whole}

-- ---- words ----

-- the most that a count may be: seven digits
abbrev pub most : ℕ
most = 9999999

-- a number has no more digits than its bound
few : (m k n : ℕ) → length (decimal m) ≡ k → 1 ≤ m → n ≤ m → length (decimal n) ≤ k
few m k n e g h = rw (← e) (decimal_longer n m g h)

count_length : (n : ℕ) → n ≤ most → length (decimal n) ≤ 7
unfolding decimal digits
count_length n h = few most 7 n refl (omega arith) h

number_length : (n : ℕ) → n ≤ 64 → length (decimal n) ≤ 2
unfolding decimal digits
number_length n h = few 64 2 n refl (omega arith) h

status_length : (s : Status) → length (status_text s) ≡ 2
unfolding status_text
status_length (Byte b) = refl
status_length L1 = refl

kind_length : (k : Kind) → length (kind_text k) ≤ 6
unfolding kind_text
kind_length Erase = omega arith
kind_length Write = omega arith
kind_length Verify = omega arith
kind_length Sum = omega arith
kind_length Blank = omega arith
kind_length Lock = omega arith

-- ---- lines ----

step_length : (n : ℕ) (k : Kind) (s : Status) (f x : ℕ) → n ≤ 64 → f ≤ most → length (step_line n k s f x) ≤ 26
unfolding step_line
step_length n k s f x h g =
    simp length-append (omega (arith, number_length n h, kind_length k, status_length s, count_length f g))

either : (t : Bool) (x y : List ℕ) (n : ℕ) → length x ≤ n → length y ≤ n → length (cond t x y) ≤ n
either true x y n h g = h
either false x y n h g = g

-- a report whose counts are no more
pub record Bounded (r : Report) : Type 0 where
  pub steps : r.steps ≤ most
  pub frames : r.frames ≤ most
  pub pieces : r.pieces ≤ most

end_length : (r : Report) → Bounded r → length (end_line r) ≤ 51
unfolding end_line
end_length r b =
    simp length-append
    (omega (arith, status_length r.status, count_length r.steps b.steps, count_length r.frames b.frames, count_length r.pieces b.pieces))

-- ---- texts ----

module _ (chip : Chip) (s : List ℕ) (r : Report) (sums frames : List ℕ) where
  line_length : (i : ℕ) → i < 64 → get_or frames i 0 ≤ most → length (line_at chip s r sums frames i) ≤ 26
  unfolding line_at
  line_length i h g =
      either (ltb i r.steps) _ _ 26 (step_length (i + 1) _ _ _ _ (omega arith) g)
      (either (eqb i r.steps && stopped r.status) _ _ 26 (step_length (i + 1) _ _ _ _ (omega arith) g) (omega arith))

  lines_length : (i left n : ℕ) → i + left ≡ n
      → n ≤ 64
      → ((k : ℕ) → k < n → get_or frames k 0 ≤ most)
      → length (lines_from chip s r sums frames i left) ≤ 26 * left
  unfolding lines_from
  lines_length i zero n e h g = omega arith
  lines_length i (suc left) n e h g =
      let a = line_length i (omega arith) (g i (omega arith)) in
      let b = lines_length (i + 1) left n (omega arith) h g in
      simp length-append (omega arith)

  -- THE TEXT OF A PLAY of an accepted sheet, with no count over 9,999,999
  pub play_fits : (room : ℕ) → verdict chip s room ≡ Accepted
      → Bounded r
      → ((i : ℕ) → i < count s → get_or frames i 0 ≤ most)
      → length (play_text chip s r sums frames) ≤ 2048
  unfolding play_text
  play_fits room ok b g =
      let n : count s ≤ 64 = (whole chip s room ok).steps in
      let a = lines_length 0 (count s) (count s) (omega arith) n g in
      simp length-append (omega (arith, end_length r b))

-- A REFUSED LINE
pub refused_fits : (n : Refusal) → length (refused_line n) ≤ 12
unfolding refused_line decimal digits
refused_fits D0 = omega arith
refused_fits D1 = omega arith
refused_fits D2 = omega arith
refused_fits D3 = omega arith
refused_fits E1 = omega arith
refused_fits J1 = omega arith
refused_fits J2 = omega arith
refused_fits J3 = omega arith
refused_fits J4 = omega arith
refused_fits J5 = omega arith
refused_fits J6 = omega arith
refused_fits J7 = omega arith
refused_fits J8 = omega arith
refused_fits J9 = omega arith
refused_fits J10 = omega arith
refused_fits J11 = omega arith
refused_fits J12 = omega arith
refused_fits J13 = omega arith
refused_fits J14 = omega arith
refused_fits J15 = omega arith
refused_fits J16 = omega arith
refused_fits P1 = omega arith
refused_fits P2 = omega arith
