-- Laws of the lines of a HEX text one after the other, with the end that `line_end` finds. Assumes nothing.
use mathlib.Core.Path.{◌≡◌, refl, ◌∙◌}
use mathlib.Core.Bool.{Bool, true, false, cond}
use mathlib.Core.List.{List, [], ◌∷◌}
use Prim.Native.Nat.{ℕ, ◌+◌, ◌-◌, ◌<◌, ◌≤◌}
use native.Mathlib.Omega.{arith}
use lib.Dec.{eqb}
use lib.ListN.{length, take, drop, length-drop, drop_of_length-le}
use Rattle.std.specs.Prelude.{Err}
use Rattle.rules.specs.Answers.{HexRead, On, Ended, Refused}
use Rattle.rules.specs.declared.hex.HexFault.{HexFault}
use Rattle.rules.specs.declared.hex.HexFault.TheVariants as fault
use Rattle.rules.specs.declared.hex.HexRefusal.{HexRefusal}
use Rattle.rules.specs.declared.hex.HexRefusal.TheVariants.{BadForm, AfterEnd}
use Rattle.rules.specs.Chip.{Memory}
use Rattle.rules.specs.Lines.{line, onto, lines_of, first_line}
use Rattle.rules.specs.Hex.{taken, taken_as, line_taken, Reading, reading, after_end, goes_on, read_lines}
use Rattle.text_cells.specs.OneFlash.{refusal_at}
use Rattle.text_read.proofs.Lines.{next_line, last_line}

-- a line with a fault, as its refusal
pub refused_line : (f : HexFault) (n : ℕ) (bs : List ℕ) (u : ℕ) (m : Memory) → taken (Refused (refusal_at n f)) u m ≡ taken_as (Err f) n bs u m
unfolding refusal_at taken_as
refused_line fault.BadForm n bs u m = refl
refused_line fault.WrongSum n bs u m = refl
refused_line fault.OtherType n bs u m = refl

-- what comes of the lines from `at` on
abbrev pub onward : List ℕ → ℕ → ℕ → ℕ → Memory → Reading
onward t at n u m = read_lines (lines_of (drop at t)).ended (lines_of (drop at t)).rest n u m

-- anything at all behind the end record
after_some : (r : List ℕ) (n : ℕ) (m : Memory) → 0 < length r → after_end (lines_of r).ended (lines_of r).rest n m ≡ reading (Refused (AfterEnd (n + 1))) m
unfolding after_end lines_of onto
after_some [] n m h = absurd (omega arith)
after_some (b ∷ t) n m h = go (eqb b 10) (lines_of t).ended
  where
    go : (x : Bool) (ls : List (List ℕ)) → after_end (cond x (line [] (lines_of t)) (onto b ls (lines_of t).rest)).ended (cond x (line [] (lines_of t)) (onto b ls (lines_of t).rest)).rest n m ≡ reading (Refused (AfterEnd (n + 1))) m
    go true ls = refl
    go false [] = refl
    go false (l ∷ ls) = refl

module _ (t : List ℕ) (at n u : ℕ) (m : Memory) where
  pub read_end : length t ≤ at → onward t at n u m ≡ reading On m
  unfolding read_lines lines_of
  read_end h = rw (drop_of_length-le t h)

  module _ (end : ℕ) (e : end ≡ at + length (first_line (drop at t))) where
    pub read_unended : at < length t → length t ≤ end → onward t at n u m ≡ reading (Refused (BadForm (n + 1))) m
    unfolding read_lines
    read_unended h g = rw (last_line t at end e g) (some (drop at t) (omega (arith, length-drop at t)))
      where
        some : (r : List ℕ) → 0 < length r → read_lines [] r n u m ≡ reading (Refused (BadForm (n + 1))) m
        some [] k = absurd (omega arith)
        some (b ∷ r) k = refl

    -- with what the line came to
    module _ (h : end < length t) (r : HexRead) (v : ℕ) (k : Memory) (p : taken r v k ≡ line_taken (n + 1) (take (end - at) (drop at t)) u m) where
      pub read_more : r ≡ On → onward t at n u m ≡ onward t (end + 1) (n + 1) v k
      unfolding read_lines goes_on
      read_more f = rw (next_line t at end e h, ← p, f)

      pub read_refused : (x : HexRefusal) → r ≡ Refused x → onward t at n u m ≡ reading (Refused x) k
      unfolding read_lines goes_on
      read_refused x f = rw (next_line t at end e h, ← p, f)

      pub read_ended : r ≡ Ended → length t ≤ end + 1 → onward t at n u m ≡ reading Ended k
      unfolding read_lines goes_on after_end lines_of
      read_ended f g = rw (next_line t at end e h, ← p, f, drop_of_length-le t g)

      pub read_after : r ≡ Ended → end + 1 < length t → onward t at n u m ≡ reading (Refused (AfterEnd (n + 2))) k
      unfolding read_lines goes_on
      read_after f g =
          let two : n + 1 + 1 ≡ n + 2 = omega arith in
          rw (next_line t at end e h, ← p, f) (after_some (drop (end + 1) t) (n + 1) k (omega (arith, length-drop (end + 1) t)) ∙ rw two)
