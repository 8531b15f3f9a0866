-- Laws of the lines of a capture from a place on, with the end that `line_end` finds: one for each outcome. Assumes nothing.
use mathlib.Core.Path.{◌≡◌, refl, sym, ap}
use mathlib.Core.Bool.{Bool, true, false, cond}
use mathlib.Core.List.{List, [], ◌∷◌}
use Prim.Native.Nat.{ℕ, zero, suc, ◌+◌, ◌-◌, ◌<◌, ◌≤◌}
use native.Mathlib.Omega.{arith}
use lib.Dec.{eqb}
use lib.ListN.{length, take, drop, length-drop, drop_of_length-le}
use borrow.Author.Tests.{ne_eqb}
use Rattle.rules.specs.declared.Chip.{Chip}
use Rattle.rules.specs.declared.Options.{Options}
use Rattle.rules.specs.declared.Phase.TheVariants.{Silent}
use Rattle.rules.specs.declared.Task.TheVariants.{Idle}
use Rattle.rules.specs.declared.Refusal.{Refusal}
use Rattle.rules.specs.Answers as verdict
use Rattle.rules.specs.CaptureVerdicts.{Accepted, Wrong, BadForm, Refused}
use Rattle.rules.specs.Chip.{Memory, same}
use Rattle.rules.specs.Lines.{lines_of, first_line}
use Rattle.rules.specs.StandIn.{flash_verdict, received}
use Rattle.rules.specs.Capture.{power_sign, Heard, heard, stated, Looked, looked, given, is_line, fits, hears, judged, captured_by, captured, capture_number, capture_line}
use Rattle.standin_state.specs.declared.Core.{Core}
use Rattle.standin_state.specs.View.{resting}
use Rattle.standin_engine.specs.View.{view}
use Rattle.text_read.proofs.Lines.{next_line, last_line}

-- a line ends in its text
first_short : (t : List ℕ) → length (first_line t) ≤ length t
unfolding first_line
first_short [] = omega arith
first_short (b ∷ t) = go (eqb b 10) (first_short t)
  where
    go : (x : Bool) → length (first_line t) ≤ length t → length (cond x [] (b ∷ first_line t)) ≤ suc (length t)
    go true h = omega arith
    go false h = omega arith

pub ends_within : (t : List ℕ) (at end : ℕ) → end ≡ at + length (first_line (drop at t)) → at ≤ length t → end ≤ length t
ends_within t at end e h = omega (arith, first_short (drop at t), length-drop at t)

-- the verdict on what stands from `at` on
abbrev pub onward : Chip → List ℕ → ℕ → ℕ → Heard → Looked
onward chip t at n h = judged chip (lines_of (drop at t)).ended (lines_of (drop at t)).rest n h

-- a line fits, as the code asks it
pub fits_as : (n : ℕ) (due l : List ℕ) (r : Bool) → r ≡ same due (given l) → fits n due l ≡ cond (eqb n 0) (same l (power_sign ∷ [])) r
unfolding fits
fits_as zero due l r e = refl
fits_as (suc n) due l r e = rw (ne_eqb (suc n) 0 (λ z. omega (arith, z))) (sym e)

-- the lines from the first on, from the record of a chip whose power is off
pub from_rest : (chip : Chip) (t : List ℕ) (o : Options) (m : Memory) (c : Core) (buffer : List ℕ) → c ≡ resting Silent Idle o
    → judged chip (lines_of t).ended (lines_of t).rest 0 (stated o m) ≡ judged chip (lines_of t).ended (lines_of t).rest 0 (heard (view c buffer m) [])
unfolding received
from_rest chip t o m c buffer e = ap (λ (k : Core). judged chip (lines_of t).ended (lines_of t).rest 0 (heard (view k buffer m) [])) (sym e)

-- the call, by the verdict on what is lent
module _ (chip : Chip) (o : Options) (m : Memory) (t : List ℕ) where
  pub captured_refused : (n : Refusal) → flash_verdict chip (length m.code) (length m.«data») ≡ verdict.Refused n
      → captured chip o m t ≡ record { verdict = Refused n; options = o; memory = m }
  unfolding captured captured_by
  captured_refused n e = rw e

  pub captured_taken : flash_verdict chip (length m.code) (length m.«data») ≡ verdict.Accepted
      → captured chip o m t ≡ judged chip (lines_of t).ended (lines_of t).rest 0 (stated o m)
  unfolding captured captured_by
  captured_taken e = rw e

-- two that are the same have the same number and name the same line
pub numbered : (a b : Looked) → a ≡ b
    → (a ≡ b) × (capture_number a.verdict ≡ capture_number b.verdict) × (capture_line a.verdict ≡ capture_line b.verdict)
numbered a b e = (e, ap (λ (l : Looked). capture_number l.verdict) e, ap (λ (l : Looked). capture_line l.verdict) e)

module _ (chip : Chip) (t : List ℕ) (at n : ℕ) (h : Heard) where
  pub judge_end : length t ≤ at → fits n h.due [] ≡ true → onward chip t at n h ≡ looked Accepted h.state
  unfolding judged lines_of
  judge_end e f = rw (drop_of_length-le t e, f)

  pub judge_missing : length t ≤ at → fits n h.due [] ≡ false → onward chip t at n h ≡ looked (Wrong (n + 1)) h.state
  unfolding judged lines_of
  judge_missing e f = rw (drop_of_length-le t e, f)

  module _ (end : ℕ) (e : end ≡ at + length (first_line (drop at t))) where
    -- the line as the code has it, `&text[at..end]`
    abbrev pub line_at : List ℕ
    line_at = take (end - at) (drop at t)

    pub judge_unended : at < length t → length t ≤ end → onward chip t at n h ≡ looked (BadForm (n + 1)) h.state
    unfolding judged
    judge_unended k g = rw (last_line t at end e g) (some (drop at t) (omega (arith, length-drop at t)))
      where
        some : (r : List ℕ) → 0 < length r → judged chip [] r n h ≡ looked (BadForm (n + 1)) h.state
        some [] j = absurd (omega arith)
        some (b ∷ r) j = refl

    pub judge_bad : end < length t → is_line line_at ≡ false → onward chip t at n h ≡ looked (BadForm (n + 1)) h.state
    unfolding judged
    judge_bad k b = rw (next_line t at end e k, b)

    module _ (k : end < length t) (b : is_line line_at ≡ true) where
      pub judge_wrong : fits n h.due line_at ≡ false → onward chip t at n h ≡ looked (Wrong (n + 1)) h.state
      unfolding judged
      judge_wrong f = rw (next_line t at end e k, b, f)

      pub judge_more : fits n h.due line_at ≡ true → onward chip t at n h ≡ onward chip t (end + 1) (n + 1) (hears chip h.state line_at)
      unfolding judged
      judge_more f = rw (next_line t at end e k, b, f)
