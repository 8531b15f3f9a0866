-- Laws of the lines of a text: the look for a line's end, and the lines from a place on. Assumes nothing.
use mathlib.Core.Path.{◌≡◌, refl, sym, ◌∙◌, ap}
use mathlib.Core.Bool.{Bool, true, false, cond}
use mathlib.Core.List.{List, [], ◌∷◌}
use Prim.Native.Nat.{ℕ, suc, ◌+◌, ◌-◌, ◌<◌, ◌≤◌}
use native.Mathlib.Nat.{not-suc-le-zero}
use native.Mathlib.Omega.{arith}
use lib.Dec.{eqb, ltb}
use lib.ListN.{length, take, drop, length-drop}
use lib.Seq.{drop-drop}
use borrow.Author.Tests.{ltb-false}
use Rattle.std.specs.Prelude.{Option, Some, None}
use Rattle.std.specs.Option.{unwrap_or}
use Rattle.std.specs.List.{position_or_len}
use Rattle.std.proofs.lemmas.List.Recursion.{is_position_or_len}
use Rattle.rules.specs.Lines.{Lines, line, onto, lines_of, first_line}

-- ---- a line's end, as the first place of an LF ----

pub first_line_place : (t : List ℕ) → length (first_line t) ≡ position_or_len (λ b. eqb b 10) t
unfolding first_line
first_line_place t = is_position_or_len (λ l. length (first_line l)) (λ b. eqb b 10) refl (λ b l. go b (eqb b 10) (first_line l)) t
  where
    go : (b : ℕ) (x : Bool) (l : List ℕ) → length (cond x [] (b ∷ l)) ≡ cond x 0 (1 + length l)
    go b true l = refl
    go b false l = omega arith

first_line_short : (t : List ℕ) → length (first_line t) ≤ length t
unfolding first_line
first_line_short [] = omega arith
first_line_short (b ∷ t) = go (eqb b 10) (first_line_short t)
  where
    go : (x : Bool) → length (first_line t) ≤ length t → length (cond x [] (b ∷ first_line t)) ≤ suc (length t)
    go true h = omega arith
    go false h = omega arith

-- the place that was found, or the end
pub first_or_end : (t : List ℕ) (r : Option ℕ)
    → r ≡ cond (ltb (position_or_len (λ b. eqb b 10) t) (length t)) (Some (position_or_len (λ b. eqb b 10) t)) None
    → unwrap_or r (length t) ≡ length (first_line t)
first_or_end t r e = ap (λ (x : Option ℕ). unwrap_or x (length t)) e ∙ go (ltb p (length t)) refl ∙ sym (first_line_place t)
  where
    p : ℕ
    p = position_or_len (λ b. eqb b 10) t

    go : (x : Bool) → ltb p (length t) ≡ x → unwrap_or (cond x (Some p) None) (length t) ≡ p
    go true q = refl
    go false q = let h = ltb-false _ _ q in omega (arith, h, first_line_short t, first_line_place t)

-- ---- the first line of a text, and its lines ----

-- `f` is the first line of `t`, and `ls` its lines
record Parted (t f : List ℕ) (ls : Lines) : Type 0 where
  part : take (length f) t ≡ f
  next : length f < length t → ls ≡ line f (lines_of (drop (suc (length f)) t))
  last : length t ≤ length f → ls ≡ record { ended = []; rest = t }

parted : (t : List ℕ) → Parted t (first_line t) (lines_of t)
unfolding first_line lines_of onto
parted [] = record { part = refl; next = λ h. absurd (not-suc-le-zero h); last = λ h. refl }
parted (b ∷ t) = go (eqb b 10) (parted t)
  where
    go : (x : Bool) → Parted t (first_line t) (lines_of t) → Parted (b ∷ t) (cond x [] (b ∷ first_line t)) (cond x (line [] (lines_of t)) (onto b (lines_of t).ended (lines_of t).rest))
    go true p = record { part = refl; next = λ h. refl; last = λ h. absurd (not-suc-le-zero h) }
    go false p = record {
      part = ap (λ (l : List ℕ). b ∷ l) p.part;
      next = λ h. rw (p.next (omega arith));
      last = λ h. rw (p.last (omega arith));
    }

-- ---- the lines from `at` on, with the end that `line_end` finds ----

module _ (t : List ℕ) (at end : ℕ) (e : end ≡ at + length (first_line (drop at t))) where
  -- a line that LF ends, and those behind it
  pub next_line : end < length t → lines_of (drop at t) ≡ line (take (end - at) (drop at t)) (lines_of (drop (end + 1) t))
  next_line h =
      let n : end - at ≡ length (first_line (drop at t)) = omega arith in
      let m : at + suc (length (first_line (drop at t))) ≡ end + 1 = omega arith in
      (parted (drop at t)).next (omega (arith, length-drop at t)) ∙ rw (n, (parted (drop at t)).part, drop-drop, m)

  -- what no LF ends
  pub last_line : length t ≤ end → lines_of (drop at t) ≡ record { ended = []; rest = drop at t }
  last_line h = (parted (drop at t)).last (omega (arith, length-drop at t))
