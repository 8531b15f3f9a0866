-- Laws of the entry that breaks a rule: this one, or the first of those behind it. Assumes nothing.
use mathlib.Core.Path.{◌≡◌}
use mathlib.Core.Bool.{true, false}
use mathlib.Core.List.{List}
use Prim.Native.Nat.{ℕ, suc, ◌+◌, ◌-◌, ◌<◌, ◌≤◌}
use native.Mathlib.Omega.{arith}
use Rattle.rules.specs.declared.Refusal.{Refusal}
use Rattle.rules.specs.declared.Refusal.TheVariants.{D0}
use Rattle.rules.specs.Answers.{Verdict, Accepted, Refused}
use Rattle.text_show.specs.Refused.{breaks, first_to_break}

module _ (r : Refusal) (s : List ℕ) (i n : ℕ) where
  pub this_breaks : i < n → breaks r s i ≡ true → first_to_break r s i (n - i) ≡ i
  unfolding first_to_break
  this_breaks h b = let e : n - i ≡ suc (n - (i + 1)) = omega arith in rw (e, b)

  pub later_breaks : i < n → breaks r s i ≡ false → first_to_break r s i (n - i) ≡ first_to_break r s (i + 1) (n - (i + 1))
  unfolding first_to_break
  later_breaks h b = let e : n - i ≡ suc (n - (i + 1)) = omega arith in rw (e, b)

  pub none_breaks : n ≤ i → first_to_break r s i (n - i) ≡ i
  unfolding first_to_break
  none_breaks h = let e : n - i ≡ 0 = omega arith in rw e

-- the refusal of a verdict, by which two refused ones are compared
abbrev pub refusal_of : Verdict → Refusal
refusal_of Accepted = D0
refusal_of (Refused n) = n
