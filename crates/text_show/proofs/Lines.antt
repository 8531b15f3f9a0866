-- Laws of lines: an address, the steps that are left, and the frames of those that are left. Assumes nothing.
use mathlib.Core.Path.{◌≡◌, sym, ap, ◌∙◌}
use mathlib.Core.List.{List, [], ◌∷◌, ◌++◌}
use Prim.Native.Nat.{ℕ, suc, ◌+◌, ◌-◌, ◌/◌, ◌%◌, ◌<◌, ◌≤◌}
use native.Mathlib.Omega.{arith}
use Rattle.rules.specs.declared.Chip.{Chip}
use Rattle.rules.specs.Run.{most_frames, most_from}
use Rattle.rules.specs.Sheet.{step_at}
use Rattle.rules.specs.Text.{hex_digit, hex4}
use Rattle.text_out.specs.Out.{Out, add}
use Rattle.text_out.proofs.Appended.{add_append}
use Rattle.text_show.specs.Words.{hex5}
use Rattle.text_show.specs.Steps.{step_text, steps_from}

-- ---- an address ----

-- the low four digits are those of the low word
hex4_low : (n : ℕ) → hex4 (n % 65536) ≡ hex4 n
hex4_low n =
    let a : n % 65536 / 4096 % 16 ≡ n / 4096 % 16 = omega arith in
    let b : n % 65536 / 256 % 16 ≡ n / 256 % 16 = omega arith in
    let c : n % 65536 / 16 % 16 ≡ n / 16 % 16 = omega arith in
    let d : n % 65536 % 16 ≡ n % 16 = omega arith in
    rw (a, b, c, d)

-- the first digit, and those four
pub address_put : (n d : ℕ) (o p q : Out) → d ≡ hex_digit (n / 65536) → p ≡ add (d ∷ []) o → q ≡ add (hex4 (n % 65536)) p → q ≡ add (hex5 n) o
unfolding hex5
address_put n d o p q e f g =
    g ∙ ap (λ (t : List ℕ). add t p) (hex4_low n) ∙ ap (λ (x : Out). add (hex4 n) x) (f ∙ ap (λ (x : ℕ). add (x ∷ []) o) e)
    ∙ sym (add_append (hex_digit (n / 65536) ∷ []) (hex4 n) o)

-- ---- the steps that are left, and none ----

module _ (chip : Chip) (s : List ℕ) (i n : ℕ) where
  pub one_step : i < n → steps_from chip s i (n - i) ≡ step_text (i + 1) (step_at chip s i) ++ steps_from chip s (i + 1) (n - (i + 1))
  unfolding steps_from
  one_step h = let e : n - i ≡ suc (n - (i + 1)) = omega arith in rw e

  pub no_step : n ≤ i → steps_from chip s i (n - i) ≡ []
  unfolding steps_from
  no_step h = let e : n - i ≡ 0 = omega arith in rw e

  pub one_sends : i < n → most_from chip s i (n - i) ≡ most_frames (step_at chip s i) + most_from chip s (i + 1) (n - (i + 1))
  unfolding most_from
  one_sends h = let e : n - i ≡ suc (n - (i + 1)) = omega arith in rw e

  pub none_sends : n ≤ i → most_from chip s i (n - i) ≡ 0
  unfolding most_from
  none_sends h = let e : n - i ≡ 0 = omega arith in rw e
