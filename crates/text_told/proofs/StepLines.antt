-- Laws of the lines of a play: one law for each outcome of a step's line, and one line more. Assumes nothing.
use mathlib.Core.Path.{◌≡◌}
use mathlib.Core.Bool.{true, false}
use Prim.Native.Nat.{ℕ, suc, ◌+◌, ◌-◌, ◌<◌, ◌≤◌}
use mathlib.Core.List.{List, [], ◌++◌}
use native.Mathlib.Omega.{arith}
use lib.ListN.{get_or}
use borrow.Author.Tests.{lt-ltb, le-ltb, eq-eqb, ne_eqb}
use Rattle.rules.specs.declared.Chip.{Chip}
use Rattle.rules.specs.declared.Report.{Report}
use Rattle.rules.specs.declared.Status.TheVariants.{Byte}
use Rattle.rules.specs.Sheet.{step_at}
use Rattle.rules.specs.Text.{step_line, stopped, line_at, lines_from}

module _ (chip : Chip) (s : List ℕ) (r : Report) (sums frames : List ℕ) (i : ℕ) where
  pub line_finished : i < r.steps
      → line_at chip s r sums frames i ≡ step_line (i + 1) (step_at chip s i).kind (Byte 0x06) (get_or frames i 0) (get_or sums i 0)
  unfolding line_at
  line_finished h = rw (lt-ltb i r.steps h)

  pub line_none : r.steps < i → line_at chip s r sums frames i ≡ []
  unfolding line_at
  line_none h = rw (le-ltb i r.steps (omega arith), ne_eqb i r.steps (omega arith))

  module _ (last : i ≡ r.steps) where
    pub line_stopped : stopped r.status ≡ true
        → line_at chip s r sums frames i ≡ step_line (i + 1) (step_at chip s i).kind r.status (get_or frames i 0) 0
    unfolding line_at
    line_stopped e = rw (le-ltb i r.steps (omega arith), eq-eqb i r.steps last, e)

    pub line_not_begun : stopped r.status ≡ false → line_at chip s r sums frames i ≡ []
    unfolding line_at
    line_not_begun e = rw (le-ltb i r.steps (omega arith), eq-eqb i r.steps last, e)

  -- the first of the lines that are left
  pub one_more : (n : ℕ) → i < n
      → lines_from chip s r sums frames i (n - i)
      ≡ line_at chip s r sums frames i ++ lines_from chip s r sums frames (i + 1) (n - (i + 1))
  unfolding lines_from
  one_more n h =
      let e : n - i ≡ suc (n - (i + 1)) = omega arith in
      rw e

  -- and none
  pub none_left : (n : ℕ) → n ≤ i → lines_from chip s r sums frames i (n - i) ≡ []
  unfolding lines_from
  none_left n h =
      let e : n - i ≡ 0 = omega arith in
      rw e
