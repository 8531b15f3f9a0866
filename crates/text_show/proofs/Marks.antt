-- Laws of the map: a step more over a block, the pages and the rows that are left. Assumes nothing.
use mathlib.Core.Path.{◌≡◌}
use mathlib.Core.List.{List, [], ◌∷◌, ◌++◌}
use Prim.Native.Nat.{ℕ, suc, ◌+◌, ◌-◌, ◌*◌, ◌<◌, ◌≤◌}
use native.Mathlib.Omega.{arith}
use native.Mathlib.Numerals.{add-one}
use Rattle.rules.specs.declared.Chip.{Chip}
use Rattle.rules.specs.declared.Flash.{Flash}
use Rattle.rules.specs.declared.Flash.TheVariants.{Code}
use Rattle.rules.specs.Sheet.{step_at}
use Rattle.text_show.specs.Map.{mark_by, mark_after, page_mark, marks_from, row_text, row_pages, code_rows}

-- a step more
pub one_more_step : (chip : Chip) (s : List ℕ) (f : Flash) (b i : ℕ) → mark_after chip s f b (i + 1) ≡ mark_by (step_at chip s i) f b (mark_after chip s f b i)
unfolding mark_after
one_more_step chip s f b i = rw (add-one i)

-- the pages that are left, and none
module _ (chip : Chip) (s : List ℕ) (f : Flash) (k i n : ℕ) where
  pub one_page_lem : i < n → marks_from chip s f (k + i) (n - i) ≡ (page_mark chip s f (k + i) ∷ []) ++ marks_from chip s f (k + (i + 1)) (n - (i + 1))
  unfolding marks_from
  one_page_lem h =
      let e : n - i ≡ suc (n - (i + 1)) = omega arith in
      let g : k + i + 1 ≡ k + (i + 1) = omega arith in
      rw (e, g)

  pub no_page : n ≤ i → marks_from chip s f (k + i) (n - i) ≡ []
  unfolding marks_from
  no_page h = let e : n - i ≡ 0 = omega arith in rw e

-- the rows that are left, and none
module _ (chip : Chip) (s : List ℕ) (r n : ℕ) where
  pub one_row : r < n → code_rows chip s r (n - r) ≡ row_text chip s Code (r * row_pages) row_pages ++ code_rows chip s (r + 1) (n - (r + 1))
  unfolding code_rows
  one_row h = let e : n - r ≡ suc (n - (r + 1)) = omega arith in rw e

  pub no_row : n ≤ r → code_rows chip s r (n - r) ≡ []
  unfolding code_rows
  no_row h = let e : n - r ≡ 0 = omega arith in rw e
