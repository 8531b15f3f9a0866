-- Laws of the chip that a line names, an outcome each. Assumes nothing.
use mathlib.Core.Path.{◌≡◌}
use mathlib.Core.Bool.{true, false}
use mathlib.Core.List.{List}
use Prim.Native.Nat.{ℕ, ◌+◌}
use lib.ListN.{get_or, drop}
use borrow.Author.Tests.{eq-eqb, ne_eqb}
use Rattle.rules.specs.Chip.{small, large, same}
use Rattle.rules.specs.Text.{ascii}
use Rattle.rules.specs.Lines.{between}
use Rattle.text_read.specs.Answers.{Is, NoChip}
use Rattle.text_read.specs.Numerals.{decimal_of}
use Rattle.text_read.specs.Chips.{space_in, counts_of, counts_named, chip_named}

module _ (t : List ℕ) where
  pub space_1 : get_or t 1 0 ≡ 0x20 → space_in t ≡ 1
  unfolding space_in
  space_1 e = simp (eq-eqb _ _ e)

  module _ (n : get_or t 1 0 ≡ 0x20 → ⊥) where
    pub space_2 : get_or t 2 0 ≡ 0x20 → space_in t ≡ 2
    unfolding space_in
    space_2 e = simp (ne_eqb _ _ n, eq-eqb _ _ e)

    pub space_3 : (get_or t 2 0 ≡ 0x20 → ⊥) → space_in t ≡ 3
    unfolding space_in
    space_3 m = simp (ne_eqb _ _ n, ne_eqb _ _ m)

  pub names_small : same t (ascii "small") ≡ true → chip_named t ≡ Is small
  unfolding chip_named
  names_small e = rw e

  module _ (a : same t (ascii "small") ≡ false) where
    pub names_large : same t (ascii "large") ≡ true → chip_named t ≡ Is large
    unfolding chip_named
    names_large e = rw (a, e)

    pub names_counts : same t (ascii "large") ≡ false → chip_named t ≡ counts_named t
    unfolding chip_named
    names_counts b = rw (a, b)

  pub counts_none : (get_or t (space_in t) 0 ≡ 0x20 → ⊥) → counts_named t ≡ NoChip
  unfolding counts_named
  counts_none n = simp (ne_eqb (get_or t (space_in t) 0) 0x20 n)

  pub counts_some : get_or t (space_in t) 0 ≡ 0x20
      → counts_named t ≡ counts_of (decimal_of 255 (between 0 (space_in t) t)) (decimal_of 255 (drop (space_in t + 1) t))
  unfolding counts_named
  counts_some e = simp (eq-eqb (get_or t (space_in t) 0) 0x20 e)
