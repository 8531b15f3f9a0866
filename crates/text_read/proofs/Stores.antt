-- Laws of bytes stored in a buffer, and of the sheet in hand. Assumes nothing.
use mathlib.Core.Path.{◌≡◌}
use mathlib.Core.Bool.{true, false}
use mathlib.Core.List.{List, ◌++◌, append_assoc}
use Prim.Native.Nat.{ℕ, ◌+◌, ◌<◌, ◌≤◌}
use native.Mathlib.Omega.{arith}
use lib.ListN.{length, take, drop}
use lib.Seq.{drop-drop}
use borrow.Author.Tests.{le-leb, lt-leb}
use Rattle.rules.specs.Text.{ascii}
use Rattle.rules.specs.Lines.{starts_with, row_bytes}
use Rattle.text_read.specs.declared.in_hand.InHand.{InHand}
use Rattle.text_read.specs.Bytes.{stored}
use Rattle.text_read.specs.Sheets.{grown, beginning, after_line}

module _ (at : ℕ) (bs b : List ℕ) where
  pub no_room : length b < at + length bs → stored at bs b ≡ record { end = at; bytes = b }
  unfolding stored
  no_room h = simp (lt-leb _ _ h)

  pub with_room : (n : ℕ) → n ≡ length bs → at + n ≤ length b → stored at bs b ≡ record { end = at + n; bytes = take at b ++ (bs ++ drop n (drop at b)) }
  unfolding stored
  with_room n e h =
      let g : at + length bs ≤ length b = omega arith in
      rw (e, drop-drop, ← append_assoc (take at b) bs (drop (at + length bs) b)) (simp (le-leb _ _ g))

module _ (h : InHand) (l b : List ℕ) where
  pub another_line : starts_with (ascii "sheet") l ≡ false → after_line h l b ≡ record { hand = record { growing = false; size = h.size }; bytes = b }
  unfolding after_line
  another_line e = simp e

  pub a_sheet_line : starts_with (ascii "sheet") l ≡ true → after_line h l b ≡ grown (stored (beginning h) (row_bytes (drop 5 l)) b)
  unfolding after_line
  a_sheet_line e = simp e
