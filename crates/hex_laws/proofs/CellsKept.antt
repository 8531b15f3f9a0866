-- The cells of a text are as many as the small chip has bytes, whatever the text says. Assumes nothing.
use mathlib.Core.Path.{◌≡◌, ◌∙◌}
use mathlib.Core.Bool.{true}
use mathlib.Core.List.{List, [], ◌∷◌}
use Prim.Native.Nat.{ℕ, ◌+◌, ◌-◌, ◌≤◌}
use native.Mathlib.Omega.{arith}
use lib.Dec.{leb, eqb}
use lib.ListN.{length, take, drop, length-append, length-take, length-drop, length-replicate}
use borrow.Author.Tests.{leb-true}
use Rattle.rules.specs.declared.Flash.{Flash}
use Rattle.rules.specs.declared.Flash.TheVariants.{Code, Data}
use Rattle.rules.specs.HexLines.{HexLine}
use Rattle.rules.specs.HexLines as line
use Rattle.rules.specs.Answers.{HexRead, On, Ended, Refused}
use Rattle.rules.specs.Chip.{Memory, small, start, flash_size, flash_of, with_flash}
use Rattle.rules.specs.Lines.{lines_of, pair_bytes}
use Rattle.rules.specs.Hex.{without_cr, line_kind, not_given, no_cells, any_given, put_bytes, Taken, taken, lies_in, bytes_in, bytes_at, taken_as, line_taken, Reading, after_end, goes_on, read_lines, hex_read}
use Rattle.rules.proofs.Choices.{both, chosen}
use Rattle.chip_flash.proofs.Memories.{with_lengths}
use Rattle.joined_laws.specs.Turns.{Fit}

put_length : (at : ℕ) (bs cs : List ℕ) → at + length bs ≤ length cs → length (put_bytes at bs cs) ≡ length cs
unfolding put_bytes
put_length at bs cs h = simp (length-append, length-take, length-drop) (omega arith)

abbrev Kept : Taken → Type 0
Kept t = Fit small t.cells

module _ (n u : ℕ) (m : Memory) (fit : Fit small m) where
  in_kept : (f : Flash) (a : ℕ) (bs : List ℕ) → lies_in f a (length bs) ≡ true → Kept (bytes_in f n (a - start f) bs u m)
  unfolding bytes_in
  in_kept f a bs e =
      let p = both (leb (start f) a) (leb (a + length bs) (start f + flash_size small f)) e in
      let low = leb-true (start f) a p.0 in
      let high = leb-true (a + length bs) (start f + flash_size small f) p.1 in
      let l = put_length (a - start f) bs (flash_of m f) (omega (arith, fit f)) in
      chosen Kept (any_given (take (length bs) (drop (a - start f) (flash_of m f)))) _ (taken On u (with_flash m f (put_bytes (a - start f) bs (flash_of m f)))) (λ _. fit) (λ g. with_lengths m f _ g l ∙ fit g)

  at_kept : (a : ℕ) (bs : List ℕ) → Kept (bytes_at n a bs u m)
  unfolding bytes_at
  at_kept a bs =
      chosen Kept (eqb (length bs) 0) _ _ (λ _. fit)
      (chosen Kept (lies_in Code a (length bs)) _ _ (in_kept Code a bs) (chosen Kept (lies_in Data a (length bs)) _ _ (in_kept Data a bs) fit))

  as_kept : (k : HexLine) (bs : List ℕ) → Kept (taken_as k n bs u m)
  unfolding taken_as
  as_kept line.Bytes bs = at_kept _ _
  as_kept line.End bs = fit
  as_kept line.Upper bs = fit
  as_kept line.BadForm bs = fit
  as_kept line.WrongSum bs = fit
  as_kept line.OtherType bs = fit

after_kept : (ls : List (List ℕ)) (rest : List ℕ) (n : ℕ) (m : Memory) → Fit small m → Fit small (after_end ls rest n m).cells
unfolding after_end
after_kept [] [] n m fit = fit
after_kept [] (b ∷ rest) n m fit = fit
after_kept (l ∷ ls) rest n m fit = fit

goes_kept : (r : HexRead) (more end : ℕ → Reading) (m : Memory) → Fit small (more 0).cells → Fit small (end 0).cells → Fit small m
    → Fit small (goes_on r more end m).cells
unfolding goes_on
goes_kept On more end m p q fit = p
goes_kept Ended more end m p q fit = q
goes_kept (Refused h) more end m p q fit = fit

lines_kept : (ls : List (List ℕ)) (rest : List ℕ) (n u : ℕ) (m : Memory) → Fit small m → Fit small (read_lines ls rest n u m).cells
unfolding read_lines line_taken
lines_kept [] [] n u m fit = fit
lines_kept [] (b ∷ rest) n u m fit = fit
lines_kept (l ∷ ls) rest n u m fit =
    let t = line_taken (n + 1) l u m in
    let k : Fit small t.cells = as_kept (n + 1) u m fit (line_kind (without_cr l)) (pair_bytes (drop 1 (without_cr l))) in
    goes_kept t.read (λ z. read_lines ls rest (n + 1) t.upper t.cells) (λ z. after_end ls rest (n + 1) t.cells) t.cells
    (lines_kept ls rest (n + 1) t.upper t.cells k)
    (after_kept ls rest (n + 1) t.cells k)
    k

none_fit : Fit small no_cells
none_fit Code = length-replicate (flash_size small Code) not_given
none_fit Data = length-replicate (flash_size small Data) not_given

pub cells_fit : (text : List ℕ) → Fit small (hex_read text no_cells).cells
unfolding hex_read
cells_fit text = lines_kept (lines_of text).ended (lines_of text).rest 0 0 no_cells none_fit
