-- Rows over the bytes that a range shows are those of the order, where the range is there. Assumes nothing.
use mathlib.Core.Path.{◌≡◌, ap}
use mathlib.Core.List.{List}
use Prim.Native.Nat.{ℕ}
use Rattle.rules.specs.declared.Chip.{Chip}
use Rattle.rules.specs.declared.Flash.{Flash}
use Rattle.rules.specs.declared.Block.{Block}
use Rattle.rules.specs.declared.Options.{Options}
use Rattle.rules.specs.declared.Order.TheVariants.{BlankCheck}
use Rattle.rules.specs.Chip.{Memory, bytes_from}
use Rattle.rules.specs.Command.{order_checks}
use Rattle.chip_finder.specs.LentFlashes.{range_shown}
use Rattle.standin_verdict.specs.Ranges.{blank_rows}

pub blank_rows_lem : (chip : Chip) (o : Options) (m : Memory) (f : List ℕ) (g : Flash) (a b : Block) (tar : ℕ)
    → range_shown chip m g a b ≡ bytes_from m g a b
    → blank_rows o (range_shown chip m g a b) g a tar ≡ order_checks o m f (BlankCheck g a b tar)
unfolding blank_rows order_checks
blank_rows_lem chip o m f g a b tar e = ap (λ (bytes : List ℕ). blank_rows o bytes g a tar) e
