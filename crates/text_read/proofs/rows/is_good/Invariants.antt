-- `text_read::rows::is_good` meets its contract: the units that are left decide. Assumes nothing.
use mathlib.Core.Path.{◌≡◌}
use Prim.Native.Nat.{◌-◌, ◌*◌, ◌≤◌}
use lib.ListN.{drop}
use Rattle.rules.specs.Lines.{all_good}
use Rattle.text_read.specs.Bytes.{is_good}
use Rattle.text_read.proofs.rows.is_good.Given as goal

abbrev pub invariant-loop-k : goal.invariant-loop-k
invariant-loop-k g l =
    (l.k ≤ l.k-end)
    × (is_good g.U.Unit.unit g.U.Unit.SIZE l.row ≡ all_good g.U.Unit.unit g.U.Unit.SIZE (l.k-end - l.k) (drop (l.k * g.U.Unit.SIZE) l.row))
