-- `sheet::twice::written_twice` meets its contract: one step is too few, and of more nothing is marked yet. Assumes nothing.
use mathlib.Core.Path.{sym}
use native.Mathlib.Omega.{arith}
use Rattle.sheet.proofs.Fields.{heads}
use Rattle.sheet.proofs.Marks.{too_few}
use Rattle.sheet.proofs.twice.written_twice.Goals as goal

pub returns-then-sheet-lt2 : goal.returns-then-sheet-lt2
returns-then-sheet-lt2 c =
    sym (too_few c.args.sheet.bytes.now (omega (arith, (heads _ _ c.args.sheet.head_value).steps)))
