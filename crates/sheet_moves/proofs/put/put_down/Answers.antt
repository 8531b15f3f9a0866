-- `sheet_moves::put::put_down` meets its contract: the count, then the table. Assumes nothing.
use mathlib.Core.Path.{ap, ◌∙◌}
use lib.ListN.{drop}
use Rattle.rules.specs.Sheet.{count, table_end}
use Rattle.rules.specs.Move.{entries_moved}
use Prim.Native.Nat.{◌-◌}
use Rattle.text_out.specs.Out.{Out, out, add}
use Rattle.sheet_moves.proofs.Entries.{down_put}
use Rattle.sheet_moves.proofs.put.put_down.Goals as goal

pub returns : goal.returns
returns c =
    let a = c.args in
    let s = a.sheet.now in
    c.put_table.ensures
    ∙ ap (λ (o : Out). add (drop (table_end s) s) (add (entries_moved (λ n. n - 4) s 0 (count s)) o)) c.put_bytes-entries.ensures
    ∙ down_put s (out 0 a.buf.now)
