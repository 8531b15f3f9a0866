-- `sheet_moves::put::put_up` meets its contract: what form 2 has before the count, the count, then the table. Assumes nothing.
use native.Mathlib.Omega.{arith}
use mathlib.Core.Path.{ap, ◌∙◌}
use lib.ListN.{take, drop}
use Rattle.rules.specs.Sheet.{count, table_end}
use Rattle.rules.specs.Move.{entries_moved}
use Prim.Native.Nat.{◌+◌}
use Rattle.text_out.specs.Out.{Out, out, add}
use Rattle.sheet_forms.proofs.Heads.{some_head}
use Rattle.sheet_moves.proofs.Entries.{up_put}
use Rattle.sheet_moves.proofs.put.put_up.Goals as goal

pub slice_bounds-put_bytes-end-2 : goal.slice_bounds-put_bytes-end-2
slice_bounds-put_bytes-end-2 c = omega (arith, some_head c.args.sheet.now)

pub returns : goal.returns
returns c =
    let a = c.args in
    let s = a.sheet.now in
    c.put_table.ensures
    ∙ ap (λ (o : Out). add (drop (table_end s) s) (add (entries_moved (λ n. n + 4) s 0 (count s)) o)) (c.put_bytes-entries.ensures ∙ ap (add (take 2 s)) c.put_bytes-counted.ensures)
    ∙ up_put s (out 0 a.buf.now)
