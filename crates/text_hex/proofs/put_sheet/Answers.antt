-- `text_hex::put_sheet` meets its contract: count, table, bodies. Assumes nothing.
use mathlib.Core.Path.{ap, ◌∙◌}
use Prim.Native.Nat.{◌+◌, ◌*◌}
use Rattle.text_hex.specs.Gathered.{memory_of}
use Rattle.text_out.specs.Out.{out, add}
use Rattle.rules.specs.Hex.{blocks_named, entries_of, bodies_of}
use Rattle.text_hex.proofs.NamedBlocks.{sheet_put}
use Rattle.text_hex.proofs.put_sheet.Goals as goal

pub returns : goal.returns
returns c =
    let a = c.args in
    let m = memory_of a.cells.now in
    let p3 = c.put_bodies.ensures in
    let p2 = c.put_table-tabled.ensures in
    let p1 = c.put_count-counted.ensures in
    p3
    ∙ ap (add (bodies_of m (blocks_named m))) (p2 ∙ ap (add (entries_of (2 + 36 * a.n) (blocks_named m))) p1)
    ∙ sheet_put m a.n c.requires.0 (out 0 a.buf.now)
