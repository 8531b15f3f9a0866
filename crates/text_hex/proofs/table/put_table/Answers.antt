-- `text_hex::table::put_table` meets its contract: code flash before data flash. Assumes nothing.
use mathlib.Core.Path.{ap, ◌∙◌}
use mathlib.Core.List.{List, [], ◌++◌, append-nil}
use Rattle.rules.specs.declared.Flash.TheVariants.{Code, Data}
use Rattle.text_hex.specs.Gathered.{memory_of}
use Rattle.text_out.specs.Out.{out, add}
use Rattle.rules.specs.Hex.{Named, named_from, blocks_named, entries_of}
use Rattle.text_hex.proofs.NamedBlocks.{entries_none}
use Rattle.text_hex.proofs.table.put_table.Goals as goal

pub returns : goal.returns
unfolding blocks_named
returns c =
    let a = c.args in
    let m = memory_of a.cells.now in
    let d = named_from m Data 0 8 in
    let p2 = c.put_flash-end in
    let p1 = c.put_flash-next in
    entries_none p2.result.offset _
    ∙ p2.ensures.buf_after []
    ∙ p1.ensures.buf_after (d ++ [])
    ∙ ap (λ (x : List Named). add (entries_of a.offset (named_from m Code 0 16 ++ x)) (out a.at a.buf.now)) (append-nil d)
