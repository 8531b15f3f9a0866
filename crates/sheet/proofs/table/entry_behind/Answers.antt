-- `sheet::table::entry_behind` meets its contract: an entry that is all there, or its bytes with zeros behind them. Assumes nothing.
use Rattle.std.proofs.Common.{ap, ◌∙◌, arith}
use Rattle.sheet.specs.Entry.{fields_of}
use Rattle.sheet.proofs.Fields.{same_fields}
use Rattle.sheet.proofs.table.entry_behind.Goals as goal

pub returns : goal.returns
returns c =
    let l = c.loop-k in
    c.whole_entry-2.ensures
    ∙ same_fields _ c.from_entry-rest.result.now (λ j h. l.invariant.1 j (omega arith))
    ∙ ap fields_of c.from_entry-rest.ensures
