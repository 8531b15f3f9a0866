-- `text_cells::take_line` meets its contract: by the kind of the line. Assumes nothing.
use mathlib.Core.Path.{◌≡◌, sym, ap, ◌∙◌}
use Rattle.std.specs.Prelude.{Ok}
use Rattle.rules.specs.declared.hex.HexLine.{HexLine as Record}
use Rattle.rules.specs.HexLines.{Bytes}
use Rattle.rules.specs.Hex.{line_kind, taken_as, line_taken}
use Rattle.text_record.proofs.Records.{bytes_length}
use Rattle.text_cells.proofs.take_line.Goals as goal

pub bytes_at-requires-clause-row_len : goal.bytes_at-requires-clause-row_len
bytes_at-requires-clause-row_len c =
    let l = c.without_cr-line.result.now in
    let e : line_kind l ≡ Bytes = sym c.kind_of.ensures ∙ c.in-Ok.is ∙ ap (λ (k : Record). Ok k) c.in-Bytes.is in
    rw c.rest-row.ensures (bytes_length l e)

pub returns-in-Bytes-clause-data_after : goal.returns-in-Bytes-clause-data_after
unfolding line_taken taken_as
returns-in-Bytes-clause-data_after c =
    rw (← c.without_cr-line.ensures, ← c.kind_of.ensures, c.in-Ok.is, c.in-Bytes.is, ← c.rest-row.ensures, ← c.pairs_byte.ensures, ← c.pairs_byte-in-Bytes.ensures, ← c.joined-offset.ensures.0) (c.bytes_at.ensures c.args.upper.now)
