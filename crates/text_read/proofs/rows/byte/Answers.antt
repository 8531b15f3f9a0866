-- `text_read::rows::byte` meets its contract. Assumes nothing.
use mathlib.Core.Path.{sym, ap, ◌∙◌}
use mathlib.Core.List.{List}
use Prim.Native.Nat.{ℕ, ◌*◌}
use native.Mathlib.Omega.{arith}
use lib.ListN.{drop}
use Rattle.std.specs.Prelude.{Option}
use Rattle.std.specs.Option.{unwrap_or}
use Rattle.text_read.specs.Bytes.{below}
use Rattle.text_read.proofs.Digits.{byte_or_0}
use Rattle.text_read.proofs.Units.{value_none, value_at}
use Rattle.text_read.proofs.rows.byte.Goals as goal

pub returns-then-k-count : goal.returns-then-k-count
returns-then-k-count g c =
    let a = c.args in
    sym (value_none g.U.Unit.unit g.U.Unit.SIZE _ a.k a.row.now (omega arith))

pub returns : goal.returns
returns g c =
    let a = c.args in
    let u = g.U.Unit.unit in
    let n = g.U.Unit.SIZE in
    c.unwrap_or.ensures
    ∙ ap (λ (o : Option ℕ). unwrap_or o 0) (c.byte.ensures ∙ ap (λ (r : List ℕ). below 256 (u r)) c.rest.ensures)
    ∙ ap (λ (m : ℕ). unwrap_or (below 256 (u (drop (a.k * m) a.row.now))) 0) c.SIZE.ensures
    ∙ byte_or_0 _ (g.met.U.Unit.bounded _)
    ∙ sym (value_at u n _ a.k a.row.now (omega arith))
