-- `text_read::rows::store` meets its contract: the row where there is room for it. Assumes nothing.
use mathlib.Core.Path.{◌≡◌, sym, ap, ◌∙◌}
use mathlib.Core.List.{List, ◌++◌}
use Prim.Native.Nat.{ℕ, ◌+◌, ◌-◌}
use native.Mathlib.Omega.{arith}
use lib.ListN.{take, drop}
use Rattle.rules.specs.Lines.{row_bytes}
use Rattle.text_read.proofs.Stores.{no_room, with_room}
use Rattle.text_read.proofs.rows.store.Goals as goal

pub returns-then-at-buffer : goal.returns-then-at-buffer
returns-then-at-buffer c =
    let a = c.args in
    sym (no_room a.at (row_bytes a.row.now) a.buffer.now (omega arith))

pub returns-then-count-buffer : goal.returns-then-count-buffer
returns-then-count-buffer c =
    let a = c.args in
    sym (no_room a.at (row_bytes a.row.now) a.buffer.now (omega arith))

pub returns : goal.returns
returns c =
    let a = c.args in
    let n = c.row_count-count.result in
    let e : a.at + n - a.at ≡ n = omega arith in
    ap (λ (bs : List ℕ). record { end = a.at + n; bytes = take a.at a.buffer.now ++ (bs ++ drop (a.at + n - a.at) (drop a.at a.buffer.now)) }) c.put.ensures
    ∙ ap (λ (k : ℕ). record { end = a.at + n; bytes = take a.at a.buffer.now ++ (row_bytes a.row.now ++ drop k (drop a.at a.buffer.now)) }) e
    ∙ sym (with_room a.at (row_bytes a.row.now) a.buffer.now n c.row_count-count.ensures (omega arith))
