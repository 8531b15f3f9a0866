-- `text_hex::table::put_named` meets its contract. Assumes nothing.
use mathlib.Core.Path.{sym, ap, ◌∙◌}
use mathlib.Core.List.{List, ◌++◌}
use Prim.Native.Nat.{◌+◌, ◌*◌}
use Rattle.rules.specs.Hex.{Named, named, entry_of, entries_of}
use Rattle.text_hex.specs.Gathered.{memory_of}
use Rattle.text_out.specs.Out.{out, add}
use Rattle.text_hex.proofs.NamedBlocks.{one_named, not_named, entries_one}
use Rattle.text_hex.proofs.table.put_named.Goals as goal

pub returns-then-not-is_named-clause-buf_after : goal.returns-then-not-is_named-clause-buf_after
returns-then-not-is_named-clause-buf_after c =
    let a = c.args in
    let m = memory_of a.cells.now in
    let e = sym c.is_named.ensures ∙ c.if-not-is_named.true in
    λ later. ap (λ (x : List Named). add (entries_of a.next.offset (x ++ later)) (out a.next.at a.buf.now)) (sym (not_named m a.f a.i e))

pub returns-clause-buf_after : goal.returns-clause-buf_after
returns-clause-buf_after c =
    let a = c.args in
    let m = memory_of a.cells.now in
    let e = sym c.is_named.ensures ∙ c.if-not-is_named.false in
    let p3 = c.put_entry-verified.ensures in
    let p2 = c.put_entry-written.ensures in
    let p1 = c.put_entry-erased.ensures in
    let n = named a.f a.i in
    let off = a.next.offset in
    let size = c.size_of-size.result in
    let start = out a.next.at a.buf.now in
    λ later.
    ap (add (entries_of (off + 2 * size) later)) (p3 ∙ ap (add (entry_of 3 n (off + size))) (p2 ∙ ap (add (entry_of 2 n off)) p1))
    ∙ entries_one a.f a.i later start off size c.size_of-size.ensures.0
    ∙ ap (λ (x : List Named). add (entries_of off (x ++ later)) start) (sym (one_named m a.f a.i e))
