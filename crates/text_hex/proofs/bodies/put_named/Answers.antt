-- `text_hex::bodies::put_named` meets its contract. Assumes nothing.
use mathlib.Core.Path.{sym, ap, ◌∙◌}
use mathlib.Core.List.{List, ◌++◌}
use Prim.Native.Nat.{ℕ}
use Rattle.rules.specs.Hex.{Named, cell_bytes, bodies_of}
use Rattle.text_hex.specs.Gathered.{memory_of}
use Rattle.text_out.specs.Out.{out, add}
use Rattle.text_hex.proofs.NamedBlocks.{one_named, not_named, bodies_one}
use Rattle.text_hex.proofs.bodies.put_named.Goals as goal

pub returns-then-not-is_named : goal.returns-then-not-is_named
returns-then-not-is_named c =
    let a = c.args in
    let m = memory_of a.cells.now in
    let e = sym c.is_named.ensures ∙ c.if-not-is_named.true in
    λ later. ap (λ (x : List Named). add (bodies_of m (x ++ later)) (out a.at a.buf.now)) (sym (not_named m a.f a.i e))

pub returns : goal.returns
returns c =
    let a = c.args in
    let m = memory_of a.cells.now in
    let e = sym c.is_named.ensures ∙ c.if-not-is_named.false in
    let p2 = c.put_body.ensures in
    let p1 = c.put_body-written.ensures in
    let start = out a.at a.buf.now in
    λ later.
    ap (add (bodies_of m later)) (p2 ∙ ap (add (cell_bytes c.of_block-body.result.now)) p1)
    ∙ ap (λ (q : List ℕ). add (bodies_of m later) (add (cell_bytes q) (add (cell_bytes q) start))) c.of_block-body.ensures
    ∙ bodies_one a.f a.i later start m
    ∙ ap (λ (x : List Named). add (bodies_of m (x ++ later)) start) (sym (one_named m a.f a.i e))
