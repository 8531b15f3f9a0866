-- `text_hex::bodies::put_bodies` meets its contract: code flash before data flash. Assumes nothing.
use mathlib.Core.Path.{ap, ◌∙◌}
use mathlib.Core.List.{List, [], ◌++◌, append-nil}
use Rattle.rules.specs.declared.Flash.TheVariants.{Code, Data}
use Rattle.text_hex.specs.Gathered.{memory_of}
use Rattle.text_out.specs.Out.{out, add}
use Rattle.rules.specs.Hex.{Named, named_from, blocks_named, bodies_of}
use Rattle.text_hex.proofs.NamedBlocks.{bodies_none}
use Rattle.text_hex.proofs.bodies.put_bodies.Goals as goal

pub returns : goal.returns
unfolding blocks_named
returns c =
    let a = c.args in
    let m = memory_of a.cells.now in
    let d = named_from m Data 0 8 in
    let p2 = c.put_flash in
    let p1 = c.put_flash-next in
    bodies_none m _
    ∙ p2.ensures []
    ∙ p1.ensures (d ++ [])
    ∙ ap (λ (x : List Named). add (bodies_of m (named_from m Code 0 16 ++ x)) (out a.at a.buf.now)) (append-nil d)
