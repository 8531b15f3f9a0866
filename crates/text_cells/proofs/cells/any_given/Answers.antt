-- `text_cells::cells::any_given` meets its contract. Assumes nothing.
use mathlib.Core.Path.{sym, ◌∙◌}
use borrow.Author.Rules.{rules}
use borrow.Author.Tests.{tests}
use lib.Dec.{ltb}
use Rattle.std.proofs.lemmas.Iterator.{YieldsList-from_slice}
use Rattle.std.proofs.lemmas.Iterator.Search.{any_from_yields_List}
use Rattle.text_cells.proofs.Given.{given_any}
use Rattle.text_cells.proofs.cells.any_given.Goals as goal

pub returns : goal.returns
returns c =
    let cs = c.args.cells.now in
    any_from_yields_List (λ x. ltb x 256) _ _ _ c.any.ensures.ran (YieldsList-from_slice cs cc) (λ x b q k. search (rules, tests)) ∙ sym (given_any cs)
