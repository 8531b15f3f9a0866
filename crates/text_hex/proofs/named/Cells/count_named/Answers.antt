-- `text_hex::named::Cells::count_named` meets its contract: the numbers of the blocks that are named, counted. Assumes nothing.
use mathlib.Core.Path.{◌≡◌, refl, ◌∙◌}
use native.Mathlib.Omega.{arith}
use borrow.Author.Rules.{rules}
use borrow.Author.Tests.{tests}
use Rattle.std.proofs.lemmas.Iterator.{YieldsList-from_range}
use Rattle.std.proofs.lemmas.Iterator.Consumers.{YieldsList-from_filter, count_from_yields_List}
use Rattle.rules.specs.Chip.{small, blocks}
use Rattle.rules.specs.Hex.{any_given, block_cells}
use Rattle.text_hex.specs.Gathered.{memory_of}
use Rattle.text_hex.proofs.NamedBlocks.{named_length}
use Rattle.text_hex.proofs.named.Cells.count_named.Goals as goal

pub returns : goal.returns
returns c =
    let a = c.args in
    let m = memory_of a.self.now in
    let n = c.count_of.result in
    let all = blocks small a.f in
    let k = count_from_yields_List _ _ c.count.ensures.ran (YieldsList-from_filter _ (λ i. any_given (block_cells m a.f i)) (YieldsList-from_range 0 n all (cc) (omega (arith, c.count_of.ensures.0))) refl (λ x b q h. search (rules, tests))) ∙ named_length m a.f 0 all in
    let end : c.filter.result.iter.end ≡ n = cc in
    (k, omega (arith, c.count.ensures.bound, end, c.count_of.ensures.1))
