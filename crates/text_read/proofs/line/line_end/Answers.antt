-- `text_read::line::line_end` meets its contract: the first LF, or the end. Assumes nothing.
use mathlib.Core.Path.{ap, ◌∙◌}
use mathlib.Core.List.{List}
use Prim.Native.Nat.{ℕ, ◌+◌}
use borrow.Author.Rules.{rules}
use borrow.Author.Tests.{tests}
use lib.Dec.{eqb}
use lib.ListN.{length}
use Rattle.std.proofs.lemmas.Iterator.{YieldsList-from_slice}
use Rattle.std.proofs.lemmas.Iterator.Search.{position_from_yields_List}
use Rattle.rules.specs.Lines.{first_line}
use Rattle.text_read.proofs.Lines.{first_or_end}
use Rattle.text_read.proofs.line.line_end.Goals as goal

pub returns : goal.returns
returns c =
    let r = c.rest-rest.result.now in
    let p = position_from_yields_List (λ b. eqb b 10) _ _ _ c.position.ensures.ran (YieldsList-from_slice r cc) (λ x b q k. search (rules, tests)) in
    ap (λ (n : ℕ). c.args.from + n) (c.unwrap_or.ensures ∙ first_or_end r _ p ∙ ap (λ (l : List ℕ). length (first_line l)) c.rest-rest.ensures)
