-- `sheet_moves::way::any_new` meets its contract: its test at each number of an entry. Assumes nothing.
use mathlib.Core.Path.{refl, ap, ◌∙◌}
use Prim.Native.Nat.{ℕ}
use native.Mathlib.Omega.{arith}
use Rattle.std.proofs.Common.{rules, tests}
use Rattle.std.proofs.lemmas.Iterator.{YieldsList-from_range}
use Rattle.std.proofs.lemmas.Iterator.Search.{any_from_yields_List}
use Rattle.rules.specs.Sheet.{kind_at}
use Rattle.rules.specs.Move.{is_new, any_new}
use Rattle.sheet_moves.proofs.Entries.{any_in_order}
use Rattle.sheet_moves.proofs.way.any_new.Goals as goal

pub returns : goal.returns
returns c =
    let s = c.args.sheet.now in
    let n = c.count.result in
    any_from_yields_List (λ (i : ℕ). is_new (kind_at s i)) _ _ _ c.any.ensures.ran (YieldsList-from_range 0 n n refl (omega arith)) (λ x b q k. search (rules, tests))
    ∙ any_in_order s 0 n
    ∙ ap (any_new s 0) c.count.ensures.0
