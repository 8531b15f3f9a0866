-- `frame_judge::table::row_of` meets its contract: the first row with the code is the one that a look-up finds. Assumes nothing.
use Rattle.std.proofs.Common.{◌≡◌, ℕ, Option, Some, None, cond, eqb, Bool, true, false, List, [], ◌∷◌, refl, sym, ap, ◌∙◌, rules, tests}
use Rattle.std.specs.List.{find}
use Rattle.std.proofs.lemmas.Iterator.{YieldsList-from_slice}
use Rattle.std.proofs.lemmas.Iterator.Search.{find_from_yields_List}
use Rattle.rules.specs.Answers.{CodeRow, Row, Unknown}
use Rattle.rules.specs.Chip.{byte_at}
use Rattle.rules.specs.Command.{commands, rows, lookup}
use Rattle.frame_judge.proofs.table.row_of.Goals as goal

-- what a row of the table says
abbrev told : Option (List ℕ) → CodeRow
told (Some r) = Row (byte_at r 1) (byte_at r 2)
told None = Unknown

found : (code : ℕ) (xs : List (List ℕ)) → told (find (λ r. eqb (byte_at r 0) code) xs) ≡ lookup xs code
unfolding lookup
found code [] = refl
found code (x ∷ xs) = go (eqb (byte_at x 0) code) (found code xs)
  where
    go : (t : Bool) → told (find (λ r. eqb (byte_at r 0) code) xs) ≡ lookup xs code
        → told (cond t (Some x) (find (λ r. eqb (byte_at r 0) code) xs)) ≡ cond t (Row (byte_at x 1) (byte_at x 2)) (lookup xs code)
    go true later = refl
    go false later = later

-- what was found says what the look-up says
looked : (code : ℕ) (r : Option (List ℕ)) → r ≡ find (λ r. eqb (byte_at r 0) code) rows → told r ≡ lookup rows code
looked code r e = ap told e ∙ found code rows

pub returns-in_err-row : goal.returns-in_err-row
unfolding rows commands
returns-in_err-row c =
    let e : c.copied.result ≡ find (λ r. eqb (byte_at r 0) c.args.code) rows =
    c.copied.ensures
    ∙ find_from_yields_List (λ r. eqb (byte_at r 0) c.args.code) _ _ c.find.result c.find.ensures.ran (YieldsList-from_slice rows c.iter.ensures.rest) (λ x b q k. search (rules, tests)) in
    c.from_residual.ensures ∙ ap told (sym c.in_err-row.was) ∙ looked c.args.code c.copied.result e

pub returns : goal.returns
unfolding rows commands
returns c =
    let e : c.copied.result ≡ find (λ r. eqb (byte_at r 0) c.args.code) rows =
    c.copied.ensures
    ∙ find_from_yields_List (λ r. eqb (byte_at r 0) c.args.code) _ _ c.find.result c.find.ensures.ran (YieldsList-from_slice rows c.iter.ensures.rest) (λ x b q k. search (rules, tests)) in
    ap told (sym c.in_ok-row.was) ∙ looked c.args.code c.copied.result e
