-- `text_cells::cells::bytes_in` meets its contract. Assumes nothing.
use mathlib.Core.Path.{◌≡◌, sym, ap, ◌∙◌}
use mathlib.Core.List.{List, ◌++◌}
use Prim.Native.Nat.{ℕ, ◌+◌, ◌-◌}
use native.Mathlib.Omega.{arith}
use lib.ListN.{length, take, drop}
use Rattle.rules.specs.Answers.{On}
use Rattle.rules.specs.Lines.{pair_bytes}
use Rattle.rules.specs.Hex.{data_of, any_given, put_bytes}
use Rattle.text_cells.proofs.Given.{held_twice, held_put}
use Rattle.text_cells.proofs.cells.bytes_in.Goals as goal

pub returns-then-any_given : goal.returns-then-any_given
returns-then-any_given c =
    let a = c.args in
    let ds = data_of (pair_bytes a.row.now) in
    let e : length ds ≡ a.at + a.n - a.at = omega (arith, c.requires.0) in
    sym (held_twice a.number a.at ds a.cells.now (ap (λ (k : ℕ). any_given (take k (drop a.at a.cells.now))) e ∙ sym c.any_given.ensures ∙ c.if-any_given.true))

pub returns : goal.returns
unfolding put_bytes
returns c =
    let a = c.args in
    let ds = data_of (pair_bytes a.row.now) in
    let e : length ds ≡ a.at + a.n - a.at = omega (arith, c.requires.0) in
    ap (λ (cs : List ℕ). record { read = On; cells = take a.at a.cells.now ++ (cs ++ drop (a.at + a.n - a.at) (drop a.at a.cells.now)) }) c.put_bytes.ensures
    ∙ ap (λ (k : ℕ). record { read = On; cells = take a.at a.cells.now ++ (ds ++ drop k (drop a.at a.cells.now)) }) (sym e)
    ∙ sym (held_put a.number a.at ds a.cells.now (ap (λ (k : ℕ). any_given (take k (drop a.at a.cells.now))) e ∙ sym c.any_given.ensures ∙ c.if-any_given.false))
