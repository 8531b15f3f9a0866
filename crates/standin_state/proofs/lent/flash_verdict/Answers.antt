-- `standin_state::lent::flash_verdict` meets its contract: the one chip, the other, or D0. Assumes nothing.
use mathlib.Core.Path.{◌≡◌, refl, sym, ap, ◌∙◌}
use mathlib.Core.Bool.{false}
use Rattle.rules.specs.declared.Chip.{Chip}
use Rattle.rules.specs.Chip.{small, large, same_counts, known}
use Rattle.rules.specs.StandIn.{flash_verdict}
use Rattle.chip_finder.proofs.Known.{same_chip, is_small, is_large, not_small}
use Rattle.standin_state.proofs.Lending.{no_chip}
use Rattle.standin_state.proofs.lent.flash_verdict.Goals as goal

pub sizes_verdict-requires : goal.sizes_verdict-requires
sizes_verdict-requires c = ap known c.small-small.ensures ∙ is_small small refl

pub returns-then-same_counts : goal.returns-then-same_counts
returns-then-same_counts c =
    let a = c.args in
    c.sizes_verdict.ensures
    ∙ ap (λ (k : Chip). flash_verdict k a.code a.«data») (sym (same_chip _ _ (sym c.same_counts.ensures ∙ c.if-same_counts.true)))

pub sizes_verdict-requires-then-same_counts-2 : goal.sizes_verdict-requires-then-same_counts-2
sizes_verdict-requires-then-same_counts-2 c = ap known c.large-large.ensures ∙ is_large large refl

pub returns-then-same_counts-2 : goal.returns-then-same_counts-2
returns-then-same_counts-2 c =
    let a = c.args in
    c.sizes_verdict-then-same_counts-2.ensures
    ∙ ap (λ (k : Chip). flash_verdict k a.code a.«data») (sym (same_chip _ _ (sym c.same_counts-2.ensures ∙ c.if-same_counts-2.true)))

pub returns : goal.returns
returns c =
    let a = c.args in
    let first : same_counts a.chip small ≡ false = ap (λ (k : Chip). same_counts a.chip k) (sym c.small-small.ensures) ∙ sym c.same_counts.ensures ∙ c.if-same_counts.false in
    let second : same_counts a.chip large ≡ false = ap (λ (k : Chip). same_counts a.chip k) (sym c.large-large.ensures) ∙ sym c.same_counts-2.ensures ∙ c.if-same_counts-2.false in
    no_chip _ _ _ (not_small a.chip first ∙ second)
