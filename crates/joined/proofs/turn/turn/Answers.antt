-- `joined::turn::turn` meets its contract: its parts one after the other are a turn. Assumes nothing.
use mathlib.Core.Path.{ap, ◌∙◌}
use mathlib.Core.List.{List}
use Prim.Native.Nat.{ℕ}
use Rattle.standin.specs.Feeding.{fed_into}
use Rattle.player_absorb.specs.Absorbing.{absorbed_in}
use Rattle.joined.proofs.Turning.{answered, turn_made}
use Rattle.joined.proofs.turn.turn.Goals as goal

pub returns : goal.returns
returns c =
    let a = c.args in
    let g = c.emit-given in
    turn_made a.chip a.sheet.now _ c.requires _ _ _ g.ensures
    _ _ _ _ (c.feed-fed.ensures.answers_after ∙ ap (fed_into a.chip _ a.reply.now) c.first.ensures)
    _ (c.unwrap_or-arrived.ensures ∙ answered c.feed-fed.result.call)
    _ _ (c.absorb-player.ensures ∙ ap (λ (r : List ℕ). absorbed_in a.chip a.sheet.now g.result.player r a.sums.now) c.first-2.ensures)
