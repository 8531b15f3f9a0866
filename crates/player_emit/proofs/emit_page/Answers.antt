-- `player_emit::emit_page` meets its contract. Assumes nothing.
use mathlib.Core.Path.{sym, ap, ◌∙◌}
use lib.ListN.{length}
use Rattle.rules.specs.declared.Player.{Player}
use Rattle.rules.specs.Chip.{over}
use Rattle.rules.specs.Player.{page_frame, emit_by}
use Rattle.player_emit.specs.Emitting.{emitting}
use Rattle.player_emit.proofs.EmittedInto.{gave_put, page_is, page_short}
use Rattle.player_emit.proofs.emit_page.Goals as goal

pub returns : goal.returns
unfolding emit_by
returns c =
    let a = c.args in
    let new = page_frame a.sheet.now a.t a.p.at in
    gave_put c.sending.result new a.frame.now (page_short a.sheet.now a.t a.p.at a.frame.now c.requires.0) _ _ c.page_frame.ensures
    ∙ ap (λ (q : Player). emitting q (length new) (over new a.frame.now)) c.sending.ensures
    ∙ sym (page_is a.kind a.sheet.now a.t a.p a.frame.now (sym c.page_there.ensures ∙ c.if-not-page_there.false))
