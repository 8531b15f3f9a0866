-- `player_emit::emit_in`: the step in hand has the block or page. Assumes nothing.
use Rattle.player_laws.proofs.PlaceInSheet.{block_found, page_found}
use Rattle.player_emit.proofs.emit_in.Goals as goal

pub emit_block-requires : goal.emit_block-requires
emit_block-requires c =
    let a = c.args in
    (c.requires.0, (block_found a.n a.t a.p c.requires.1 c.in-Block.is).2)

pub emit_page-requires : goal.emit_page-requires
emit_page-requires c =
    let a = c.args in
    (c.requires.0, (page_found a.n a.t a.p c.requires.1 c.in-Page.is).3)
