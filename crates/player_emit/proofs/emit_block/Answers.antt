-- `player_emit::emit_block` meets its contract. Assumes nothing.
use mathlib.Core.Path.{◌∙◌}
use native.Mathlib.Omega.{arith}
use Rattle.rules.specs.Player.{block_command}
use Rattle.player_emit.proofs.EmittedInto.{gave_put, frame_room_lem}
use Rattle.player_emit.proofs.emit_block.Goals as goal

pub returns : goal.returns
returns c =
    let a = c.args in
    gave_put c.sending.result (block_command a.t a.p.at) a.frame.now (frame_room_lem _ _ _ a.frame.now (omega arith) c.requires.0) _ _ c.block_command.ensures
    ∙ rw c.sending.ensures
