-- `player_emit::emit_first` meets its contract. Assumes nothing.
use mathlib.Core.Path.{◌∙◌}
use native.Mathlib.Omega.{arith}
use Rattle.rules.specs.Player.{first_command}
use Rattle.player_laws.proofs.Lengths.{first_short}
use Rattle.player_emit.proofs.EmittedInto.{gave_put}
use Rattle.player_emit.proofs.emit_first.Goals as goal

pub returns : goal.returns
returns c =
    let a = c.args in
    let new = first_command a.t.kind a.t in
    gave_put c.sending.result new a.frame.now (omega (arith, first_short a.t.kind a.t, c.requires)) _ _ c.first_command.ensures
    ∙ rw c.sending.ensures
