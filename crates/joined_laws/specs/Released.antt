-- 02, M-102, on the wire: "Release sets every option bit to 1 except IDEN, which keeps its value", and "a later power-on then goes to Ident".
-- Assumes nothing.
use Rattle.std.specs.Prelude.{ℕ, ◌≤◌, ◌≡◌, List, [], ◌∷◌}
use Rattle.rules.specs.declared.Chip.{Chip}
use Rattle.rules.specs.declared.Phase.TheVariants.{Speed, Ident, Command}
use Rattle.rules.specs.declared.Task.TheVariants.{Idle}
use Rattle.rules.specs.Options.{release}
use Rattle.rules.specs.Command.{ack}
use Rattle.rules.specs.StandIn.{State, rest, after_mode, feed, powered}
use Rattle.rules.specs.Player.{command}
use Rattle.joined_laws.specs.Hears.{hears}

-- A2h
abbrev pub release_bytes : List ℕ
release_bytes = 0x01 ∷ 0x01 ∷ 0xA2 ∷ 0x5D ∷ 0x03 ∷ []

-- a mode byte, and 9Ah
abbrev pub speed_at : ℕ → ℕ → ℕ → List ℕ
speed_at mode brt vdd = mode ∷ command (0x9A ∷ brt ∷ vdd ∷ [])

-- a mode byte that goes on to Speed, and "BRT is 0 to 3; VDD 10h to 37h"
pub record Good (mode brt vdd : ℕ) : Type 0 where
  pub goes : after_mode mode ≡ Speed
  pub slow : brt ≤ 3
  pub low : 0x10 ≤ vdd
  pub high : vdd ≤ 0x37

-- powered on again, with the options and the flash that it has, the stand-in asks for the ID
abbrev pub AsksAgain : Chip → State → Type 0
AsksAgain chip s =
    (mode brt vdd : ℕ) → Good mode brt vdd
    → (feed chip (powered s.options s.memory) (speed_at mode brt vdd)).state.phase ≡ Ident

-- RELEASED: where A2h is answered with ACK, the options are the released ones, flash stands and the phase is Command as before; the next
-- power-on leads to Ident
abbrev pub StillAsks : Chip → State → Type 0
StillAsks chip s =
    let heard = hears chip s release_bytes in
    heard.answer ≡ ack
    → (heard.state ≡ rest Command Idle (release s.options) s.memory) × AsksAgain chip heard.state
