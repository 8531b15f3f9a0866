-- What the lines of a script do to the chip. Assumes nothing.
use Rattle.std.specs.Prelude.{ℕ, Bool, true, false, cond, List}
use Rattle.rules.specs.Answers.{Call, Refused, Answer}
use Rattle.rules.specs.declared.Flash.{Flash}
use Rattle.rules.specs.Chip.{Memory, flash_of, with_flash}
use Rattle.rules.specs.StandIn.{State, Powered}
use Rattle.text_read.specs.Bytes.{stored}

-- bytes stored in one flash from a place on, if they all lie in it
unfoldable pub stored_in : Flash → ℕ → List ℕ → Memory → Memory
stored_in f at bs m = with_flash m f (stored at bs (flash_of m f)).bytes

-- a power-on: what it left and answered; the power is on where it was not refused
abbrev pub powered : State → Call → Powered
powered st call = record { state = st; call = call }

abbrev pub refused_call : Call → Bool
refused_call (Refused n) = true
refused_call (Answer k) = false

abbrev pub on_after : Call → Bool → Bool
on_after call before = cond (refused_call call) before true
