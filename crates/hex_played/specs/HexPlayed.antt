-- 02, M-103, THE THEOREM of a HEX text, in the code: results of `make`, of `play` and, from a power-on, of `power_on` and `open` (or `feed`), each
-- known by what its call promises, leave the flashes programmed with the text's bytes. Assumes nothing.
use Rattle.std.specs.Prelude.{ℕ, ◌≤◌, ◌≡◌, true, List, length, take}
use Rattle.rules.specs.declared.Options.{Options}
use Rattle.rules.specs.declared.Stage.TheVariants.{Over}
use Rattle.rules.specs.Answers.{Accepted, HexMade, Sheet}
use Rattle.rules.specs.Chip.{Memory, small, ident_of}
use Rattle.rules.specs.Options.{IFPR}
use Rattle.rules.specs.Numbers.{call_number}
use Rattle.rules.specs.Sheet.{count}
use Rattle.rules.specs.StandIn.{State, power_on}
use Rattle.rules.specs.Hex.{Making, hex_made}
use Rattle.rules.specs.Player.{new_player}
use Rattle.rules.specs.Run.{Joined, joined_at_start, waits}
use Rattle.chip_finder.specs.LentFlashes.{memory}
use Rattle.standin_engine.specs.View.{view}
use Rattle.standin.specs.declared.call.Device.{Device}
use Rattle.standin.specs.declared.call.PoweredOn.{PoweredOn}
use Rattle.standin.specs.declared.feeding.Fed.{Fed}
use Rattle.standin.specs.Shows.{shows, powered_as}
use Rattle.standin.specs.Feeding.{fed_as, fed_into}
use Rattle.standin.specs.Opening.{opening_room, opening_verdict, opened}
use Rattle.joined_laws.specs.Turns.{Fit, Settled, end_of}
use Rattle.joined.specs.Answers.{Answer}
use Rattle.joined.specs.Answers as answer
use Rattle.joined.specs.declared.Played.{Played}
use Rattle.joined.specs.Rigs.{rigged}
use Rattle.joined.specs.Plays.{sheet_outcome, sheet_played}
use Rattle.hex_laws.specs.Programmed.{Unprotected, Finished}
use Rattle.hex_laws.specs.HexText.{cells_of}

-- the sheet was played, to its end: all steps finished, flashes programmed; the player is at its end, and the stand-in waits for a command
pub record PlayedOut (s : List ℕ) (cells : Memory) (o : Options) (before : Memory) (a : Answer) (j : Joined) : Type 0 where
  pub played : a ≡ answer.Played
  pub end : Finished s cells o before (end_of j)
  pub over : j.player.stage ≡ Over
  pub settled : Settled small j.state

-- `make`, lent the text and a buffer, answered a sheet of that size and left it in front of the buffer
pub record MadeOf (text s : List ℕ) : Type 0 where
  pub answered : HexMade
  pub before : List ℕ
  pub after : List ℕ
  pub size : ℕ
  pub promise : ◌≡◌ {A = Making} (record { made = answered; out = after }) (hex_made text before)
  pub sheet : answered ≡ Sheet size
  pub front : s ≡ take size after

-- the buffers that a play is lent
pub record Lent (s frame reply sums : List ℕ) : Type 0 where
  pub frames : 260 ≤ length frame
  pub replies : 16 ≤ length reply
  pub room : count s ≤ length sums

-- IT IS PLAYED, with a stand-in that waits
abbrev pub HexPlays : Type 0
HexPlays =
    (text s : List ℕ) → MadeOf text s → (frame reply sums each : List ℕ) → Lent s frame reply sums
    → (st : State) → Unprotected st.options → Fit small st.memory → waits small st ≡ true
    → (a : Answer) (j : Joined) (list : List ℕ)
    → sheet_outcome a j list ≡ sheet_played small s (joined_at_start st frame reply sums) each
    → PlayedOut s (cells_of text) st.options st.memory a j

-- ---- from a power-on ----

-- a power-on of the small chip with those options and flashes
pub record PowerOnSaid (o : Options) (code dat : List ℕ) (a : PoweredOn) : Type 0 where
  pub device : Device
  pub chip : device.chip ≡ small
  pub fit : Fit small (memory code dat)
  pub promise : powered_as a (memory code dat) ≡ power_on device.chip (shows device (memory code dat)) o (memory code dat)

-- a play with the stand-in that a feeding left
abbrev pub PlaysFrom : List ℕ → List ℕ → List ℕ → List ℕ → List ℕ → Fed → List ℕ → List ℕ → List ℕ → Answer → Joined → List ℕ → Type 0
PlaysFrom s frame reply sums each f held code dat a j list =
    sheet_outcome a j list ≡ sheet_played small s (rigged (record { player = new_player; core = f.core; arrived = 0 }) held code dat reply frame sums) each

-- THE OPENING with the flash's own ID, where IFPR is 1, with room for its answers; and a play
abbrev pub HexPlaysOpened : Type 0
HexPlaysOpened =
    (text s : List ℕ) → MadeOf text s → (frame reply sums each : List ℕ) → Lent s frame reply sums
    → (o : Options) (code dat : List ℕ) (on : PoweredOn) → PowerOnSaid o code dat on → Unprotected o → (IFPR o ≡ 0 → ⊥)
    → (f : Fed) (held code1 dat1 out out1 : List ℕ) → opening_room ≤ length out
    → fed_as f held (memory code1 dat1) out1 ≡ opened small (shows on.device (memory code dat)) out (ident_of (memory code dat))
    → (opening_verdict small (length code) (length dat) (length out) ≡ Accepted → (call_number f.call).letter ≡ 0)
    → (q : Played) (held2 code2 dat2 reply2 frame2 sums2 each2 : List ℕ)
    → PlaysFrom s frame reply sums each f held code1 dat1 q.answer (rigged q.rig held2 code2 dat2 reply2 frame2 sums2) each2
    → PlayedOut s (cells_of text) o (memory code dat) q.answer (rigged q.rig held2 code2 dat2 reply2 frame2 sums2)

-- ANY BYTES fed to it, none refused, after which the stand-in waits and is unprotected; and a play
abbrev pub HexPlaysFed : Type 0
HexPlaysFed =
    (text s : List ℕ) → MadeOf text s → (frame reply sums each : List ℕ) → Lent s frame reply sums
    → (o : Options) (code dat : List ℕ) (on : PoweredOn) → PowerOnSaid o code dat on
    → (f : Fed) (held code1 dat1 out out1 bytes : List ℕ)
    → fed_as f held (memory code1 dat1) out1 ≡ fed_into small (shows on.device (memory code dat)) out bytes
    → (call_number f.call).letter ≡ 0
    → waits small (view f.core held (memory code1 dat1)) ≡ true → Unprotected f.core.options
    → (q : Played) (held2 code2 dat2 reply2 frame2 sums2 each2 : List ℕ)
    → PlaysFrom s frame reply sums each f held code1 dat1 q.answer (rigged q.rig held2 code2 dat2 reply2 frame2 sums2) each2
    → PlayedOut s (cells_of text) f.core.options (memory code1 dat1) q.answer (rigged q.rig held2 code2 dat2 reply2 frame2 sums2)
