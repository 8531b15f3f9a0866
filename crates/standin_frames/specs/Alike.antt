-- 02, M-109: what is shown of the whole-frame engine. "Prove it equal to the byte engine fed with that frame, in answer, state, flash and options,
-- whenever nothing is half received"; and where E1 is due. Assumes nothing.
use Rattle.std.specs.Prelude.{ℕ, ◌≡◌, true, List, [], ◌∷◌, length}
use Rattle.rules.specs.declared.Chip.{Chip}
use Rattle.rules.specs.Answers.{Refused, Accepted}
use Rattle.rules.specs.Notes.{Empty}
use Rattle.rules.specs.declared.Options.{Options}
use Rattle.rules.specs.declared.Refusal.TheVariants.{E1}
use Rattle.rules.specs.Chip.{Memory, byte_at}
use Rattle.rules.specs.Frame.{whole}
use Rattle.rules.specs.StandIn.{State, Out, listening, start_of, task_now, answered, lent_verdict, outs, feed, powered}
use Rattle.rules.specs.WholeFrame.{frame_call}
use Rattle.standin.specs.Feeding.{feeding, fed_into}

-- what is lent is as D0 to D3 ask
abbrev pub Lent : Chip → State → List ℕ → Type 0
Lent chip s reply =
    lent_verdict chip (length s.memory.code) (length s.memory.«data») (length reply) ≡ Accepted

-- the input is one whole frame of the kind awaited, the chip takes frames, and nothing is half received
pub record Awaited (chip : Chip) (s : State) (input : List ℕ) : Type 0 where
  pub listens : listening s.phase ≡ true
  pub fresh : s.got ≡ []
  pub one : whole input ≡ true
  pub start : byte_at input 0 ≡ start_of (task_now chip s.phase s.task)

-- only the last of the bytes answers or notes anything, and it comes to `o`
abbrev pub OnlyLast : List Out → Out → Type 0
OnlyLast [] o = ⊥
OnlyLast (x ∷ []) o = x ≡ o
OnlyLast (x ∷ y ∷ later) o = (x.answer ≡ []) × (x.note ≡ Empty) × OnlyLast (y ∷ later) o

-- THE FRAME CALL IS THE BYTE CALLS: what the last byte comes to, as the definition of a byte has it, is what the call comes to, in state (phase,
-- command begun, options, what is half received, both flashes), answer, reply buffer and note; and the frame fed through byte calls into the same
-- reply buffer ends so, with every byte taken
pub record AsBytes (chip : Chip) (s : State) (reply input : List ℕ) : Type 0 where
  pub last : Out
  pub bytes : OnlyLast (outs chip s input) last
  pub same : frame_call chip s reply input ≡ answered last reply
  pub after : (feed chip s input).state ≡ (frame_call chip s reply input).state
  pub fed : let o = frame_call chip s reply input in fed_into chip s reply input ≡ feeding o.state o.call (length input) o.reply

abbrev pub FramesAsBytes : Type 0
FramesAsBytes =
    (chip : Chip) (s : State) (reply input : List ℕ) → Lent chip s reply → Awaited chip s input → AsBytes chip s reply input

-- E1 EXACTLY WHERE THE FRAME IS NOT AWAITED: after D0 to D3; and all stands then
pub record OnlyE1 (chip : Chip) (s : State) (reply input : List ℕ) : Type 0 where
  pub due : Lent chip s reply → (Awaited chip s input → ⊥)
      → frame_call chip s reply input ≡ record { state = s; call = Refused E1; reply = reply; note = Empty }
  pub named : (frame_call chip s reply input).call ≡ Refused E1 → Lent chip s reply × (Awaited chip s input → ⊥)

abbrev pub E1Exactly : Type 0
E1Exactly = (chip : Chip) (s : State) (reply input : List ℕ) → OnlyE1 chip s reply input

-- both from a power-on, by any bytes that came before
abbrev pub reached : Chip → Options → Memory → List ℕ → State
reached chip o m sent = (feed chip (powered o m) sent).state

abbrev pub FromPowerOn : Type 0
FromPowerOn =
    (chip : Chip) (o : Options) (m : Memory) (sent reply input : List ℕ)
    → let s = reached chip o m sent in
    (Lent chip s reply → Awaited chip s input → AsBytes chip s reply input) × OnlyE1 chip s reply input
