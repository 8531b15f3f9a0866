-- 02, M-113: "Until the ID is accepted, and in that acceptance, all answers, their lengths and phases are equal, notes included, and neither flash
-- has changed. After it the statement says nothing." What is said: of received bytes, of byte calls, and of the library's own. Assumes nothing.
use Rattle.std.specs.Prelude.{ℕ, ◌≡◌, Bool, cond, ◌&&◌, List, [], ◌∷◌, map, eqb, length}
use Rattle.rules.specs.declared.Chip.{Chip}
use Rattle.rules.specs.declared.Options.{Options}
use Rattle.rules.specs.declared.Phase.{Phase}
use Rattle.rules.specs.declared.Phase.TheVariants.{Ident, Command}
use Rattle.rules.specs.Notes.{Note}
use Rattle.rules.specs.Answers.{Call, Answer}
use Rattle.rules.specs.Chip.{Memory, ident_of}
use Rattle.rules.specs.Options.{IDEN}
use Rattle.rules.specs.Command.{phase_number}
use Rattle.rules.specs.StandIn.{State, Out, Outcome, powered_phase, powered, power_on, byte_call, outs}
use Rattle.standin.specs.declared.call.Device.{Device}
use Rattle.standin.specs.declared.call.Answered.{Answered}
use Rattle.standin.specs.declared.call.PoweredOn.{PoweredOn}
use Rattle.standin.specs.Shows.{shows, answered_as, powered_as}

-- "same options with IDEN 0, same ten ID bytes, flash otherwise different"
pub record Twins (o : Options) (m n : Memory) : Type 0 where
  pub asked : IDEN o ≡ 0
  pub ident : ident_of m ≡ ident_of n

-- ---- until the ID is accepted ----

abbrev pub in_command : Phase → Bool
in_command ph = eqb (phase_number ph) (phase_number Command)

-- the ID is accepted by the byte that leads from Ident to Command
abbrev pub accepts : Phase → Phase → Bool
accepts before after = eqb (phase_number before) (phase_number Ident) && in_command after

module _ {A : Type 0} (state_of : A → State) where
  -- "Until the ID is accepted, and in that acceptance": of what comes of one byte after the other, from that phase on
  unfoldable pub until_ident : Phase → List A → List A
  until_ident before [] = []
  until_ident before (x ∷ xs) =
      let after = (state_of x).phase in
      let later = until_ident after xs in
      x ∷ cond (accepts before after) [] later

  -- up to and with the first after which the phase is Command
  unfoldable pub until_command : List A → List A
  until_command [] = []
  until_command (x ∷ xs) = let later = until_command xs in x ∷ cond (in_command (state_of x).phase) [] later

  -- "neither flash has changed", nor the options: after each of them
  abbrev pub Untouched : Options → Memory → List A → Type 0
  Untouched o m [] = Unit {0}
  Untouched o m (x ∷ xs) = ((state_of x).options ≡ o) × ((state_of x).memory ≡ m) × Untouched o m xs

  -- THE SAME IS TOLD by both, and both stand as they were
  pub record Same {B : Type 0} (tells : A → B) (o : Options) (m n : Memory) (xs ys : List A) : Type 0 where
    pub told : map tells xs ≡ map tells ys
    pub one : Untouched o m xs
    pub other : Untouched o n ys

-- ---- received bytes ----

-- what is told by a byte: "answers, .. and phases .., notes included"
pub record Told : Type 0 where
  pub answer : List ℕ
  pub note : Note
  pub phase : Phase

abbrev pub tells : Out → Told
tells x = record { answer = x.answer; note = x.note; phase = x.state.phase }

abbrev pub after : Out → State
after x = x.state

-- "both powered on and fed the same bytes": any bytes, of any chip
abbrev pub NothingTold : Type 0
NothingTold =
    (chip : Chip) (o : Options) (m n : Memory)
    → Twins o m n
    → (bytes : List ℕ)
    → Same after tells o m n
    (until_ident after (powered_phase o) (outs chip (powered o m) bytes))
    (until_ident after (powered_phase o) (outs chip (powered o n) bytes))

-- with IDEN 0 the acceptance of the ID is the first byte after which the phase is Command
abbrev pub CommandByIdent : Type 0
CommandByIdent =
    (chip : Chip) (o : Options)
    → IDEN o ≡ 0
    → (m : Memory) (bytes : List ℕ)
    → until_ident after (powered_phase o) (outs chip (powered o m) bytes) ≡ until_command after (outs chip (powered o m) bytes)

-- ---- byte calls, with the reply buffer and the refusals ----

-- a byte, and the reply buffer lent with it
pub record Asked : Type 0 where
  pub byte : ℕ
  pub reply : List ℕ

-- what each call comes to, one after the other
unfoldable pub calls : Chip → State → List Asked → List Outcome
calls chip s [] = []
calls chip s (a ∷ more) = let x = byte_call chip s a.reply a.byte in x ∷ calls chip x.state more

-- what is told by a call
pub record Seen : Type 0 where
  pub call : Call
  pub note : Note
  pub reply : List ℕ
  pub phase : Phase

abbrev pub sees : Outcome → Seen
sees x = record { call = x.call; note = x.note; reply = x.reply; phase = x.state.phase }

abbrev pub left : Outcome → State
left x = x.state

-- "two chips of one kind": flashes of the same lengths, the chip's own or not
abbrev pub SameSizes : Memory → Memory → Type 0
SameSizes m n = (length m.code ≡ length n.code) × (length m.«data» ≡ length n.«data»)

abbrev pub NothingSeen : Type 0
NothingSeen =
    (chip : Chip) (o : Options) (m n : Memory)
    → Twins o m n
    → SameSizes m n
    → (asked : List Asked)
    → Same left sees o m n
    (until_ident left (powered_phase o) (calls chip (powered o m) asked))
    (until_ident left (powered_phase o) (calls chip (powered o n) asked))

-- ---- the library's own: `power_on` and `byte_call` of crates/standin/src/call.rt, by what they promise ----

-- a power-on of a device
pub record PowersOn (d : Device) (o : Options) (m : Memory) (p : PoweredOn) : Type 0 where
  pub chip : p.device.chip ≡ d.chip
  pub is : powered_as p m ≡ power_on d.chip (shows d m) o m

-- what a byte call gave back: its result, both flashes and the reply buffer
pub record Back : Type 0 where
  pub result : Answered
  pub memory : Memory
  pub reply : List ℕ

abbrev pub outcome_of : Back → Outcome
outcome_of b = answered_as b.result b.memory b.reply

-- byte calls one after the other, each with the device and the flashes that the one before gave back
abbrev pub Called : Device → Memory → List Asked → List Back → Type 0
Called d m [] [] = Unit {0}
Called d m [] (b ∷ bs) = ⊥
Called d m (a ∷ more) [] = ⊥
Called d m (a ∷ more) (b ∷ bs) =
    (b.result.device.chip ≡ d.chip)
    × (outcome_of b ≡ byte_call d.chip (shows d m) a.reply a.byte)
    × Called b.result.device b.memory more bs

-- both power-ons answer the same; and where they are not refused, so do all byte calls until the ID is accepted
abbrev pub NothingGivenBack : Type 0
NothingGivenBack =
    (o : Options) (m n : Memory)
    → Twins o m n
    → SameSizes m n
    → (d e : Device)
    → d.chip ≡ e.chip
    → (p q : PoweredOn)
    → PowersOn d o m p
    → PowersOn e o n q
    → (p.call ≡ q.call)
    × (p.call ≡ Answer 0
    → (asked : List Asked) (xs ys : List Back)
    → Called p.device m asked xs
    → Called q.device n asked ys
    → Same left sees o m n
    (until_ident left (powered_phase o) (map outcome_of xs))
    (until_ident left (powered_phase o) (map outcome_of ys)))
