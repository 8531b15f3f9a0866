-- 01, Trials: what a row of a table says, and whether the definitions make it so. Assumes nothing.
use Rattle.std.specs.Prelude.{ℕ, ◌+◌, Bool, true, false, cond, ◌&&◌, List, [], ◌∷◌, ◌++◌, eqb, replicate}
use Rattle.rules.specs.declared.Chip.{Chip}
use Rattle.rules.specs.declared.Flash.TheVariants.{Data}
use Rattle.rules.specs.declared.Options.{Options}
use Rattle.rules.specs.declared.Phase.TheVariants.{Command}
use Rattle.rules.specs.declared.Task.TheVariants.{Idle}
use Rattle.rules.specs.Notes.{Note, Empty}
use Rattle.rules.specs.declared.Player.{Player}
use Rattle.rules.specs.declared.Report.{Report}
use Rattle.rules.specs.declared.numbers.Number.{Number}
use Rattle.rules.specs.Chip.{Memory, small, same, fresh_memory, put_page, page_size, word_bytes}
use Rattle.rules.specs.Options.{fresh_options}
use Rattle.rules.specs.Frame.{command_start, data_start, last_end, frame, sum_byte}
use Rattle.rules.specs.Command.{phase_number}
use Rattle.rules.specs.StandIn.{State, Out, outs, feed, powered, power_on, byte_call, rest}
use Rattle.rules.specs.Sheet.{verdict}
use Rattle.rules.specs.Meaning.{Ended, meaning, step_frames}
use Rattle.rules.specs.Numbers.{note_numbers, call_number, verdict_number, next_number, status_number}
use Rattle.rules.specs.Player.{called}
use Rattle.rules.specs.Run.{Joined, clean, joined_at_start, run, waits, settled}

-- ---- numbers, options and memories compared ----

abbrev pub same_number : Number → Number → Bool
same_number a b = eqb a.letter b.letter && eqb a.number b.number

-- a number without a letter, and 01's D, J, P and L numbers
abbrev pub plain : ℕ → Number
plain n = record { letter = 0; number = n }

abbrev pub D : ℕ → Number
D n = record { letter = 0x44; number = n }

abbrev pub J : ℕ → Number
J n = record { letter = 0x4A; number = n }

abbrev pub P : ℕ → Number
P n = record { letter = 0x50; number = n }

abbrev pub L : ℕ → Number
L n = record { letter = 0x4C; number = n }

abbrev pub same_options : Options → Options → Bool
same_options a b =
    eqb a.sf1 b.sf1 && eqb a.sf2 b.sf2 && eqb a.sws b.sws && eqb a.swe b.swe

abbrev pub same_memory : Memory → Memory → Bool
same_memory a b = same a.code b.code && same a.«data» b.«data»

abbrev pub alike : Bool → Bool → Bool
alike true b = b
alike false b = cond b false true

-- ---- a session: stored options and flash, power-on, what is sent with the answer and the note due to it, and what stands afterwards ----

pub record Exchange : Type 0 where
  pub sent : List ℕ
  pub due : List ℕ
  pub note : Note

abbrev pub to_noted : List ℕ → List ℕ → Note → Exchange
to_noted sent due note = record { sent = sent; due = due; note = note }

abbrev pub to : List ℕ → List ℕ → Exchange
to sent due = to_noted sent due Empty

pub record Session : Type 0 where
  pub chip : Chip
  pub options : Options
  pub memory : Memory
  pub exchanges : List Exchange
  pub phase : ℕ
  pub waiting : Bool
  pub options_after : Options
  pub memory_after : Memory

-- a byte's answer and note
abbrev pub gives : Out → List ℕ → Note → Bool
gives o due note = same o.answer due && same (note_numbers o.note) (note_numbers note)

-- answer and note come with the last byte sent, and with no earlier one
unfoldable pub comes_last : List Out → List ℕ → Note → Bool
comes_last [] due note = same [] due && same [] (note_numbers note)
comes_last (a ∷ []) due note = gives a due note
comes_last (a ∷ b ∷ later) due note = gives a [] Empty && comes_last (b ∷ later) due note

-- the state after them
unfoldable pub state_after : State → List Out → State
state_after s [] = s
state_after s (o ∷ os) = state_after o.state os

pub record Exchanged : Type 0 where
  pub state : State
  pub right : Bool

unfoldable pub exchanged : Chip → State → List Exchange → Exchanged
exchanged chip s [] = record { state = s; right = true }
exchanged chip s (x ∷ xs) =
    let os = outs chip s x.sent in
    let later = exchanged chip (state_after s os) xs in
    record { state = later.state; right = comes_last os x.due x.note && later.right }

unfoldable pub holds : Session → Bool
holds t =
    let end = exchanged t.chip (powered t.options t.memory) t.exchanges in
    end.right
    && eqb (phase_number end.state.phase) t.phase
    && alike (waits t.chip end.state) t.waiting
    && same_options end.state.options t.options_after
    && same_memory end.state.memory t.memory_after

unfoldable pub all_hold : List Session → Bool
all_hold [] = true
all_hold (t ∷ ts) = holds t && all_hold ts

-- ---- a sheet: the verdict, and what a play comes to, by the meaning and by the clean run ----

pub record Play : Type 0 where
  pub chip : Chip
  pub options : Options
  pub memory : Memory
  pub sheet : List ℕ
  pub verdict : Number
  pub status : Number
  pub steps : ℕ
  pub frames : ℕ
  pub pieces : ℕ
  pub sums : List ℕ
  pub each : List ℕ
  pub options_after : Options
  pub memory_after : Memory

-- a report of those four
abbrev pub reports : Report → Number → ℕ → ℕ → ℕ → Bool
reports r status steps frames pieces =
    same_number (status_number r.status) status
    && eqb r.steps steps
    && eqb r.frames frames
    && eqb r.pieces pieces

abbrev pub no_sums : List ℕ
no_sums = replicate 4 0

-- a list for the frames of each step, as it is lent: an entry that stands is seen
abbrev pub unreached : ℕ
unreached = 99

abbrev pub no_frames : List ℕ
no_frames = replicate 4 unreached

abbrev pub meant : Ended → Play → Bool
meant e t =
    reports e.report t.status t.steps t.frames t.pieces
    && same e.sums t.sums
    && same_options e.options t.options_after
    && same_memory e.memory t.memory_after

abbrev pub ran_to : Joined → Play → Bool
ran_to j t =
    let p = j.player in
    reports
    (record { status = p.status; steps = p.step; frames = p.frames; pieces = p.pieces })
    t.status
    t.steps
    t.frames
    t.pieces
    && same j.sums t.sums
    && same_options j.state.options t.options_after
    && same_memory j.state.memory t.memory_after
    && settled t.chip j.state

-- the opening: mode 3Ah; 9Ah with BRT 0 and VDD 21h
abbrev pub mode : List ℕ
mode = 0x3A ∷ []

abbrev pub speed : List ℕ
speed = 0x01 ∷ 0x03 ∷ 0x9A ∷ 0x00 ∷ 0x21 ∷ 0x42 ∷ 0x03 ∷ []

abbrev pub opened : Chip → Options → Memory → State
opened chip o m = (feed chip (powered o m) (mode ++ speed)).state

unfoldable pub plays : Play → Bool
plays t =
    let said = verdict_number (verdict t.chip t.sheet 4) in
    let e = meaning t.chip t.sheet t.options t.memory no_sums in
    let start = joined_at_start (opened t.chip t.options t.memory) (replicate 260 0) (replicate 16 0) no_sums in
    let ran = run clean t.chip t.sheet start in
    let each = step_frames t.chip t.sheet t.options t.memory no_frames in
    let both = meant e t && same each t.each && ran.complete && ran_to ran.reached t in
    same_number said t.verdict && cond (eqb t.verdict.letter 0) both true

unfoldable pub all_play : List Play → Bool
all_play [] = true
all_play (t ∷ ts) = plays t && all_play ts

-- a refused sheet, for that chip
abbrev pub refused_by : Chip → List ℕ → Number → Play
refused_by chip s said =
    record {
      chip = chip;
      options = fresh_options;
      memory = fresh_memory small;
      sheet = s;
      verdict = said;
      status = plain 0;
      steps = 0;
      frames = 0;
      pieces = 0;
      sums = no_sums;
      each = [];
      options_after = fresh_options;
      memory_after = fresh_memory small;
    }

-- ---- single calls, by the lengths of what is lent ----

-- a byte call and a power-on
pub record Lending : Type 0 where
  pub chip : Chip
  pub code : ℕ
  pub «data» : ℕ
  pub reply : ℕ
  pub byte_call : Number
  pub power_on : Number

abbrev pub lent_memory : Lending → Memory
lent_memory t = record { code = replicate t.code 0xFF; «data» = replicate t.«data» 0xFF }

unfoldable pub lends : Lending → Bool
lends t =
    let m = lent_memory t in
    let s = rest Command Idle fresh_options m in
    same_number (call_number (byte_call t.chip s (replicate t.reply 0) 0x01).call) t.byte_call
    && same_number (call_number (power_on t.chip s fresh_options m).call) t.power_on

unfoldable pub all_lend : List Lending → Bool
all_lend [] = true
all_lend (t ∷ ts) = lends t && all_lend ts

-- a player call: the record, the reply, the lengths of frame buffer and list of sums; the call's answer, and the report after it
pub record Calling : Type 0 where
  pub sheet : List ℕ
  pub player : Player
  pub reply : List ℕ
  pub room : ℕ
  pub sums : ℕ
  pub call : Number
  pub status : Number
  pub steps : ℕ
  pub frames : ℕ
  pub pieces : ℕ

unfoldable pub calls : Calling → Bool
calls t =
    let c = called small t.sheet t.player t.reply (replicate t.room 0) (replicate t.sums 0) in
    same_number (next_number c.call) t.call
    && reports c.report t.status t.steps t.frames t.pieces

unfoldable pub all_call : List Calling → Bool
all_call [] = true
all_call (t ∷ ts) = calls t && all_call ts

-- ---- what rows are made of ----

abbrev pub blank_flash : Memory
blank_flash = fresh_memory small

abbrev pub ack : List ℕ
ack = 0x02 ∷ 0x01 ∷ 0x06 ∷ 0xF9 ∷ 0x03 ∷ []

-- a session opened to phase Command, which leaves options as they were and the stand-in waiting
abbrev pub opening : List Exchange
opening = to mode [] ∷ to speed (0x02 ∷ 0x03 ∷ 0x06 ∷ 0x20 ∷ 0x00 ∷ 0xD7 ∷ 0x03 ∷ []) ∷ []

abbrev pub session : Options → Memory → List Exchange → Memory → Session
session o m xs after =
    record {
      chip = small;
      options = o;
      memory = m;
      exchanges = opening ++ xs;
      phase = 3;
      waiting = true;
      options_after = o;
      memory_after = after;
    }

-- a fresh chip's answer to bytes that change nothing, with its note or with none
abbrev pub on_fresh_noted : List ℕ → List ℕ → Note → Session
on_fresh_noted sent due note = session fresh_options blank_flash (to_noted sent due note ∷ []) blank_flash

abbrev pub on_fresh : List ℕ → List ℕ → Session
on_fresh sent due = on_fresh_noted sent due Empty

-- one that is opened and ends with other options
abbrev pub optioned : Options → Options → List Exchange → Session
optioned o after xs =
    record {
      chip = small;
      options = o;
      memory = blank_flash;
      exchanges = opening ++ xs;
      phase = 3;
      waiting = true;
      options_after = after;
      memory_after = blank_flash;
    }

-- one that ends in another phase, or while data is awaited; with the bytes from the mode byte on
abbrev pub ending : ℕ → Options → Options → List Exchange → Session
ending phase o after xs =
    record {
      chip = small;
      options = o;
      memory = blank_flash;
      exchanges = xs;
      phase = phase;
      waiting = false;
      options_after = after;
      memory_after = blank_flash;
    }

-- options with other flags; with BTPR 0, and with SEPR, WRPR or IDEN 0
abbrev pub flags : ℕ → ℕ → Options
flags sf1 sf2 = record { sf1 = sf1; sf2 = sf2; sws = 0xFFFF; swe = 0xFFFF }

abbrev pub no_boot : Options
no_boot = flags 0xFD 0xFF

abbrev pub no_erase : Options
no_erase = flags 0xFB 0xFF

abbrev pub no_write : Options
no_write = flags 0xEF 0xFF

abbrev pub ask_ident : Options
ask_ident = flags 0xFF 0xFE

-- frames: a command, a data frame of a page of one byte's copies, one with a wrong SUM, answers of one byte and of two
abbrev pub command : List ℕ → List ℕ
command body = frame command_start last_end body

abbrev pub filled : ℕ → List ℕ
filled b = replicate page_size b

abbrev pub page : ℕ → ℕ → List ℕ
page end b = frame data_start end (filled b)

abbrev pub bad_sum : ℕ → List ℕ
bad_sum b = data_start ∷ 0x00 ∷ (filled b ++ ((sum_byte (filled b) + 1) ∷ last_end ∷ []))

abbrev pub one : ℕ → List ℕ
one a = frame data_start last_end (a ∷ [])

abbrev pub pair : ℕ → ℕ → List ℕ
pair a b = frame data_start last_end (a ∷ b ∷ [])

-- Programming (40h) and Verify (13h) of F1000h to F10FFh, and to F11FFh
abbrev pub one_page : ℕ → List ℕ
one_page code = command (code ∷ 0x00 ∷ 0x10 ∷ 0x0F ∷ 0xFF ∷ 0x10 ∷ 0x0F ∷ [])

abbrev pub two_pages : ℕ → List ℕ
two_pages code = command (code ∷ 0x00 ∷ 0x10 ∷ 0x0F ∷ 0xFF ∷ 0x11 ∷ 0x0F ∷ [])

-- data flash with page k so filled
abbrev pub paged : ℕ → ℕ → Memory → Memory
paged k b m = put_page m Data k (filled b)

-- an entry of a sheet: kind, SAD, EAD, zero byte, offset; in the flash with that high byte, by the middle bytes of both addresses
abbrev pub entry_in : ℕ → ℕ → ℕ → ℕ → ℕ → List ℕ
entry_in high kind from upto offset =
    kind ∷ 0x00 ∷ from ∷ high ∷ 0xFF ∷ upto ∷ high ∷ 0x00 ∷ (word_bytes offset ++ (0x00 ∷ 0x00 ∷ []))

-- in data flash
abbrev pub entry : ℕ → ℕ → ℕ → ℕ → List ℕ
entry kind from upto offset = entry_in 0x0F kind from upto offset
