-- 01, Phases and Commands: the stand-in. What a whole frame does (`on_frame`), and under it one received byte (`step`). Assumes nothing.
use Rattle.std.specs.Prelude.{ℕ, ◌+◌, ◌-◌, Bool, true, false, cond, not, ◌&&◌, ◌||◌, List, [], ◌∷◌, ◌++◌, ltb, leb, eqb, length, take}
use Rattle.rules.specs.declared.Chip.{Chip}
use Rattle.rules.specs.declared.Flash.TheVariants.{Code, Data}
use Rattle.rules.specs.declared.Options.{Options}
use Rattle.rules.specs.declared.Phase.{Phase}
use Rattle.rules.specs.declared.Phase.TheVariants.{Mode, Speed, Ident, Command, Silent}
use Rattle.rules.specs.declared.Pages.{Pages}
use Rattle.rules.specs.declared.Task.{Task}
use Rattle.rules.specs.declared.Task.TheVariants.{Idle, Programming, Verifying}
use Rattle.rules.specs.Answers.{Judged, Faulty, Ordered, Call, Refused, Answer, Verdict}
use Rattle.rules.specs.Faults.{Fault, Well, EndByte, Sum, Length, Parameter, NotBlank, Protected, PageNotBlank, Difference}
use Rattle.rules.specs.Faults as fault
use Rattle.rules.specs.Notes.{Note, Empty}
use Rattle.rules.specs.declared.Refusal.TheVariants.{D0, D1, D2, D3}
use Rattle.rules.specs.Answers as verdict
use Rattle.rules.specs.First.{rule, first_fault, refuse, first_broken, and_then}
use Rattle.rules.specs.Chip.{Memory, known, flash_size, same, blank, over, pages, page_of, put_page, block_of_page}
use Rattle.rules.specs.Options.{IFPR, write_protected}
use Rattle.rules.specs.Frame.{command_start, data_start, frame_size, one, pair, len_of, body_of, whole, status_byte, note_of, data_fault}
use Rattle.rules.specs.Command.{judged, done}
pub use Rattle.rules.specs.State.{State, Out, Effect, out, noted, rest}

-- ---- a whole frame ----

-- "A LEN, parameter or ID fault in 9Ah or 9Ch is answered and then the chip is Silent"
abbrev pub silences : Fault → Bool
silences Well = false
silences EndByte = false
silences Sum = false
silences fault.Code = false
silences (Length due found) = true
silences Parameter = true
silences fault.Ident = true
silences (NotBlank n) = false
silences Protected = false
silences PageNotBlank = false
silences Difference = false

abbrev pub phase_after : Phase → Fault → Phase
phase_after Mode v = Mode
phase_after Speed v = cond (silences v) Silent Speed
phase_after Ident v = cond (silences v) Silent Ident
phase_after Command v = Command
phase_after Silent v = Silent

abbrev pub refused : Fault → State → Out
refused v s =
    noted (note_of v) (out (rest (phase_after s.phase v) Idle s.options s.memory) (one (status_byte v)))

-- a command frame, judged
unfoldable pub on_judged : Judged → Chip → State → Out
on_judged (Faulty v) chip s = refused v s
on_judged (Ordered order) chip s = done chip s order

unfoldable pub on_command : Effect
on_command chip s f = on_judged (judged chip s.phase s.options s.memory f) chip s

-- the pages after the one in hand, with what is known of it
abbrev pub later : Pages → ℕ → Pages
later p st = record { flash = p.flash; page = p.page + 1; left = p.left - 1; status = st }

abbrev pub last_page : Pages → Bool
last_page p = eqb p.left 1

-- "A page is protected when ..": 10h; "A page not all blank is a write error": 1Ch
unfoldable pub page_fault : Bool → List ℕ → Fault
page_fault guarded page = first_fault (rule Protected guarded ∷ rule PageNotBlank (not (blank page)) ∷ [])

-- "A page in error stays as it is"
unfoldable pub page_written : Bool → Memory → Pages → List ℕ → Memory
page_written guarded m p body =
    let new = put_page m p.flash p.page body in
    cond (eqb (status_byte (page_fault guarded (page_of m p.flash p.page))) 0x06) new m

abbrev pub page_guarded : Options → Pages → Bool
page_guarded o p = write_protected o p.flash (block_of_page p.flash p.page)

-- the pair is sent and the command ends, with that memory
abbrev pub pair_ends : ℕ → ℕ → State → Memory → Out
pair_ends a b s m = out (rest s.phase Idle s.options m) (pair a b)

-- Programming: line status, and the write status "of the page before"; of the last page its own
unfoldable pub on_page : Pages → State → List ℕ → Out
on_page p s f =
    let fault = data_fault (last_page p) f in
    let line = status_byte fault in
    let guarded = page_guarded s.options p in
    let st = status_byte (page_fault guarded (page_of s.memory p.flash p.page)) in
    let m = page_written guarded s.memory p (body_of f) in
    let more = out (rest s.phase (Programming (later p st)) s.options m) (pair 0x06 0x06) in
    let last = pair_ends 0x06 st s m in
    cond (eqb line 0x06 && eqb p.status 0x06)
    (cond (last_page p) last more)
    (noted (note_of fault) (pair_ends line p.status s s.memory))

-- Verify: "A difference in any page is told only in the last answer"
unfoldable pub compared : Memory → Pages → List ℕ → ℕ
compared m p body =
    status_byte
    (first_fault (rule Difference (not (eqb p.status 0x06 && same (page_of m p.flash p.page) body)) ∷ []))

unfoldable pub on_compare : Pages → State → List ℕ → Out
on_compare p s f =
    let fault = data_fault (last_page p) f in
    let line = status_byte fault in
    let st = compared s.memory p (body_of f) in
    let more = out (rest s.phase (Verifying (later p st)) s.options s.memory) (pair 0x06 0x06) in
    let last = pair_ends 0x06 st s s.memory in
    cond (eqb line 0x06) (cond (last_page p) last more) (noted (note_of fault) (pair_ends line 0x06 s s.memory))

-- the command begun: only in Command, and only while its pages are there
abbrev pub ahead : Chip → Pages → Bool
ahead chip p = ltb 0 p.left && leb (p.page + p.left) (pages chip p.flash)

abbrev pub task_in : Chip → Task → Task
task_in chip Idle = Idle
task_in chip (Programming p) = cond (ahead chip p) (Programming p) Idle
task_in chip (Verifying p) = cond (ahead chip p) (Verifying p) Idle

unfoldable pub task_now : Chip → Phase → Task → Task
task_now chip Mode t = Idle
task_now chip Speed t = Idle
task_now chip Ident t = Idle
task_now chip Command t = task_in chip t
task_now chip Silent t = Idle

-- A WHOLE FRAME
unfoldable pub on_task : Task → Effect
on_task Idle chip s f = on_command chip s f
on_task (Programming p) chip s f = on_page p s f
on_task (Verifying p) chip s f = on_compare p s f

unfoldable pub on_frame : Effect
unfolding on_task
on_frame chip s f = on_task (task_now chip s.phase s.task) chip s f

-- ---- one received byte ----

abbrev pub holding : State → List ℕ → Out
holding s g =
    out (record { phase = s.phase; task = s.task; options = s.options; got = g; memory = s.memory }) []

-- the phases that take frames: not the one that waits for a mode byte, nor silence
abbrev pub listening : Phase → Bool
listening Mode = false
listening Speed = true
listening Ident = true
listening Command = true
listening Silent = false

-- "01h is awaited for commands, 02h for data"
abbrev pub start_of : Task → ℕ
start_of Idle = command_start
start_of (Programming p) = data_start
start_of (Verifying p) = data_start

-- "Bytes other than the start byte are skipped"; "LEN fixes where the end byte is looked for"
unfoldable pub receive : Chip → State → List ℕ → ℕ → Out
receive chip s [] b =
    cond (eqb b (start_of (task_now chip s.phase s.task))) (holding s (b ∷ [])) (holding s [])
receive chip s (a ∷ g) b =
    let f = a ∷ (g ++ (b ∷ [])) in
    let done = on_frame chip (rest s.phase s.task s.options s.memory) f in
    cond (whole f) done (holding s f)

-- "the first byte is the mode: 3Ah or 00h goes on to Speed, anything else to Silent"
abbrev pub after_mode : ℕ → Phase
after_mode b = cond (eqb b 0x3A || eqb b 0x00) Speed Silent

unfoldable pub takes : Phase → Chip → State → ℕ → Out
unfolding receive
takes Mode chip s b = out (rest (after_mode b) Idle s.options s.memory) []
takes Speed chip s b = receive chip s s.got b
takes Ident chip s b = receive chip s s.got b
takes Command chip s b = receive chip s s.got b
takes Silent chip s b = out s []

-- ONE BYTE
unfoldable pub step : Chip → State → ℕ → Out
unfolding takes
step chip s b = takes s.phase chip s b

-- ---- what is lent: the refusals D ----

-- "D1 if lent code flash is not 32,768 long, D2 if data flash is not 2,048": now the chip's own lengths; and before them D0, of a chip that
-- is not known (02, M-105). By the lengths of the lent flashes
unfoldable pub flash_verdict : Chip → ℕ → ℕ → Verdict
flash_verdict chip code dat =
    first_broken
    (refuse D0 (not (known chip))
    ∷ refuse D1 (not (eqb code (flash_size chip Code)))
    ∷ refuse D2 (not (eqb dat (flash_size chip Data)))
    ∷ [])

-- "D3 if the reply buffer is under 16 bytes, in that order"
abbrev pub reply_room : ℕ
reply_room = 16

unfoldable pub lent_verdict : Chip → ℕ → ℕ → ℕ → Verdict
lent_verdict chip code dat reply =
    and_then (flash_verdict chip code dat) (first_broken (refuse D3 (ltb reply reply_room) ∷ []))

-- ---- power-on and the byte call ----

-- "With IFPR 0 the chip is Silent .. Otherwise the first byte is the mode"
abbrev pub powered_phase : Options → Phase
powered_phase o = cond (eqb (IFPR o) 0) Silent Mode

abbrev pub powered : Options → Memory → State
powered o m = rest (powered_phase o) Idle o m

-- the state after a call, and what it answered
pub record Powered : Type 0 where
  pub state : State
  pub call : Call

-- refused, the record given comes back
unfoldable pub power_by : Verdict → State → Options → Memory → Powered
power_by verdict.Accepted given o m = record { state = powered o m; call = Answer 0 }
power_by (verdict.Refused n) given o m = record { state = given; call = Refused n }

-- POWER-ON: "Power-on knows D1 and D2", and D0 before them
unfoldable pub power_on : Chip → State → Options → Memory → Powered
unfolding power_by
power_on chip given o m = power_by (flash_verdict chip (length m.code) (length m.«data»)) given o m

-- the state, the call's answer, the reply buffer after a call, and the note
pub record Outcome : Type 0 where
  pub state : State
  pub call : Call
  pub reply : List ℕ
  pub note : Note

abbrev pub answered : Out → List ℕ → Outcome
answered o reply =
    record { state = o.state; call = Answer (length o.answer); reply = over o.answer reply; note = o.note }

-- "the byte is not taken and state and buffers stand"
unfoldable pub byte_by : Verdict → Chip → State → List ℕ → ℕ → Outcome
byte_by verdict.Accepted chip s reply b = answered (step chip s b) reply
byte_by (verdict.Refused n) chip s reply b = record { state = s; call = Refused n; reply = reply; note = Empty }

-- THE BYTE CALL
unfoldable pub byte_call : Chip → State → List ℕ → ℕ → Outcome
unfolding byte_by
byte_call chip s reply b =
    byte_by (lent_verdict chip (length s.memory.code) (length s.memory.«data») (length reply)) chip s reply b

-- what a count and a frame buffer hold of a frame: a count that no buffer holds, or at or past its LEN's end, is nothing received
unfoldable pub received : ℕ → List ℕ → List ℕ
received n buffer = cond (ltb n 2 || ltb n (frame_size (len_of buffer))) (take n buffer) []

-- ---- many bytes ----

-- what each byte comes to, one after the other
unfoldable pub outs : Chip → State → List ℕ → List Out
outs chip s [] = []
outs chip s (b ∷ bs) = let o = step chip s b in o ∷ outs chip o.state bs

-- the answers one after the other, and the state after them
pub record Fed : Type 0 where
  pub state : State
  pub answers : List (List ℕ)

unfoldable pub feed : Chip → State → List ℕ → Fed
feed chip s [] = record { state = s; answers = [] }
feed chip s (b ∷ bs) =
    let o = step chip s b in
    let later = feed chip o.state bs in
    record { state = later.state; answers = o.answer ∷ later.answers }
