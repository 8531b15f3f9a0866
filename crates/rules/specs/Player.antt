-- 01, The job sheet (player calls) and Plain meaning and report (replies): the player, over its own record. Assumes nothing.
use Rattle.std.specs.Prelude.{ℕ, ◌+◌, ◌-◌, Bool, true, false, cond, not, ◌&&◌, List, [], ◌∷◌, ◌++◌, ltb, eqb, length, take, drop, set}
use Rattle.rules.specs.declared.Chip.{Chip}
use Rattle.rules.specs.declared.Refusal.TheVariants.{P1, P2}
use Rattle.rules.specs.Answers.{Verdict, Accepted, Next, Refused, Frame, End}
use Rattle.rules.specs.Answers as v
use Rattle.rules.specs.declared.Kind.{Kind}
use Rattle.rules.specs.declared.Kind.TheVariants.{Erase, Write, Verify, Sum, Blank, Lock}
use Rattle.rules.specs.declared.Step.{Step}
use Rattle.rules.specs.declared.Stage.{Stage}
use Rattle.rules.specs.declared.Stage.TheVariants.{New, Ready, Block, Commanded, Page, Paged, Over}
use Rattle.rules.specs.declared.Status.{Status}
use Rattle.rules.specs.declared.Status.TheVariants.{Byte, L1}
use Rattle.rules.specs.declared.Player.{Player}
use Rattle.rules.specs.declared.Report.{Report}
use Rattle.rules.specs.First.{refuse, first_broken, and_then}
use Rattle.rules.specs.Chip.{byte_at, word_at, address_bytes, over, block, first_byte, last_byte}
use Rattle.rules.specs.Frame.{command_start, data_start, last_end, end_due, frame, adds_up}
use Rattle.rules.specs.Command.{verify_code, erase_code, blank_check_code, programming_code, security_set_code, checksum_code}
use Rattle.rules.specs.Sheet.{count, clears, step_at, step_blocks, step_pages, body_page, verdict}
use Rattle.rules.specs.Numbers.{kind_number}

abbrev pub player : Stage → ℕ → ℕ → ℕ → ℕ → Status → Player
player g i a n k st = record { stage = g; step = i; at = a; frames = n; pieces = k; status = st }

abbrev pub well : Status
well = Byte 0x06

-- a player before its first call
abbrev pub new_player : Player
new_player = player New 0 0 0 0 well

-- ---- replies ----

-- one data frame of n bytes and nothing more, "correct in start, LEN, SUM and end 03h"
unfoldable pub framed : ℕ → List ℕ → Bool
framed n r =
    eqb (length r) (n + 4)
    && eqb (byte_at r 0) data_start
    && eqb (byte_at r 1) n
    && adds_up n r
    && eqb (byte_at r (n + 3)) last_end

-- "Due to a command frame is one frame of one byte"
unfoldable pub command_reply : List ℕ → Status
command_reply r = cond (framed 1 r) (Byte (byte_at r 2)) L1

-- "followed, for a sum whose byte is 06h, by one of two bytes"
unfoldable pub sum_reply : List ℕ → Status
unfolding command_reply
sum_reply r =
    cond (framed 1 (take 5 r) && eqb (byte_at r 2) 0x06)
    (cond (framed 2 (drop 5 r)) well L1)
    (command_reply r)

abbrev pub sum_in : List ℕ → ℕ
sum_in r = word_at r 7

-- 02, M-106: "A lock that clears IFPR gets no answer": due is exactly none; to any other lock, one byte
abbrev pub no_reply : List ℕ → Status
no_reply [] = well
no_reply (b ∷ r) = L1

unfoldable pub lock_reply : Step → List ℕ → Status
lock_reply t r = cond (clears t.flags) (no_reply r) (command_reply r)

-- "to a data frame, one of two bytes"; "The status of a pair is its first byte unless that is 06h, then its second"
unfoldable pub data_reply : List ℕ → Status
data_reply r = cond (framed 2 r) (Byte (cond (eqb (byte_at r 2) 0x06) (byte_at r 3) (byte_at r 2))) L1

-- "any but 06h stops the play"
abbrev pub is_well : Status → Bool
is_well (Byte b) = eqb b 0x06
is_well L1 = false

-- ---- taking a reply in ----

pub record Absorbed : Type 0 where
  pub player : Player
  pub sums : List ℕ

abbrev pub absorbs : Player → List ℕ → Absorbed
absorbs p sums = record { player = p; sums = sums }

-- stopped in the step in hand, with so many pieces
abbrev pub stopped : Player → Status → ℕ → List ℕ → Absorbed
stopped p st pieces sums = absorbs (player Over p.step p.at p.frames pieces st) sums

-- on in the step, at that block or page
abbrev pub goes_on : Stage → Player → ℕ → List ℕ → Absorbed
goes_on g p at sums = absorbs (player g p.step at p.frames 0 well) sums

-- the step is finished: its entry in the list of sums, and the next step or the end
abbrev pub beginning : ℕ → ℕ → Stage
beginning i n = cond (eqb i n) Over Ready

unfoldable pub finished : List ℕ → Player → ℕ → List ℕ → Absorbed
finished s p sum sums =
    absorbs (player (beginning (p.step + 1) (count s)) (p.step + 1) 0 p.frames 0 well) (set sums p.step sum)

-- pieces at a stop: "the pages before k by (06h, 06h) to write frame k"; a verify has none
abbrev pub pages_sure : Kind → ℕ → ℕ
pages_sure Erase at = 0
pages_sure Write at = at - 1
pages_sure Verify at = 0
pages_sure Sum at = 0
pages_sure Blank at = 0
pages_sure Lock at = 0

unfoldable pub erased_block : List ℕ → Step → Player → List ℕ → List ℕ → Absorbed
erased_block s t p r sums =
    let on = cond (eqb (p.at + 1) (step_blocks t)) (finished s p 0 sums) (goes_on Block p (p.at + 1) sums) in
    cond (is_well (command_reply r)) on (stopped p (command_reply r) p.at sums)

unfoldable pub opened_pages : Kind → Player → List ℕ → List ℕ → Absorbed
opened_pages k p r sums = cond (is_well (command_reply r)) (goes_on (Page k) p 0 sums) (stopped p (command_reply r) 0 sums)

-- of a step of one frame: the status told, and its sum
unfoldable pub took_once : List ℕ → Player → Status → ℕ → List ℕ → Absorbed
took_once s p st sum sums = cond (is_well st) (finished s p sum sums) (stopped p st 0 sums)

unfoldable pub sent_page : Kind → List ℕ → Step → Player → List ℕ → List ℕ → Absorbed
sent_page k s t p r sums =
    let on = cond (eqb (p.at + 1) (step_pages t)) (finished s p 0 sums) (goes_on (Page k) p (p.at + 1) sums) in
    cond (is_well (data_reply r)) on (stopped p (data_reply r) (pages_sure k p.at) sums)

-- "The first call of a play reads no reply"; all counts start at 0
abbrev pub started : List ℕ → Player
started s = player (beginning 0 (count s)) 0 0 0 0 well

-- to a command frame, by the kind begun
unfoldable pub absorb_command : Kind → List ℕ → Step → Player → List ℕ → List ℕ → Absorbed
absorb_command Erase s t p r sums = erased_block s t p r sums
absorb_command Write s t p r sums = opened_pages Write p r sums
absorb_command Verify s t p r sums = opened_pages Verify p r sums
absorb_command Sum s t p r sums = took_once s p (sum_reply r) (sum_in r) sums
absorb_command Blank s t p r sums = took_once s p (command_reply r) 0 sums
absorb_command Lock s t p r sums = took_once s p (lock_reply t r) 0 sums

unfoldable pub absorb_by : Stage → List ℕ → Step → Player → List ℕ → List ℕ → Absorbed
unfolding absorb_command
absorb_by New s t p r sums = absorbs (started s) sums
absorb_by Ready s t p r sums = absorbs p sums
absorb_by Block s t p r sums = absorbs p sums
absorb_by (Commanded k) s t p r sums = absorb_command k s t p r sums
absorb_by (Page k) s t p r sums = absorbs p sums
absorb_by (Paged k) s t p r sums = sent_page k s t p r sums
absorb_by Over s t p r sums = absorbs p sums

-- A REPLY IS TAKEN IN
unfoldable pub absorbed : Chip → List ℕ → Player → List ℕ → List ℕ → Absorbed
unfolding absorb_by
absorbed chip s p r sums = absorb_by p.stage s (step_at chip s p.step) p r sums

-- ---- giving the next frame ----

pub record Sent : Type 0 where
  pub player : Player
  pub bytes : List ℕ

-- the player counts frames sent; a count that cannot grow stays
unfoldable pub counted : ℕ → ℕ
counted n = cond (ltb n 0xFFFFFFFF) (n + 1) n

-- a frame is sent, at that block or page, and its answer awaited
abbrev pub sends : Stage → Player → ℕ → List ℕ → Sent
sends g p at bytes =
    record { player = player g p.step at (counted p.frames) p.pieces p.status; bytes = bytes }

abbrev pub silent : Player → Sent
silent p = record { player = p; bytes = [] }

abbrev pub command : List ℕ → List ℕ
command body = frame command_start last_end body

abbrev pub pair_bytes : Step → List ℕ
pair_bytes t = address_bytes (first_byte t.flash t.first) ++ address_bytes (last_byte t.flash t.last)

abbrev pub pair_command : ℕ → Step → List ℕ
pair_command code t = command (code ∷ pair_bytes t)

-- 02, M-106: a blank check "of flash alone", TAR 00h; a lock's SF1 and SF2, and the reserved byte
abbrev pub blank_command : Step → List ℕ
blank_command t = command (blank_check_code ∷ (pair_bytes t ++ (0x00 ∷ [])))

abbrev pub lock_command : Step → List ℕ
lock_command t = command (security_set_code ∷ t.flags.sf1 ∷ t.flags.sf2 ∷ 0x00 ∷ [])

abbrev pub block_command : Step → ℕ → List ℕ
block_command t at = command (erase_code ∷ address_bytes (first_byte t.flash (block (t.first.0 + at))))

abbrev pub page_frame : List ℕ → Step → ℕ → List ℕ
page_frame s t at = frame data_start (end_due (eqb (at + 1) (step_pages t))) (body_page s t at)

-- the first frame of a step: which kind was begun is kept from here on
unfoldable pub first_command : Kind → Step → List ℕ
first_command Erase t = block_command t 0
first_command Write t = pair_command programming_code t
first_command Verify t = pair_command verify_code t
first_command Sum t = pair_command checksum_code t
first_command Blank t = blank_command t
first_command Lock t = lock_command t

unfoldable pub emit_by : Stage → List ℕ → Step → Player → Sent
unfolding first_command
emit_by New s t p = silent p
emit_by Ready s t p = sends (Commanded t.kind) p 0 (first_command t.kind t)
emit_by Block s t p = sends (Commanded Erase) p p.at (block_command t p.at)
emit_by (Commanded k) s t p = silent p
emit_by (Page k) s t p = sends (Paged k) p p.at (page_frame s t p.at)
emit_by (Paged k) s t p = silent p
emit_by Over s t p = silent p

-- THE NEXT FRAME IS GIVEN
unfoldable pub emitted : Chip → List ℕ → Player → Sent
unfolding emit_by
emitted chip s p = emit_by p.stage s (step_at chip s p.step) p

-- ---- a player call ----

-- "Report: status (06h if all done), steps finished, frames sent, pieces"; of an unfinished play 06h and the counts so far
abbrev pub counts_of : Player → Report
counts_of p = record { status = well; steps = p.step; frames = p.frames; pieces = 0 }

unfoldable pub report_by : Stage → Player → Report
report_by New p = record { status = well; steps = 0; frames = 0; pieces = 0 }
report_by Ready p = counts_of p
report_by Block p = counts_of p
report_by (Commanded k) p = counts_of p
report_by (Page k) p = counts_of p
report_by (Paged k) p = counts_of p
report_by Over p = record { status = p.status; steps = p.step; frames = p.frames; pieces = p.pieces }

unfoldable pub report_of : Player → Report
unfolding report_by
report_of p = report_by p.stage p

-- P2: "an unfinished play whose step, block or page is not in the given sheet". At the beginning of a step only the step has to be there;
-- of a step begun, one of the same kind
abbrev pub step_in : Kind → ℕ → Step → Player → Bool
step_in k n t p = ltb p.step n && eqb (kind_number k) (kind_number t.kind)

-- the block of an erase, which has a command frame for each; the other kinds have one for the step
unfoldable pub command_in : Kind → Step → ℕ → Bool
command_in Erase t at = ltb at (step_blocks t)
command_in Write t at = true
command_in Verify t at = true
command_in Sum t at = true
command_in Blank t at = true
command_in Lock t at = true

-- the page of a write or a verify; the other kinds have none
unfoldable pub page_in : Kind → Step → ℕ → Bool
page_in Erase t at = false
page_in Write t at = ltb at (step_pages t)
page_in Verify t at = ltb at (step_pages t)
page_in Sum t at = false
page_in Blank t at = false
page_in Lock t at = false

unfoldable pub lost_in : Stage → ℕ → Step → Player → Bool
unfolding command_in page_in
lost_in New n t p = false
lost_in Ready n t p = not (ltb p.step n)
lost_in Block n t p = not (step_in Erase n t p && command_in Erase t p.at)
lost_in (Commanded k) n t p = not (step_in k n t p && command_in k t p.at)
lost_in (Page k) n t p = not (step_in k n t p && page_in k t p.at)
lost_in (Paged k) n t p = not (step_in k n t p && page_in k t p.at)
lost_in Over n t p = false

unfoldable pub lost : Chip → List ℕ → Player → Bool
unfolding lost_in
lost chip s p = lost_in p.stage (count s) (step_at chip s p.step) p

-- "P1 for a frame buffer under 260 bytes"
abbrev pub frame_room : ℕ
frame_room = 260

-- "A player call names a J refusal first, then P1 .., then P2"
unfoldable pub player_verdict : Chip → List ℕ → Player → ℕ → ℕ → Verdict
player_verdict chip s p room sums =
    and_then (verdict chip s sums) (first_broken (refuse P1 (ltb room frame_room) ∷ refuse P2 (lost chip s p) ∷ []))

-- the record, the call's answer, the report and the lent buffers after a call
pub record Called : Type 0 where
  pub player : Player
  pub call : Next
  pub report : Report
  pub frame : List ℕ
  pub sums : List ℕ

abbrev pub calls : Player → Next → List ℕ → List ℕ → Called
calls p call frame sums = record { player = p; call = call; report = report_of p; frame = frame; sums = sums }

abbrev pub next_of : List ℕ → Next
next_of [] = End
next_of (b ∷ bs) = Frame (length (b ∷ bs))

-- one after the other: the reply is taken in, the next frame given
unfoldable pub played : Chip → List ℕ → Player → List ℕ → List ℕ → List ℕ → Called
played chip s p r buffer sums =
    let a = absorbed chip s p r sums in
    let e = emitted chip s a.player in
    calls e.player (next_of e.bytes) (over e.bytes buffer) a.sums

-- "state and buffers then stand"
unfoldable pub call_by : Verdict → Chip → List ℕ → Player → List ℕ → List ℕ → List ℕ → Called
call_by Accepted chip s p r buffer sums = played chip s p r buffer sums
call_by (v.Refused n) chip s p r buffer sums = calls p (Refused n) buffer sums

-- A PLAYER CALL
unfoldable pub called : Chip → List ℕ → Player → List ℕ → List ℕ → List ℕ → Called
unfolding call_by
called chip s p r buffer sums =
    call_by (player_verdict chip s p (length buffer) (length sums)) chip s p r buffer sums
