-- 01, Commands: the one table of commands, the verdict on a command frame in the order of the status table, and what an order does. Assumes nothing.
use Rattle.std.specs.Prelude.{ℕ, ◌+◌, ◌/◌, ◌%◌, Bool, false, cond, not, ◌&&◌, ◌||◌, List, [], ◌∷◌, ◌++◌, map, ltb, leb, eqb, length, take, drop}
use Rattle.rules.specs.declared.Chip.{Chip}
use Rattle.rules.specs.declared.Flash.{Flash}
use Rattle.rules.specs.declared.Block.{Block}
use Rattle.rules.specs.declared.Address.{Address}
use Rattle.rules.specs.Answers.{Found, In, Nowhere, Range, Blocks, Invalid, CodeRow, Decoded, Is, Bad, Judged, Faulty, Ordered, Row, Unknown}
use Rattle.rules.specs.declared.Options.{Options}
use Rattle.rules.specs.declared.Phase.{Phase}
use Rattle.rules.specs.declared.Phase.TheVariants.{Mode, Speed, Ident, Command, Silent}
use Rattle.rules.specs.declared.Pages.{Pages}
use Rattle.rules.specs.declared.Task.{Task}
use Rattle.rules.specs.declared.Task.TheVariants.{Idle, Programming, Verifying}
use Rattle.rules.specs.declared.Order.{Order}
use Rattle.rules.specs.declared.Order.TheVariants.{Reset, Verify, Erase, BlankCheck, Program, BaudRate, Identity, SecuritySet, SecurityGet, Release, WindowSet, WindowGet, Checksum}
use Rattle.rules.specs.Faults.{Fault, EndByte, Sum, Code, Length, Parameter, NotBlank, Protected}
use Rattle.rules.specs.Notes.{Note, Empty, Used, Bits}
use Rattle.rules.specs.Faults as fault
use Rattle.rules.specs.First.{Rule, rule, first_fault}
use Rattle.rules.specs.Chip.{Memory, byte_at, word_at, address_at, word_bytes, same, blank, ident_of, ident_size, blank_memory, blanks_before, page_size, block, block_size, erase_address, range, first_page, pages_from, erase_block, bytes_from, checksum}
use Rattle.rules.specs.Options.{BTPR, SEPR, FSPR, IDEN, IFPR, shownSF1, shownSF2, shownSWS, shownSWE, blank_options, security_set, release, window_set, erase_protected}
use Rattle.rules.specs.Frame.{data_start, last_end, frame, one, len_of, end_of, sum_holds, status_byte}
use Rattle.rules.specs.State.{State, Out, out, rest}

-- ---- what a command frame says ----

abbrev pub code_of : List ℕ → ℕ
code_of f = byte_at f 2

-- the information from its first byte on: SAD, EAD
abbrev pub sad_of : List ℕ → Address
sad_of f = address_at f 3

abbrev pub ead_of : List ℕ → Address
ead_of f = address_at f 6

-- ---- the column "information": what it orders, or that it is not valid (row 5 of the status table) ----

abbrev pub Reading : Type 0
Reading = Chip → List ℕ → Decoded

-- "none"; and the "ten bytes", which are left in the frame
abbrev pub plain : Order → Reading
plain order chip f = Is order

-- "SAD, EAD": a valid address pair
abbrev pub over_blocks : (Flash → Block → Block → Order) → Range → Decoded
over_blocks order (Blocks f a b) = Is (order f a b)
over_blocks order Invalid = Bad

abbrev pub paired : (Flash → Block → Block → Order) → Reading
paired order chip f = over_blocks order (range chip (sad_of f) (ead_of f))

-- 001, table 6-17: "SAD, EAD, TAR", of which 00h and 01h are allowed
abbrev pub tar_of : List ℕ → ℕ
tar_of f = byte_at f 9

abbrev pub targeted : Reading
targeted chip f =
    cond (leb (tar_of f) 1) (paired (λ g a b. BlankCheck g a b (tar_of f)) chip f) Bad

-- "SAD": "Erase wants the first byte of a block"
abbrev pub at_block : Found → Decoded
at_block (In f b) = Is (Erase f b)
at_block Nowhere = Bad

abbrev pub single : Reading
single chip f = at_block (erase_address chip (sad_of f))

-- "BRT, VDD": "BRT is 0 to 3; VDD 10h to 37h"
abbrev pub rated : Reading
rated chip f = cond (leb (byte_at f 3) 3 && leb 0x10 (byte_at f 4) && leb (byte_at f 4) 0x37) (Is BaudRate) Bad

-- "SF1, SF2"
abbrev pub flagged : Reading
flagged chip f = Is (SecuritySet (byte_at f 3) (byte_at f 4))

-- "SWS, SWE"
abbrev pub windowed : Reading
windowed chip f = Is (WindowSet (word_at f 3) (word_at f 5))

-- the codes that the player and the opening send
abbrev pub verify_code : ℕ
verify_code = 0x13

abbrev pub erase_code : ℕ
erase_code = 0x22

abbrev pub blank_check_code : ℕ
blank_check_code = 0x32

abbrev pub programming_code : ℕ
programming_code = 0x40

abbrev pub security_set_code : ℕ
security_set_code = 0xA0

abbrev pub checksum_code : ℕ
checksum_code = 0xB0

abbrev pub ident_code : ℕ
ident_code = 0x9C

-- ---- THE TABLE: "Each code has one length and one phase" ----

pub record Entry : Type 0 where
  pub code : ℕ
  pub len : ℕ
  pub phase : Phase
  pub reads : Reading

abbrev pub entry : ℕ → ℕ → Phase → Reading → Entry
entry c l p r = record { code = c; len = l; phase = p; reads = r }

-- code, LEN, phase, information; A0h has LEN 4 (001, table 6-38; CORRECTIONS)
unfoldable pub commands : List Entry
commands =
    entry 0x00 1 Command (plain Reset)
    ∷ entry verify_code 7 Command (paired Verify)
    ∷ entry erase_code 4 Command single
    ∷ entry blank_check_code 8 Command targeted
    ∷ entry programming_code 7 Command (paired Program)
    ∷ entry 0x9A 3 Speed rated
    ∷ entry ident_code 11 Ident (plain Identity)
    ∷ entry security_set_code 4 Command flagged
    ∷ entry 0xA1 1 Command (plain SecurityGet)
    ∷ entry 0xA2 1 Command (plain Release)
    ∷ entry 0xAC 5 Command windowed
    ∷ entry 0xAD 1 Command (plain WindowGet)
    ∷ entry checksum_code 7 Command (paired Checksum)
    ∷ []

-- Phases, by number
abbrev pub phase_number : Phase → ℕ
phase_number Mode = 0
phase_number Speed = 1
phase_number Ident = 2
phase_number Command = 3
phase_number Silent = 4

-- its first three columns in numbers, and the row with a code
abbrev pub columns : Entry → List ℕ
columns e = e.code ∷ e.len ∷ phase_number e.phase ∷ []

unfoldable pub rows : List (List ℕ)
rows = map columns commands

unfoldable pub lookup : List (List ℕ) → ℕ → CodeRow
lookup [] code = Unknown
lookup (r ∷ rs) code = cond (eqb (byte_at r 0) code) (Row (byte_at r 1) (byte_at r 2)) (lookup rs code)

abbrev pub allowed : Phase → CodeRow → Bool
allowed phase (Row len p) = eqb p (phase_number phase)
allowed phase Unknown = false

abbrev pub len_due : CodeRow → ℕ
len_due (Row len p) = len
len_due Unknown = 0

-- its last column, at a code
unfoldable pub read_as : List Entry → ℕ → Reading
read_as [] code chip f = Bad
read_as (e ∷ es) code chip f = cond (eqb e.code code) (e.reads chip f) (read_as es code chip f)

abbrev pub decoded : Chip → List ℕ → Decoded
decoded chip f = read_as commands (code_of f) chip f

-- ---- the verdict: rows 1 to 8 of the status table ----

-- rows 1 to 4 are the frame's own
unfoldable pub frame_checks : Phase → List ℕ → List (Rule Fault)
frame_checks phase f =
    rule EndByte (not (eqb (end_of f) last_end))
    ∷ rule Sum (not (sum_holds f))
    ∷ rule Code (not (allowed phase (lookup rows (code_of f))))
    ∷ rule (Length (len_due (lookup rows (code_of f))) (len_of f)) (not (eqb (len_of f) (len_due (lookup rows (code_of f)))))
    ∷ []

-- 02, M-100: "names the first byte that is not FFh by block and page (block in its flash, page in its block, from 0), with its flash, lowest
-- address first": the byte that is i bytes behind the first of block a, where there is one in the range
unfoldable pub used_from : Flash → Block → List ℕ → Note
used_from f a bytes =
    let i = blanks_before bytes in
    cond (ltb i (length bytes)) (Used f (block (a.0 + i / block_size f)) (i % block_size f / page_size)) Empty

abbrev pub used_in : Memory → Flash → Block → Block → Note
used_in m f a b = used_from f a (bytes_from m f a b)

-- rows 6 to 8 are the order's: "ID differs"; "Release: some flash byte not FFh", and 02, M-100: "1Bh in place 7"; "protected block ..; Release with SEPR or BTPR 0;
-- Window Set with FSPR 0"
unfoldable pub order_checks : Options → Memory → List ℕ → Order → List (Rule Fault)
order_checks o m f Reset = []
order_checks o m f (Verify g a b) = []
order_checks o m f (Erase g b) = rule Protected (erase_protected o g b) ∷ []
order_checks o m f (BlankCheck g a b tar) =
    rule (NotBlank (used_in m g a b)) (not (blank (bytes_from m g a b)))
    ∷ rule (NotBlank Bits) (eqb tar 1 && not (blank_options o))
    ∷ []
order_checks o m f (Program g a b) = []
order_checks o m f BaudRate = []
order_checks o m f Identity = rule fault.Ident (not (same (take ident_size (drop 3 f)) (ident_of m))) ∷ []
order_checks o m f (SecuritySet sf1 sf2) = []
order_checks o m f SecurityGet = []
order_checks o m f Release =
    rule (NotBlank Empty) (not (blank_memory m)) ∷ rule Protected (eqb (SEPR o) 0 || eqb (BTPR o) 0) ∷ []
order_checks o m f (WindowSet sws swe) = rule Protected (eqb (FSPR o) 0) ∷ []
order_checks o m f WindowGet = []
order_checks o m f (Checksum g a b) = []

-- a fault, or what comes where there is none
unfoldable pub unless : Fault → Judged → Judged
unless v next = cond (eqb (status_byte v) 0x06) next (Faulty v)

-- row 5: "address pair, erase address, BRT or VDD not valid"; then the order's rows
unfoldable pub judged_order : Options → Memory → List ℕ → Decoded → Judged
judged_order o m f Bad = Faulty Parameter
judged_order o m f (Is order) = unless (first_fault (order_checks o m f order)) (Ordered order)

-- THE VERDICT ON A COMMAND FRAME
unfoldable pub judged : Chip → Phase → Options → Memory → List ℕ → Judged
judged chip phase o m f = unless (first_fault (frame_checks phase f)) (judged_order o m f (decoded chip f))

-- ---- what an order does ----

abbrev pub ack : List ℕ
ack = one 0x06

-- acknowledged, with that task begun, or with those options
abbrev pub ack_task : Task → State → Out
ack_task t s = out (rest s.phase t s.options s.memory) ack

abbrev pub ack_options : Options → State → Out
ack_options o s = out (rest s.phase Idle o s.memory) ack

-- acknowledged, and a data frame behind it
abbrev pub ack_data : List ℕ → State → Out
ack_data body s = out (rest s.phase Idle s.options s.memory) (ack ++ frame data_start last_end body)

-- Verify and Programming wait for the pages of their range
abbrev pub pages_awaited : Flash → Block → Block → Pages
pages_awaited f a b = record { flash = f; page = first_page f a; left = pages_from f a b; status = 0x06 }

-- "success leads to Ident if IDEN is 0, else to Command"
abbrev pub after_speed : Options → Phase
after_speed o = cond (eqb (IDEN o) 0) Ident Command

-- "If IFPR is then 0 nothing is answered and the chip is Silent"
unfoldable pub secured : Options → State → Out
secured o s = cond (eqb (IFPR o) 0) (out (rest Silent Idle o s.memory) []) (ack_options o s)

-- THE COLUMN "answer when well", with what the command does
unfoldable pub done : Chip → State → Order → Out
done chip s Reset = ack_task Idle s
done chip s (Verify f a b) = ack_task (Verifying (pages_awaited f a b)) s
done chip s (Erase f b) = out (rest s.phase Idle s.options (erase_block s.memory f b)) ack
done chip s (BlankCheck f a b tar) = ack_task Idle s
done chip s (Program f a b) = ack_task (Programming (pages_awaited f a b)) s
done chip s BaudRate =
    out (rest (after_speed s.options) Idle s.options s.memory)
    (frame data_start last_end (0x06 ∷ 0x20 ∷ 0x00 ∷ []))
done chip s Identity = out (rest Command Idle s.options s.memory) ack
done chip s (SecuritySet sf1 sf2) = secured (security_set sf1 sf2 s.options) s
done chip s SecurityGet = ack_data (shownSF1 s.options ∷ shownSF2 s.options ∷ 0x00 ∷ []) s
done chip s Release = ack_options (release s.options) s
done chip s (WindowSet sws swe) = ack_options (window_set sws swe s.options) s
done chip s WindowGet = ack_data (word_bytes (shownSWS s.options) ++ word_bytes (shownSWE chip s.options)) s
done chip s (Checksum f a b) = ack_data (word_bytes (checksum (bytes_from s.memory f a b))) s
