-- 01's own number or value for each case of an enum that is an answer. Assumes nothing.
use Rattle.std.specs.Prelude.{ℕ, List, [], ◌∷◌}
use Rattle.rules.specs.declared.numbers.Number.{Number}
use Rattle.rules.specs.declared.Refusal.{Refusal}
use Rattle.rules.specs.declared.Refusal.TheVariants.{D0, D1, D2, D3, E1, J1, J2, J3, J4, J5, J6, J7, J8, J9, J10, J11, J12, J13, J14, J15, J16, P1, P2}
use Rattle.rules.specs.Answers.{Call, Verdict, Next, Refused, Accepted, Answer, Frame, End}
use Rattle.rules.specs.declared.Status.{Status}
use Rattle.rules.specs.declared.Status.TheVariants.{Byte, L1}
use Rattle.rules.specs.declared.Flash.{Flash}
use Rattle.rules.specs.declared.Flash.TheVariants.{Code, Data}
use Rattle.rules.specs.Notes.{Note, Empty, Used, Bits, EndByte, Length}
use Rattle.rules.specs.declared.Kind.{Kind}
use Rattle.rules.specs.declared.Kind.TheVariants.{Erase, Write, Verify, Sum, Blank, Lock}

abbrev number : ℕ → ℕ → Number
number l n = record { letter = l; number = n }

-- Status bytes (D), The job sheet (J, P); 02, M-109 (E), M-106 (J11 to J16) and M-107 (J13)
abbrev pub refusal_number : Refusal → Number
refusal_number D0 = number 0x44 0
refusal_number D1 = number 0x44 1
refusal_number D2 = number 0x44 2
refusal_number D3 = number 0x44 3
refusal_number E1 = number 0x45 1
refusal_number J1 = number 0x4A 1
refusal_number J2 = number 0x4A 2
refusal_number J3 = number 0x4A 3
refusal_number J4 = number 0x4A 4
refusal_number J5 = number 0x4A 5
refusal_number J6 = number 0x4A 6
refusal_number J7 = number 0x4A 7
refusal_number J8 = number 0x4A 8
refusal_number J9 = number 0x4A 9
refusal_number J10 = number 0x4A 10
refusal_number J11 = number 0x4A 11
refusal_number J12 = number 0x4A 12
refusal_number J13 = number 0x4A 13
refusal_number J14 = number 0x4A 14
refusal_number J15 = number 0x4A 15
refusal_number J16 = number 0x4A 16
refusal_number P1 = number 0x50 1
refusal_number P2 = number 0x50 2

-- a byte call: the refusal, or the length of the answer
abbrev pub call_number : Call → Number
call_number (Refused n) = refusal_number n
call_number (Answer n) = number 0 n

-- a sheet's verdict: the refusal, or nothing
abbrev pub verdict_number : Verdict → Number
verdict_number Accepted = number 0 0
verdict_number (Refused n) = refusal_number n

-- a player call: the refusal, the length of the frame, or 0 at the end
abbrev pub next_number : Next → Number
next_number (Refused n) = refusal_number n
next_number (Frame n) = number 0 n
next_number End = number 0 0

-- a report's status: a byte of the status table, or L1
abbrev pub status_number : Status → Number
status_number (Byte b) = number 0 b
status_number L1 = number 0x4C 1

-- "Kinds: 1 erase, 2 write, 3 verify, 4 sum"; 02, M-106: "kind 5, blank check .., and kind 6, lock"
abbrev pub kind_number : Kind → ℕ
kind_number Erase = 1
kind_number Write = 2
kind_number Verify = 3
kind_number Sum = 4
kind_number Blank = 5
kind_number Lock = 6

-- 02, M-100 and M-101: what a note says, in numbers: which note it is; then its flash (0 code, 1 data), block and page, or the LEN expected and found
abbrev pub flash_number : Flash → ℕ
flash_number Code = 0
flash_number Data = 1

abbrev pub note_numbers : Note → List ℕ
note_numbers Empty = []
note_numbers (Used f b k) = 1 ∷ flash_number f ∷ b.0 ∷ k ∷ []
note_numbers Bits = 2 ∷ []
note_numbers EndByte = 3 ∷ []
note_numbers (Length due found) = 4 ∷ due ∷ found ∷ []
