-- 01, Frames, and Status bytes and their order (001, section 5): building a frame, reading one, judging it. Assumes nothing.
use Rattle.std.specs.Prelude.{ℕ, ◌+◌, ◌-◌, ◌%◌, Bool, true, false, cond, not, ◌&&◌, List, [], ◌∷◌, ◌++◌, leb, eqb, length, take, drop}
use Rattle.rules.specs.Faults.{Fault, Well, EndByte, Sum, Code, Length, Parameter, Ident, NotBlank, Protected, PageNotBlank, Difference}
use Rattle.rules.specs.Notes.{Note, Empty}
use Rattle.rules.specs.Notes as note
use Rattle.rules.specs.First.{rule, first_fault}
use Rattle.rules.specs.Chip.{byte_at, total}

-- "Command: 01h, .., 03h. Data: 02h, .., 03h for the last, 17h where more follow"
abbrev pub command_start : ℕ
command_start = 0x01

abbrev pub data_start : ℕ
data_start = 0x02

abbrev pub last_end : ℕ
last_end = 0x03

abbrev pub more_end : ℕ
more_end = 0x17

abbrev pub end_due : Bool → ℕ
end_due true = last_end
end_due false = more_end

-- "LEN 00h means 256"; LEN fixes where the end byte is looked for
unfoldable pub body_size : ℕ → ℕ
body_size len = cond (eqb len 0x00) 256 len

unfoldable pub frame_size : ℕ → ℕ
unfolding body_size
frame_size len = body_size len + 4

-- building: "LEN + body + SUM is 0 modulo 256"
abbrev pub len_byte : List ℕ → ℕ
len_byte body = length body % 256

unfoldable pub sum_byte : List ℕ → ℕ
sum_byte body = (256 - (len_byte body + total body) % 256) % 256

unfoldable pub frame : ℕ → ℕ → List ℕ → List ℕ
frame start end body = start ∷ len_byte body ∷ (body ++ (sum_byte body ∷ end ∷ []))

-- answers of one byte and of two
abbrev pub one : ℕ → List ℕ
one a = frame data_start last_end (a ∷ [])

abbrev pub pair : ℕ → ℕ → List ℕ
pair a b = frame data_start last_end (a ∷ b ∷ [])

-- reading: LEN, body, end byte, SUM
abbrev pub len_of : List ℕ → ℕ
len_of f = byte_at f 1

abbrev pub body_of : List ℕ → List ℕ
body_of f = take (body_size (len_of f)) (drop 2 f)

abbrev pub end_of : List ℕ → ℕ
end_of f = byte_at f (body_size (len_of f) + 3)

-- "LEN + body + SUM is 0 modulo 256", of a frame with a body of n bytes; and of a frame by its own LEN
abbrev pub adds_up : ℕ → List ℕ → Bool
adds_up n f = eqb (total (take (n + 2) (drop 1 f)) % 256) 0

abbrev pub sum_holds : List ℕ → Bool
sum_holds f = adds_up (body_size (len_of f)) f

-- what has come is a whole frame
unfoldable pub whole : List ℕ → Bool
whole g = leb 2 (length g) && eqb (length g) (frame_size (len_of g))

-- ---- Status bytes and their order ----

-- the byte of each row of 01's table, in its order; 06h is none of them
abbrev pub status_byte : Fault → ℕ
status_byte Well = 0x06
status_byte EndByte = 0x15
status_byte Sum = 0x07
status_byte Code = 0x04
status_byte (Length due found) = 0x15
status_byte Parameter = 0x05
status_byte Ident = 0x24
status_byte (NotBlank n) = 0x1B
status_byte Protected = 0x10
status_byte PageNotBlank = 0x1C
status_byte Difference = 0x0F

-- 02, M-100 and M-101: what the note tells of it
abbrev pub note_of : Fault → Note
note_of Well = Empty
note_of EndByte = note.EndByte
note_of Sum = Empty
note_of Code = Empty
note_of (Length due found) = note.Length due found
note_of Parameter = Empty
note_of Ident = Empty
note_of (NotBlank n) = n
note_of Protected = Empty
note_of PageNotBlank = Empty
note_of Difference = Empty

-- a data frame: 15h also "03h for 17h or the reverse"; then SUM; then "data LEN not 00h"
unfoldable pub data_fault : Bool → List ℕ → Fault
data_fault last f =
    first_fault
    (rule EndByte (not (eqb (end_of f) (end_due last)))
    ∷ rule Sum (not (sum_holds f))
    ∷ rule (Length 0x00 (len_of f)) (not (eqb (len_of f) 0x00))
    ∷ [])
