-- 01, Trials 16: the text of a play, byte for byte. Assumes nothing.
use Rattle.std.specs.Prelude.{ℕ, zero, suc, ◌+◌, ◌/◌, ◌%◌, Bool, true, cond, not, ◌&&◌, List, [], ◌∷◌, ◌++◌, ltb, eqb, get_or}
use Prim.Native.Char.{code}
use Prim.Native.String.{String, [] as []ˢ, ◌∷◌ as ◌∷ˢ◌}
use Rattle.rules.specs.declared.Chip.{Chip}
use Rattle.rules.specs.declared.Refusal.{Refusal}
use Rattle.rules.specs.Answers.{Verdict, Accepted, Refused}
use Rattle.rules.specs.declared.Kind.{Kind}
use Rattle.rules.specs.declared.Kind.TheVariants.{Erase, Write, Verify, Sum, Blank, Lock}
use Rattle.rules.specs.declared.Status.{Status}
use Rattle.rules.specs.declared.Status.TheVariants.{Byte, L1}
use Rattle.rules.specs.declared.Report.{Report}
use Rattle.rules.specs.declared.Flash.{Flash}
use Rattle.rules.specs.declared.Flash.TheVariants.{Code, Data}
use Rattle.rules.specs.Notes.{Note, Empty, Used, Bits, EndByte, Length}
use Rattle.rules.specs.Sheet.{count, step_at}
use Rattle.rules.specs.Numbers.{refusal_number}

-- ---- words and numbers ----

-- the codes of a word
abbrev pub ascii : String → List ℕ
ascii []ˢ = []
ascii (c ∷ˢ s) = code c ∷ ascii s

-- the decimal digits of a number, none of 0; the first number bounds how many there are
unfoldable pub digits : ℕ → ℕ → List ℕ
digits zero n = []
digits (suc most) zero = []
digits (suc most) (suc n) = digits most (suc n / 10) ++ ((suc n % 10 + 48) ∷ [])

-- "the rest decimal": with no zero in front
unfoldable pub decimal : ℕ → List ℕ
decimal zero = ascii "0"
decimal (suc n) = digits (suc n) (suc n)

-- "Status and sum are upper-case hex": the last hex digit of a number; two and four digits
abbrev pub hex_digit : ℕ → ℕ
hex_digit n = get_or (ascii "0123456789ABCDEF") (n % 16) 0

abbrev pub hex2 : ℕ → List ℕ
hex2 n = hex_digit (n / 16) ∷ hex_digit n ∷ []

abbrev pub hex4 : ℕ → List ℕ
hex4 n = hex_digit (n / 4096) ∷ hex_digit (n / 256) ∷ hex_digit (n / 16) ∷ hex_digit n ∷ []

unfoldable pub status_text : Status → List ℕ
status_text (Byte b) = hex2 b
status_text L1 = ascii "L1"

unfoldable pub kind_text : Kind → List ℕ
kind_text Erase = ascii "erase"
kind_text Write = ascii "write"
kind_text Verify = ascii "verify"
kind_text Sum = ascii "sum"
kind_text Blank = ascii "blank"
kind_text Lock = ascii "lock"

-- ---- lines ----

abbrev pub heading : List ℕ
heading = ascii "step kind status frames sum\n"

-- "(number, kind, status, frames, sum)"
unfoldable pub step_line : ℕ → Kind → Status → ℕ → ℕ → List ℕ
step_line number kind status frames sum =
    decimal number ++ ascii " " ++ kind_text kind ++ ascii " " ++ status_text status ++ ascii " " ++ decimal frames ++ ascii " "
    ++ hex4 sum
    ++ ascii "\n"

unfoldable pub end_line : Report → List ℕ
end_line r =
    ascii "end " ++ status_text r.status ++ ascii " steps " ++ decimal r.steps ++ ascii " frames " ++ decimal r.frames
    ++ ascii " pieces "
    ++ decimal r.pieces
    ++ ascii "\n"

-- "A refused sheet prints one line, as `refused J7`"
unfoldable pub refused_line : Refusal → List ℕ
refused_line n =
    ascii "refused " ++ ((refusal_number n).letter ∷ []) ++ decimal (refusal_number n).number ++ ascii "\n"

-- of a stand-in that does not wait for a command: the refusal that has no number
abbrev pub busy_line : List ℕ
busy_line = ascii "refused busy\n"

-- 02, M-100 and M-101: the line of a note; none where it is empty
unfoldable pub flash_text : Flash → List ℕ
flash_text Code = ascii "code"
flash_text Data = ascii "data"

unfoldable pub note_line : Note → List ℕ
note_line Empty = []
note_line (Used f b k) = ascii "note " ++ flash_text f ++ ascii " " ++ decimal b.0 ++ ascii " " ++ decimal k ++ ascii "\n"
note_line Bits = ascii "note options\n"
note_line EndByte = ascii "note end\n"
note_line (Length due found) = ascii "note len " ++ hex2 due ++ ascii " " ++ hex2 found ++ ascii "\n"

-- ---- a play: the sheet, the report, the list of sums, and the list of the frames sent for each step ----

-- "status (06h if all done)": any other stopped the play
unfoldable pub stopped : Status → Bool
stopped (Byte b) = not (eqb b 0x06)
stopped L1 = true

-- "a line per finished or stopped step": that of step i, and none where it was not begun; "a step without a sum prints 0000"
unfoldable pub line_at : Chip → List ℕ → Report → List ℕ → List ℕ → ℕ → List ℕ
line_at chip s r sums frames i =
    let kind = (step_at chip s i).kind in
    cond (ltb i r.steps)
    (step_line (i + 1) kind (Byte 0x06) (get_or frames i 0) (get_or sums i 0))
    (cond (eqb i r.steps && stopped r.status) (step_line (i + 1) kind r.status (get_or frames i 0) 0) [])

-- step i and those behind it, so many
unfoldable pub lines_from : Chip → List ℕ → Report → List ℕ → List ℕ → ℕ → ℕ → List ℕ
lines_from chip s r sums frames i zero = []
lines_from chip s r sums frames i (suc left) =
    line_at chip s r sums frames i ++ lines_from chip s r sums frames (i + 1) left

-- THE TEXT OF A PLAY: "a heading, a line per finished or stopped step and the end line"
unfoldable pub play_text : Chip → List ℕ → Report → List ℕ → List ℕ → List ℕ
play_text chip s r sums frames = heading ++ lines_from chip s r sums frames 0 (count s) ++ end_line r

-- what is printed of a sheet, by its verdict: the text of its play, or the refused line
unfoldable pub verdict_text : Verdict → List ℕ → List ℕ
verdict_text Accepted play = play
verdict_text (Refused n) play = refused_line n
