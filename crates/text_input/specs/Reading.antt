-- What reading to the end leaves.
use Rattle.std.specs.Prelude.{ℕ, ◌<◌, ◌≤◌, List, length, take, ⊤, Result, Ok, Err}
use Rattle.std.specs.Io.KnownBytes.{Consumes, IsAtEnd}
use Rattle.std.specs.declared.option.Option.{Option}
use Rattle.text_input.specs.declared.Unread.{Unread}

-- how many bytes were read, or that a read failed: a Result in code
abbrev pub Input : Type 0
Input = Result ℕ Unread

pattern abbrev pub Read : ℕ → Input
Read n = Ok n

pattern abbrev pub Failed : Unread → Input
Failed u = Err u

-- of a reader whose bytes are known: the first n of the buffer are those that it gave, and none is left where the buffer has room
abbrev pub ReadsToEnd : Option (List ℕ) → Option (List ℕ) → Input → List ℕ → Type 0
ReadsToEnd old new (Read n) buffer = (n ≤ length buffer) × Consumes old new (take n buffer) × (n < length buffer → IsAtEnd new)
ReadsToEnd old new (Failed u) buffer = ⊤
