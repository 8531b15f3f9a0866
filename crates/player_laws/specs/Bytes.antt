-- Lists of bytes. Assumes nothing.
use Rattle.std.specs.Prelude.{ℕ, ◌<◌, List}
use Rattle.rules.specs.Chip.{byte_at}

-- no element is over 255 (past the end `byte_at` is 0)
abbrev pub Bytes : List ℕ → Type 0
Bytes xs = (i : ℕ) → byte_at xs i < 256
