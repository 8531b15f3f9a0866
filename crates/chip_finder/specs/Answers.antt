-- The finder's words for what is an Option in code. Assumes nothing.
use Rattle.std.specs.Prelude.{ℕ, Option, Some, None}
use Rattle.rules.specs.declared.Block.{Block}

-- a byte by its block and its offset in it, or no byte of the flash
abbrev pub Spot : Type 0
Spot = Option (Block × ℕ)

pattern abbrev pub At : Block → ℕ → Spot
At b o = Some (b, o)

pattern abbrev pub Outside : Spot
Outside = None

-- where parts lie in a flash: from and up to which byte, or not there
abbrev pub Place : Type 0
Place = Option (ℕ × ℕ)

pattern abbrev pub Bytes : ℕ → ℕ → Place
Bytes at end = Some (at, end)

pattern abbrev pub Missing : Place
Missing = None
