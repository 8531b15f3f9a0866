-- What the code of a session's lines comes to, in the terms of the definitions. Assumes nothing.
use Rattle.std.specs.Prelude.{ℕ, Bool, false, ◌||◌, Option, Some, None, List, eqb, drop}
use Rattle.rules.specs.Chip.{byte_at, same}
use Rattle.rules.specs.Capture.{sent_sign, given_sign}

-- a line that begins as one that has pairs
abbrev pub has_sign : List ℕ → Bool
has_sign l = eqb (byte_at l 0) sent_sign || eqb (byte_at l 0) given_sign

-- what is still due is all that the row has behind what was answered so far; nothing makes a wrong answer right
unfoldable pub matches : Option ℕ → List ℕ → List ℕ → Bool
matches None due row = false
matches (Some at) due row = same due (drop at row)
