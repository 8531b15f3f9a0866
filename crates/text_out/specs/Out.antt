-- Text appended to a buffer: as much of it as there is room for. Assumes nothing.
use Rattle.std.specs.Prelude.{ℕ, ◌+◌, ◌≤◌, ◌≡◌, cond, List, [], ◌∷◌, ltb, length, set, take}
use Rattle.io.specs.Counts.{IsPrefixLen}

-- a buffer, and the place in it where the next byte goes
pub record Out : Type 0 where
  pub at : ℕ
  pub bytes : List ℕ

abbrev pub out : ℕ → List ℕ → Out
out n b = record { at = n; bytes = b }

-- a byte, where there is room; else nothing
unfoldable pub add_byte : ℕ → Out → Out
add_byte x o = cond (ltb o.at (length o.bytes)) (out (o.at + 1) (set o.bytes o.at x)) o

-- a text, byte by byte
unfoldable pub add : List ℕ → Out → Out
add [] o = o
add (x ∷ t) o = add t (add_byte x o)

-- a buffer filled with a text from its first byte on, before and after: n of its bytes are filled, and they are the text if there was room for all of it
abbrev pub Filled : List ℕ → List ℕ → ℕ → List ℕ → Type 0
Filled text before n after =
    (out n after ≡ add text (out 0 before)) × IsPrefixLen n after × (length text ≤ length before → take n after ≡ text)
