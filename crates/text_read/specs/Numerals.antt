-- Numbers of digits, most significant first. Assumes nothing.
use Rattle.std.specs.Prelude.{ℕ, ◌+◌, ◌*◌, cond, ◌&&◌, List, [], ◌∷◌, eqb, ltb, leb, length, get_or}
use Rattle.rules.specs.Lines.{digit}
use Rattle.text_read.specs.Answers.{Number, Value, Bad}

-- digits of a base behind a number that was read: each makes a number of one digit more, which must be no more than `most`
unfoldable pub numeral : ℕ → ℕ → ℕ → List ℕ → Number
numeral base most n [] = Value n
numeral base most n (b ∷ t) =
    cond (ltb (digit b) base && leb (n * base + digit b) most) (numeral base most (n * base + digit b) t) Bad

-- a decimal number: at least one digit, and no zero in front of another
unfoldable pub decimal_of : ℕ → List ℕ → Number
decimal_of most t =
    cond (eqb (length t) 0)
    Bad
    (cond (eqb (length t) 1) (numeral 10 most 0 t) (cond (eqb (get_or t 0 0) 0x30) Bad (numeral 10 most 0 t)))

-- a number of just so many hex digits, and of 32 bits
unfoldable pub hex_of : ℕ → List ℕ → Number
hex_of digits t = cond (eqb (length t) digits) (numeral 16 0xFFFFFFFF 0 t) Bad
