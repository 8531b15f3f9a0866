-- Bytes and words as text: ` HH` and ` HHHH` each. Assumes nothing.
use Rattle.std.specs.Prelude.{ℕ, List, [], ◌∷◌, ◌++◌}
use Rattle.rules.specs.Text.{hex2, hex4}

abbrev pub byte_text : ℕ → List ℕ
byte_text b = 0x20 ∷ hex2 b

abbrev pub word_text : ℕ → List ℕ
word_text w = 0x20 ∷ hex4 w

unfoldable pub row_text : List ℕ → List ℕ
row_text [] = []
row_text (b ∷ bs) = byte_text b ++ row_text bs
