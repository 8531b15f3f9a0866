-- A session written down as a capture: what a turn's lines are. Assumes nothing.
use Rattle.std.specs.Prelude.{ℕ, List, [], ◌∷◌, ◌++◌}
use Rattle.rules.specs.Capture.{sent_sign, given_sign}
use Rattle.text_lines.specs.Rows.{row_text}

-- a sign, the bytes as ` HH HH ..`, and LF
unfoldable pub line_told : ℕ → List ℕ → List ℕ
line_told sign bs = sign ∷ (row_text bs ++ (0x0A ∷ []))

-- an answer that has no bytes has no line
unfoldable pub answer_told : List ℕ → List ℕ
answer_told [] = []
answer_told (b ∷ bs) = line_told given_sign (b ∷ bs)

-- A TURN, WRITTEN DOWN
unfoldable pub turn_told : List ℕ → List ℕ → List ℕ
turn_told sent answer = line_told sent_sign sent ++ answer_told answer
