-- What the program `capture` writes of a verdict. Assumes nothing.
use Rattle.std.specs.Prelude.{ℕ, List, ◌++◌}
use Rattle.rules.specs.CaptureVerdicts.{CaptureVerdict, Accepted, Wrong, BadForm, Refused}
use Rattle.rules.specs.Text.{ascii, decimal, refused_line}

unfoldable pub line_told : List ℕ → ℕ → List ℕ
line_told words n = words ++ decimal n ++ ascii "\n"

unfoldable pub verdict_told : CaptureVerdict → List ℕ
verdict_told Accepted = ascii "accepted\n"
verdict_told (Wrong n) = line_told (ascii "wrong line ") n
verdict_told (BadForm n) = line_told (ascii "bad form line ") n
verdict_told (Refused n) = refused_line n
