-- A sheet played by the joined call, and the text of what came of it. Assumes nothing.
use Rattle.std.specs.Prelude.{ℕ, List, replicate}
use Rattle.rules.specs.declared.Chip.{Chip}
use Rattle.rules.specs.StandIn.{State}
use Rattle.rules.specs.Player.{report_of}
use Rattle.rules.specs.Run.{joined_at_start}
use Rattle.rules.specs.Text.{refused_line, busy_line, play_text}
use Rattle.joined.specs.Answers.{Answer, Refused, NotAtStep, Busy, Played}
use Rattle.joined.specs.Plays.{SheetOutcome, sheet_played}

-- a new player and this stand-in, with buffers as small as they may be, and lists of 64 zeros
abbrev pub played : Chip → List ℕ → State → SheetOutcome
played chip s st =
    sheet_played chip s (joined_at_start st (replicate 260 0) (replicate 16 0) (replicate 64 0)) (replicate 64 0)

-- by the answer: the refusal, that the stand-in does not wait (of a whole sheet it is never said that it is not at a step), or the play
unfoldable pub answer_text : Answer → List ℕ → List ℕ
answer_text (Refused n) play = refused_line n
answer_text NotAtStep play = busy_line
answer_text Busy play = busy_line
answer_text Played play = play

abbrev pub outcome_text : Chip → List ℕ → SheetOutcome → List ℕ
outcome_text chip s o = answer_text o.answer (play_text chip s (report_of o.reached.player) o.reached.sums o.each)
