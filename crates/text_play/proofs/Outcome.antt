-- The text of what a joined call came to, by its parts. Assumes nothing.
use mathlib.Core.Path.{◌≡◌, subst}
use mathlib.Core.List.{List}
use Prim.Native.Nat.{ℕ}
use Rattle.rules.specs.declared.Chip.{Chip}
use Rattle.rules.specs.declared.Report.{Report}
use Rattle.rules.specs.Player.{report_of}
use Rattle.rules.specs.Run.{Joined}
use Rattle.rules.specs.Text.{play_text}
use Rattle.text_out.specs.Out.{Filled}
use Rattle.joined.specs.Answers.{Answer}
use Rattle.joined.specs.Plays.{SheetOutcome, sheet_outcome}
use Rattle.text_play.specs.Told.{answer_text, outcome_text}

pub told_as : (chip : Chip) (s : List ℕ) (a : Answer) (j : Joined) (each : List ℕ) (r : Report) (o : SheetOutcome) (before after : List ℕ) (n : ℕ)
    → r ≡ report_of j.player
    → sheet_outcome a j each ≡ o
    → Filled (answer_text a (play_text chip s r j.sums each)) before n after
    → Filled (outcome_text chip s o) before n after
told_as chip s a j each r o before after n e f h =
    subst (λ (x : SheetOutcome). Filled (outcome_text chip s x) before n after) f
    (subst (λ (q : Report). Filled (answer_text a (play_text chip s q j.sums each)) before n after) e h)
