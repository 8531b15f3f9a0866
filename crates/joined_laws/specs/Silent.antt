-- 02, M-106: "A lock that clears IFPR .. counts as finished, the report is 06h, and demand 3 then ends with a Silent chip": after a play the chip
-- is Silent exactly there. Assumes nothing.
use Rattle.std.specs.Prelude.{ℕ, ◌+◌, ◌≡◌, true, List}
use Rattle.rules.specs.declared.Chip.{Chip}
use Rattle.rules.specs.declared.Kind.TheVariants.{Lock}
use Rattle.rules.specs.declared.Phase.TheVariants.{Silent}
use Rattle.rules.specs.declared.Status.TheVariants.{Byte}
use Rattle.rules.specs.Sheet.{count, clears, step_at}
use Rattle.rules.specs.Player.{report_of}
use Rattle.rules.specs.Run.{Ran}

-- the last step of the sheet is a lock that clears IFPR
pub record LastClears (chip : Chip) (s : List ℕ) : Type 0 where
  pub last : ℕ
  pub all : last + 1 ≡ count s
  pub lock : (step_at chip s last).kind ≡ Lock
  pub clearing : clears (step_at chip s last).flags ≡ true

-- SILENT EXACTLY where all steps are done and the last is such a lock
abbrev pub SilentExactly : Chip → List ℕ → Ran → Type 0
SilentExactly chip s r =
    let done = (report_of r.reached.player).status ≡ Byte 0x06 in
    (r.reached.state.phase ≡ Silent → done × LastClears chip s)
    × (done → LastClears chip s → r.reached.state.phase ≡ Silent)
