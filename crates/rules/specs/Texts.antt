-- What is printed of a sheet, from its bytes on: the definition to compute a case by (docs/COMPUTE.md). Assumes nothing.
use Rattle.std.specs.Prelude.{ℕ, List, replicate}
use Rattle.rules.specs.declared.Options.{Options}
use Rattle.rules.specs.Chip.{small, fresh_memory}
use Rattle.rules.specs.Sheet.{verdict}
use Rattle.rules.specs.Meaning.{meaning}
use Rattle.rules.specs.Text.{play_text, verdict_text}

-- what is printed of a sheet for a chip with these options and blank flash, a list of so many sums, and these frames for each step
unfoldable pub printed : Options → List ℕ → ℕ → List ℕ → List ℕ
printed o s room frames =
    let e = meaning small s o (fresh_memory small) (replicate room 0) in
    verdict_text (verdict small s room) (play_text small s e.report e.sums frames)
