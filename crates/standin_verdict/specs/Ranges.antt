-- Rows of the status table over the bytes that a range shows. Assumes nothing.
use Rattle.std.specs.Prelude.{ℕ, not, ◌&&◌, List, [], ◌∷◌, eqb}
use Rattle.rules.specs.declared.Flash.{Flash}
use Rattle.rules.specs.declared.Block.{Block}
use Rattle.rules.specs.declared.Options.{Options}
use Rattle.rules.specs.Notes.{Bits}
use Rattle.rules.specs.Faults.{Fault, NotBlank}
use Rattle.rules.specs.First.{Rule, rule}
use Rattle.rules.specs.Chip.{blank}
use Rattle.rules.specs.Options.{blank_options}
use Rattle.rules.specs.Command.{used_from}

-- row 7 of Blank Check over blocks from a on: flash, then the option bits where TAR counts them in
unfoldable pub blank_rows : Options → List ℕ → Flash → Block → ℕ → List (Rule Fault)
blank_rows o bytes g a tar =
    rule (NotBlank (used_from g a bytes)) (not (blank bytes))
    ∷ rule (NotBlank Bits) (eqb tar 1 && not (blank_options o))
    ∷ []
