-- The reader's words for a number, and for a chip, that may not stand there. Assumes nothing.
use Rattle.std.specs.Prelude.{ℕ, Option, Some, None}
use Rattle.rules.specs.declared.Chip.{Chip}

abbrev pub Number : Type 0
Number = Option ℕ

pattern abbrev pub Value : ℕ → Number
Value n = Some n

pattern abbrev pub Bad : Number
Bad = None

abbrev pub Named : Type 0
Named = Option Chip

pattern abbrev pub Is : Chip → Named
Is chip = Some chip

pattern abbrev pub NoChip : Named
NoChip = None
