-- What the code of a capture comes to, in the terms of the definitions. Assumes nothing.
use Rattle.rules.specs.Chip.{Memory}
use Rattle.rules.specs.Capture.{Looked}
use Rattle.text_capture.specs.declared.LookedOver.{LookedOver}

-- what a call came to
abbrev pub looked_as : LookedOver → Memory → Looked
looked_as r m = record { verdict = r.verdict; options = r.options; memory = m }
