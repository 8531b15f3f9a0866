-- The reader's words for a step that may not be there. Assumes nothing.
use Rattle.std.specs.Prelude.{Option, Some, None}
use Rattle.rules.specs.declared.Step.{Step}

abbrev pub Reading : Type 0
Reading = Option Step

pattern abbrev pub Is : Step → Reading
Is t = Some t

pattern abbrev pub NoStep : Reading
NoStep = None
