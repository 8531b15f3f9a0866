-- `sheet::steps::step_at` meets its contract: the step of the fields. Assumes nothing.
use mathlib.Core.Path.{◌∙◌}
use Rattle.sheet.proofs.Fields.{step_said}
use Rattle.sheet.proofs.steps.step_at.Goals as goal

pub returns : goal.returns
returns c =
    let a = c.args in
    c.step_of.ensures
    ∙ rw (c.flags_of.ensures, c.kind_of.ensures, c.range-range.ensures) (step_said a.chip a.sheet.now a.i c.entry_at-e.result c.entry_at-e.ensures)
