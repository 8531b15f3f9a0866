-- `standin::call::off`: nothing received, and a fresh chip's options. Assumes nothing.
use mathlib.Core.Path.{ap, ◌∙◌}
use lib.ListN.{replicate}
use Rattle.rules.specs.declared.Options.{Options}
use Rattle.rules.specs.declared.Phase.TheVariants.{Silent}
use Rattle.rules.specs.declared.Task.TheVariants.{Idle}
use Rattle.rules.specs.StandIn.{rest, received}
use Rattle.standin_state.specs.declared.Core.{Core}
use Rattle.standin_engine.specs.View.{view}
use Rattle.standin.proofs.call.off.Goals as goal

pub returns-clause-m_value : goal.returns-clause-m_value
unfolding received
returns-clause-m_value c m =
    ap (λ (k : Core). view k (replicate 260 0) m) c.at_rest.ensures
    ∙ ap (λ (o : Options). rest Silent Idle o m) c.fresh.ensures
