-- `standin_engine::held_count` meets its contract. Assumes nothing.
use mathlib.Core.Path.{sym, ◌∙◌}
use mathlib.Core.Bool.{false≢true}
use native.Mathlib.Omega.{arith}
use borrow.Author.Tests.{ltb-true, ltb-false, lt-ltb}
use Rattle.standin_engine.proofs.Receives.{held_small, held_more, held_none}
use Rattle.standin_engine.proofs.held_count.Goals as goal
use Rattle.standin_engine.proofs.held_count.Goals.{then-have-lt2, else-have-lt2}

pub returns-then-have-frame_size : goal.returns-then-have-frame_size
returns-then-have-frame_size c =
    elim c.if-have-lt2.branch [
      | then-have-lt2 w ↦ (held_small _ _ w.if-have-lt2.true, omega arith)
      | else-have-lt2 w ↦ let l = ltb-true _ _ (sym w.value-is ∙ c.if-have-frame_size.true) in (
        held_more _ _ w.if-have-lt2.false (rw w.frame_size.ensures.0 at l),
        omega (arith, l, w.frame_size.ensures),
      )
    ]

pub returns-else-have-frame_size : goal.returns-else-have-frame_size
returns-else-have-frame_size c =
    elim c.if-have-lt2.branch [
      | then-have-lt2 w ↦ absurd (false≢true (sym c.if-have-frame_size.false ∙ w.value-is ∙ lt-ltb _ _ w.if-have-lt2.true))
      | else-have-lt2 w ↦ (
        held_none _ _ w.if-have-lt2.false (rw w.frame_size.ensures.0 at (ltb-false _ _ (sym w.value-is ∙ c.if-have-frame_size.false))),
        omega arith,
      )
    ]
