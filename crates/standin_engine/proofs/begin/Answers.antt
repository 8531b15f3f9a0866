-- `standin_engine::begin` meets its contract. Assumes nothing.
use mathlib.Core.Path.{refl, sym, ap, ◌∙◌}
use mathlib.Core.List.{[], ◌∷◌}
use native.Mathlib.Omega.{arith}
use Rattle.rules.specs.StandIn.{start_of}
use Rattle.standin_engine.specs.View.{view, holds}
use Rattle.standin_engine.proofs.Receives.{skipped, begun, held_as, first_got, none_got}
use Rattle.standin_engine.proofs.begin.Goals as goal

pub returns-then-byte-start_of : goal.returns-then-byte-start_of
returns-then-byte-start_of c =
    let a = c.args in
    λ m reply.
    held_as (view (holds a.c 0) a.held.now m) [] _ reply (none_got 0 a.held.now refl)
    (skipped a.chip (view a.c a.held.now m) a.byte (λ z. c.if-byte-start_of.true (z ∙ ap start_of (sym c.task_now.ensures) ∙ sym c.start_of.ensures)))

pub returns : goal.returns
returns c =
    let a = c.args in
    λ m reply.
    held_as _ (a.byte ∷ []) _ reply (first_got a.held.now a.byte (omega arith))
    (begun a.chip (view a.c a.held.now m) a.byte (c.if-byte-start_of.false ∙ c.start_of.ensures ∙ ap start_of c.task_now.ensures))
