-- `text_show::map::block_mark` meets its contract: after the steps that were gone through. Assumes nothing.
use mathlib.Core.Path.{refl, sym, ap, ◌∙◌}
use native.Mathlib.Omega.{arith}
use Rattle.rules.specs.declared.Step.{Step}
use Rattle.text_show.specs.Map.{mark_by, mark_after}
use Rattle.text_show.proofs.Marks.{one_more_step}
use Rattle.text_show.proofs.map.block_mark.Goals as goal

pub loop-i-init : goal.loop-i-init
unfolding mark_after
loop-i-init c = (omega arith, c.count-i-end.ensures.1, c.count-i-end.ensures.0, refl)

pub loop-i-preserved : goal.loop-i-preserved
loop-i-preserved c =
    let l = c.loop-i in
    let a = c.args in (
      omega arith,
      omega arith,
      l.invariant.2,
      c.mark_by-c.ensures
          ∙ ap (λ (t : Step). mark_by t a.f a.b l.c) c.step_at.ensures
          ∙ ap (mark_by _ a.f a.b) l.invariant.3
          ∙ sym (one_more_step a.chip a.sheet.now a.f a.b l.i),
    )
