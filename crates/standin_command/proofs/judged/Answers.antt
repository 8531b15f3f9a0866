-- `standin_command::judged` meets its contract: a fault of the frame is answered, else its command refused or done. Assumes nothing.
use mathlib.Core.Path.{◌≡◌, refl, sym, ap, ◌∙◌}
use Prim.Native.Nat.{ℕ, ◌-◌}
use native.Mathlib.Omega.{arith}
use lib.ListN.{take}
use Rattle.rules.specs.Answers.{Judged}
use Rattle.rules.specs.Frame.{frame_size, len_of}
use Rattle.rules.specs.Command.{decoded, judged_order, judged}
use Rattle.rules.specs.StandIn.{on_judged, on_command}
use Rattle.chip_finder.specs.LentFlashes.{memory}
use Rattle.standin_state.specs.View.{idle}
use Rattle.standin_verdict.proofs.Verdicts.{stopped_by, well_on}
use Rattle.standin_command.specs.Ordered.{on_order}
use Rattle.standin_state.proofs.Handed.{same_out}
use Rattle.standin_command.proofs.judged.Goals as goal

pub returns-in-Err : goal.returns-in-Err
unfolding on_command on_judged judged
returns-in-Err c =
    let a = c.args in
    let m = memory a.code.now a.«data».now in
    let j = stopped_by _ _ (sym c.in-Err.is ∙ c.judge_command.ensures) _ _ refl in
    same_out _ _ _ _ _ _ (ap (λ (x : Judged). on_judged x a.chip (idle a.c m)) j) (c.refuse.ensures m)

pub returns : goal.returns
unfolding on_command judged
returns c =
    let a = c.args in
    let b = a.frame.now in
    let m = memory a.code.now a.«data».now in
    let n = c.frame_size.result - 0 in
    let size : n ≡ frame_size (len_of b) = omega (arith, c.frame_size.ensures.0) in
    let j = well_on _ _ c.judge_command.ensures (judged_order a.c.options m (take (frame_size (len_of b)) b) (decoded a.chip (take (frame_size (len_of b)) b))) c.in_default.is in
    same_out _ _ _ _ _ _ (ap (λ (k : ℕ). on_order a.chip a.c m (take k b) (decoded a.chip (take k b))) size ∙ ap (λ (x : Judged). on_judged x a.chip (idle a.c m)) j) c.obey.ensures
