-- `standin::call::power_on` meets its contract: refused by what is lent, or powered. Assumes nothing.
use mathlib.Core.Path.{refl, sym, ap, ◌∙◌}
use Rattle.rules.specs.Answers.{Answer}
use Rattle.rules.specs.Numbers.{call_number}
use Rattle.rules.specs.StandIn.{Powered, received}
use Rattle.chip_finder.specs.LentFlashes.{memory}
use Rattle.standin_state.specs.declared.Core.{Core}
use Rattle.standin_engine.specs.View.{view}
use Rattle.standin.proofs.Powers.{power_refused, power_well}
use Rattle.standin.proofs.call.power_on.Goals as goal

pub returns-in-Err : goal.returns-in-Err
returns-in-Err c =
    let e = power_refused _ _ _ _ _ (sym c.in-Err.ensures) in record {
      chip_value = refl;
      data_value = e;
      call_value = ap (λ (p : Powered). call_number p.call) e;
      stands = λ refused. refl;
    }

pub returns-in-Ok : goal.returns-in-Ok
unfolding received
returns-in-Ok c =
    let a = c.args in
    let m = memory a.code.now a.«data».now in
    let on : Core → Powered = λ k. record { state = view k a.d.held m; call = Answer 0 } in
    let w = ap on c.powered.ensures ∙ power_well _ _ _ _ (sym c.in-Ok.ensures) in record {
      chip_value = refl;
      data_value = w;
      call_value = ap (λ (p : Powered). call_number p.call) w;
      stands = λ refused. absurd (refused refl);
    }
