-- `standin_state::lent::lent_verdict` meets its contract: what the flashes are refused for is the first refusal. Assumes nothing.
use mathlib.Core.Path.{sym, ◌∙◌}
use Rattle.std.proofs.lemmas.Result.{err_from_is_err_and}
use Rattle.standin_state.proofs.Lending.{no_flash}
use Rattle.standin_state.proofs.lent.lent_verdict.Goals as goal

pub returns-in_err-flash_verdict : goal.returns-in_err-flash_verdict
returns-in_err-flash_verdict c =
    let p = err_from_is_err_and c.from_residual.result c.from_residual.ensures.1 in
    rw (p.1, p.2) (no_flash _ _ _ _ _ (sym c.flash_verdict.ensures ∙ c.in_err-flash_verdict.was))
