-- `standin::opening::opening_verdict` meets its contract: each refusal has its law. Assumes nothing.
use mathlib.Core.Path.{sym, ◌∙◌}
use Rattle.standin_engine.proofs.Stays.{handed_on}
use Rattle.standin.proofs.Opens.{no_flash, no_room, roomy}
use Rattle.standin.proofs.opening.opening_verdict.Goals as goal

pub returns-in_err-flash_verdict : goal.returns-in_err-flash_verdict
returns-in_err-flash_verdict c =
    handed_on _ _ c.from_residual.ensures.1 ∙ no_flash _ _ _ _ _ (sym c.flash_verdict.ensures ∙ c.in_err-flash_verdict.was)

pub returns-then-answers-lt-OPENING_ROOM : goal.returns-then-answers-lt-OPENING_ROOM
returns-then-answers-lt-OPENING_ROOM c = no_room _ _ _ _ (sym c.flash_verdict.ensures ∙ c.in_ok-flash_verdict.was) c.if-answers-lt-OPENING_ROOM.true

pub returns : goal.returns
returns c = roomy _ _ _ _ (sym c.flash_verdict.ensures ∙ c.in_ok-flash_verdict.was) c.if-answers-lt-OPENING_ROOM.false
