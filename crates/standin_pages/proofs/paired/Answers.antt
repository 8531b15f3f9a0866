-- `standin_pages::paired` meets its contract: there is room for the pair. Assumes nothing.
use mathlib.Core.Path.{ap, ◌∙◌}
use native.Mathlib.Omega.{arith}
use Rattle.rules.specs.Frame.{pair}
use Rattle.frame_build.proofs.Buffers.{bytes_fit, length_frame, count_put, buffer_put}
use Rattle.standin_state.specs.declared.Response.{Response}
use Rattle.standin_pages.proofs.paired.Goals as goal

pub returns : goal.returns
returns c =
    let a = c.args in
    let e = c.put_pair-n.ensures ∙ bytes_fit (pair a.line a.status) a.reply.now (rw length_frame (omega arith)) in
    λ m. (rw (c.resting.ensures, count_put _ _ e, buffer_put _ _ e), ap (λ (r : Response). r.core.have) c.resting.ensures)
