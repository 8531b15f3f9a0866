-- `standin_frames::is_whole` meets its contract. Assumes nothing.
use mathlib.Core.Path.{sym, ap, ◌∙◌}
use mathlib.Core.Bool.{false≢true}
use Prim.Native.Nat.{ℕ}
use native.Mathlib.Omega.{arith}
use lib.Dec.{eqb}
use lib.ListN.{length}
use borrow.Author.Tests.{eqb-true, lt-leb}
use Rattle.standin_frames.proofs.Frames.{too_short, by_len}
use Rattle.standin_frames.proofs.is_whole.Goals as goal

pub returns-then-input-ge2 : goal.returns-then-input-ge2
returns-then-input-ge2 c =
    let f = c.args.input.now in
    let size = c.frame_size.ensures in (
      ap (λ (k : ℕ). eqb (length f) k) size.0 ∙ by_len f c.if-input-ge2.true,
      λ q. omega (arith, eqb-true (length f) c.frame_size.result q, size.1),
    )

pub returns-else-input-ge2 : goal.returns-else-input-ge2
returns-else-input-ge2 c =
    let short = lt-leb 2 (length c.args.input.now) c.if-input-ge2.false in
    (short ∙ too_short _ c.if-input-ge2.false, λ e. absurd (false≢true (sym short ∙ e)))
