-- `chip_finder::byte_in` meets its contract: the block of the byte that the address names, by its offset. Assumes nothing.
use Rattle.std.proofs.Common.{◌≡◌, Bool, true, false, cond, Some, None, sym, refl}
use Rattle.std.specs.Bool.{then_some}
use Rattle.chip_finder.specs.OneFlash.{byte_in}
use Rattle.chip_finder.proofs.Spots.{spotted, outside}
use Rattle.chip_finder.proofs.byte_in.Goals as goal

then_cond : {X : Type 0} (t : Bool) (x : X) → then_some t x ≡ cond t (Some x) None
then_cond true x = refl
then_cond false x = refl

pub returns-in_err-b : goal.returns-in_err-b
unfolding byte_in
returns-in_err-b c = rw (c.from_residual.ensures, outside _ _ _ _ (sym c.in_err-b.ensures))

pub returns : goal.returns
unfolding byte_in
returns c =
    let p = spotted _ _ _ _ _ _ (sym c.in_ok-b.ensures) in
    rw (c.then_some.ensures, p.within, p.offset, p.block) (then_cond _ _)
