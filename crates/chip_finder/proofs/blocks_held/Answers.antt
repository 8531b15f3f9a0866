-- `chip_finder::blocks_held` meets its contract: the tests in their order. Assumes nothing.
use Rattle.std.proofs.Common.{arith}
use Rattle.std.proofs.lemmas.Bool.Decides.{nat_tests}
use borrow.Author.Tests.{lt-ltb, le-ltb}
use Rattle.chip_finder.specs.Held.{blocks_held}
use Rattle.chip_finder.proofs.blocks_held.Goals.{then-ead-sad-via-then-ead-sad, then-ead-sad-via-else-ead-sad+then-ead-gt16777215}
use Rattle.chip_finder.proofs.blocks_held.Goals as goal

pub returns-then-ead-sad : goal.returns-then-ead-sad
unfolding blocks_held
returns-then-ead-sad c =
    elim c.then-ead-sad.branch [ then-ead-sad-via-then-ead-sad w ↦ rw (lt-ltb _ _ w.if-ead-sad.true) | then-ead-sad-via-else-ead-sad+then-ead-gt16777215 w ↦ rw (le-ltb _ _ w.if-ead-sad.false, lt-ltb 0xFFFFFF _ w.if-ead-gt16777215.true) ]

pub returns-then-sad-start_of : goal.returns-then-sad-start_of
unfolding blocks_held
returns-then-sad-start_of c = grind (arith, nat_tests)

pub returns : goal.returns
unfolding blocks_held
returns c = grind (arith, nat_tests)
