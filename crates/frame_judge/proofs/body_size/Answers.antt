-- `frame_judge::body_size` meets its contract: 256 where LEN is 0, else LEN. Assumes nothing.
use Rattle.std.proofs.Common.{arith}
use Rattle.std.proofs.lemmas.Bool.Decides.{nat_tests}
use Rattle.rules.specs.Frame.{body_size}
use Rattle.frame_judge.proofs.body_size.Goals as goal

pub returns : goal.returns
unfolding body_size
returns c = (grind (arith, nat_tests), omega arith)
