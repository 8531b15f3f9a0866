-- `serve::stream::serve_read` ends: each turn takes a byte.
use Rattle.std.proofs.Common.{length}
use Rattle.serve.proofs.stream.serve_read.Given as goal

abbrev pub decreases-loop-left : goal.decreases-loop-left
decreases-loop-left g l = length l.left
