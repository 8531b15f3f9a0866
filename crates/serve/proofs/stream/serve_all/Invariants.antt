-- `serve::stream::serve_all` is safe and ends: each read that goes on adds a byte.
use Rattle.std.proofs.Common.{◌-◌}
use Rattle.serve.proofs.stream.serve_all.Given as goal

abbrev pub decreases-loop-taken : goal.decreases-loop-taken
decreases-loop-taken g l = 9223372036854775807 - l.taken
