-- `frame_build::added` meets its contract: the loop's sum is that of the bytes passed, modulo 256. Assumes nothing.
use Rattle.std.proofs.Common.{arith}
use Rattle.rules.specs.Chip.{total}
use Rattle.rules.proofs.Bytes.{total_more}
use Rattle.frame_build.proofs.added.Goals as goal

pub loop-byte-init : goal.loop-byte-init
unfolding total
loop-byte-init c = omega arith

pub loop-byte-preserved : goal.loop-byte-preserved
loop-byte-preserved c =
    let i = c.loop-byte.byte-index in
    let line = c.args.line.now in
    omega (arith, total_more line i (omega arith), c.loop-byte.invariant)
