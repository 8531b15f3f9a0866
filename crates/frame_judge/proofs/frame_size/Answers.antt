-- `frame_judge::frame_size` meets its contract: four bytes more than the body. Assumes nothing.
use Rattle.std.proofs.Common.{arith}
use Rattle.frame_build.proofs.Frames.{frame_size_lem, body_least}
use Rattle.frame_judge.proofs.frame_size.Goals as goal

pub returns : goal.returns
returns c =
    let len = c.args.len in
    let e = frame_size_lem len in
    let l = body_least len in
    (omega arith, omega arith, omega arith)
