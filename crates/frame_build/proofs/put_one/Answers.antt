-- `frame_build::put_one` meets its contract: the ACK is its constant, and a frame of one byte is as bytes. Assumes nothing.
use Rattle.std.proofs.Common.{◌∙◌, arith}
use Rattle.frame_build.proofs.Frames.{ack}
use Rattle.frame_build.proofs.Buffers.{frame_bytes}
use Rattle.frame_build.proofs.put_one.Goals as goal

pub returns-then-status-eq6 : goal.returns-then-status-eq6
returns-then-status-eq6 c =
    let status = c.if-status-eq6.true in
    rw (status, ack) c.put_bytes.ensures

pub returns : goal.returns
returns c =
    c.put_frame.ensures ∙ frame_bytes _ _ _ _ (omega arith) (omega arith)
