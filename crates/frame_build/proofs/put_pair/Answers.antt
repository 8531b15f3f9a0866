-- `frame_build::put_pair` meets its contract: the pair of two 06h is its constant, and a frame of two bytes is as bytes. Assumes nothing.
use Rattle.std.proofs.Common.{◌∙◌, arith}
use Rattle.frame_build.proofs.Frames.{well}
use Rattle.frame_build.proofs.Buffers.{frame_bytes}
use Rattle.frame_build.proofs.put_pair.Goals as goal

pub returns-then-status-eq6 : goal.returns-then-status-eq6
returns-then-status-eq6 c =
    let line = c.if-line-eq6.true in
    let status = c.if-status-eq6.true in
    rw (line, status, well) c.put_bytes.ensures

pub returns : goal.returns
returns c =
    c.put_frame.ensures ∙ frame_bytes _ _ _ _ (omega arith) (omega arith)
