-- `frame_build::put_bytes` meets its contract: where there is room the loop has put the first i bytes over the buffer. Assumes nothing.
use Rattle.std.proofs.Common.{◌≡◌, length, sym, ap, ◌∙◌, arith, length-set}
use lib.Seq.{take-length}
use Rattle.rules.specs.Chip.{over}
use Rattle.frame_build.specs.Buffer.{put}
use Rattle.frame_build.proofs.Buffers.{bytes_fit, bytes_full, over_more}
use Rattle.frame_build.proofs.put_bytes.Goals as goal

pub returns-then-buffer-n : goal.returns-then-buffer-n
returns-then-buffer-n c = sym (bytes_full _ _ c.if-buffer-n.true)

pub loop-i-preserved : goal.loop-i-preserved
loop-i-preserved c =
    let l = c.loop-i in
    let a = c.args in (
      omega arith,
      simp length-set (omega arith),
      rw l.invariant.2 (over_more a.bytes.now a.buffer.now l.i (omega arith) (omega arith)),
    )

pub returns : goal.returns
unfolding over
returns c =
    let l = c.loop-i in
    let a = c.args in
    let e : l.i ≡ length a.bytes.now = omega arith in
    ap (put (length a.bytes.now)) (l.invariant.2 ∙ rw (e, take-length))
    ∙ sym (bytes_fit a.bytes.now a.buffer.now (omega arith))
