-- `frame_build::put_frame` meets its contract: start, LEN, SUM and end byte stand around the body put behind two bytes. Assumes nothing.
use Rattle.std.proofs.Common.{◌≡◌, ◌+◌, ◌≤◌, length, drop, sym, ap, ◌∙◌, arith, length-drop}
use Rattle.rules.specs.Chip.{over}
use Rattle.frame_build.specs.Buffer.{put}
use Rattle.frame_build.proofs.Sum.{sum_byte_lem}
use Rattle.frame_build.proofs.Buffers.{buffer_put, bytes_fit, rest_of, put_rest, frame_empty, frame_long, frame_full, frame_fits, frame_put}
use Rattle.frame_build.proofs.put_frame.Goals.{then-n-lt1-via-then-n-lt1, then-n-lt1-via-else-n-lt1+then-n-gt256, then-n-lt1-via-else-n-lt1+else-n-gt256+then-buffer-n}
use Rattle.frame_build.proofs.put_frame.Goals as goal

pub returns-then-n-lt1 : goal.returns-then-n-lt1
returns-then-n-lt1 c =
    elim c.then-n-lt1.branch [ then-n-lt1-via-then-n-lt1 w ↦ sym (frame_empty _ _ _ _ w.if-n-lt1.true) | then-n-lt1-via-else-n-lt1+then-n-gt256 w ↦ sym (frame_long _ _ _ _ w.if-n-lt1.false w.if-n-gt256.true) | then-n-lt1-via-else-n-lt1+else-n-gt256+then-buffer-n w ↦ sym (frame_full _ _ _ _ w.if-n-lt1.false w.if-n-gt256.false (omega arith)) ]

pub returns : goal.returns
returns c =
    let a = c.args in
    let h : length a.body.now ≤ length (drop 2 a.buffer.now) = simp length-drop (omega arith) in
    let v : c.put_bytes.new.buffer ≡ over a.body.now (drop 2 a.buffer.now) =
    buffer_put _ _ (rw rest_of at c.put_bytes.ensures ∙ bytes_fit a.body.now (drop 2 a.buffer.now) h) in
    ap (put (length a.body.now + 4))
    (rw (put_rest 2 a.buffer.now)
    (frame_put a.start a.end _ a.body.now a.buffer.now _ (omega arith)
    (sum_byte_lem a.body.now _ c.sum_of.ensures.0 c.sum_of.ensures.1)
    v))
    ∙ sym (frame_fits a.start a.end a.body.now a.buffer.now (omega arith) (omega arith) (omega arith))
