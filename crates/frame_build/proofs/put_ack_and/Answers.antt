-- `frame_build::put_ack_and` meets its contract: a refused frame leaves the buffer as it was, and the ACK before a frame makes both. Assumes nothing.
use Rattle.std.proofs.Common.{◌≡◌, ℕ, ◌+◌, ◌≤◌, length, sym, ap, ◌∙◌, arith}
use Rattle.frame_build.specs.Buffer.{put}
use Rattle.frame_build.proofs.Frames.{ack}
use Rattle.frame_build.proofs.Buffers.{count_put, bytes_most, frame_fits, frame_was, rest_of, ack_full, ack_none, ack_put}
use Rattle.frame_build.proofs.put_ack_and.Goals as goal

pub returns-then-reply-lt5 : goal.returns-then-reply-lt5
returns-then-reply-lt5 c = sym (ack_full _ _ c.if-reply-lt5.true)

pub returns-then-n-eq0 : goal.returns-then-n-eq0
returns-then-n-eq0 c =
    let a = c.args in
    let p = c.put_frame-n in
    let e : put 0 p.new.buffer ≡ _ = ap (λ (n : ℕ). put n p.new.buffer) (sym c.if-n-eq0.true) ∙ rw rest_of at p.ensures in
    ack_none a.body.now a.reply.now (omega arith) p.new.buffer e

pub overflow_add-result : goal.overflow_add-result
overflow_add-result c =
    let e = rw rest_of at c.put_frame-n.ensures in
    let r = frame_was _ _ _ _ _ _ e c.if-n-eq0.false in
    let n : c.put_frame-n.result ≡ length c.args.body.now + 4 = count_put _ _ (e ∙ frame_fits _ _ _ _ r.0 r.1 r.2) in
    let m : c.put_bytes.result ≤ 5 = rw (count_put _ _ c.put_bytes.ensures) (bytes_most _ _) in
    omega (arith, r.1)

pub returns : goal.returns
returns c =
    let a = c.args in
    let f = c.put_frame-n in
    let p = c.put_bytes in
    (ack_put a.body.now a.reply.now (omega arith) f.result p.result f.new.buffer p.new.buffer (rw rest_of at f.ensures) c.if-n-eq0.false (rw (← ack) at p.ensures)).0
