-- `octets::is_blank` meets its contract: what is left to look at decides. Assumes nothing.
use Rattle.std.proofs.Common.{sym, ◌∙◌, arith}
use Rattle.octets.proofs.Lists.{blank_not, blank_more, blank_end}
use Rattle.octets.proofs.is_blank.Goals as goal

pub returns-then-byte : goal.returns-then-byte
returns-then-byte c =
    let l = c.loop-byte in
    sym (l.invariant ∙ blank_not _ l.byte-index (omega arith) c.if-byte.true)

pub loop-byte-preserved : goal.loop-byte-preserved
loop-byte-preserved c =
    let l = c.loop-byte in
    l.invariant ∙ blank_more _ l.byte-index (omega arith) c.if-byte.false

pub returns : goal.returns
returns c =
    let l = c.loop-byte in
    sym (l.invariant ∙ blank_end _ l.byte-index (omega arith))
