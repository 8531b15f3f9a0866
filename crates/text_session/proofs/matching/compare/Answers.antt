-- `text_session::matching::compare` meets its contract: what is left of the answer decides. Assumes nothing.
use mathlib.Core.Path.{sym, ◌∙◌}
use native.Mathlib.Omega.{arith}
use Rattle.text_session.specs.Session.{matches}
use Rattle.text_session.proofs.Matches.{row_ends, other_byte, same_byte}
use Rattle.text_session.proofs.matching.compare.Goals as goal

pub returns-then-at-row_count : goal.returns-then-at-row_count
unfolding matches
returns-then-at-row_count c =
    let l = c.loop-byte in
    λ later. rw c.in_ok-at.was (sym (l.invariant later ∙ row_ends _ _ l.byte-index l.at later (omega arith) (omega (arith, c.row_count.ensures))))

pub returns-then-row_byte-byte : goal.returns-then-row_byte-byte
unfolding matches
returns-then-row_byte-byte c =
    let l = c.loop-byte in
    λ later. rw c.in_ok-at.was (sym (l.invariant later ∙ other_byte _ _ l.byte-index l.at later (omega arith) (omega (arith, c.row_count.ensures)) (λ e. c.if-row_byte-byte.true (c.row_byte.ensures ∙ e))))

pub loop-byte-preserved : goal.loop-byte-preserved
loop-byte-preserved c =
    let l = c.loop-byte in
    λ later. l.invariant later ∙ same_byte _ _ l.byte-index l.at later (omega arith) (omega (arith, c.row_count.ensures)) (sym c.row_byte.ensures ∙ c.if-row_byte-byte.false)
