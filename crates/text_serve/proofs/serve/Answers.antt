-- `text_serve::serve` meets its contract. Assumes nothing.
use mathlib.Core.Path.{sym, ap, ◌∙◌}
use Prim.Native.Nat.{◌+◌}
use native.Mathlib.Omega.{arith}
use lib.ListN.{drop}
use borrow.Author.Rules.{rules}
use Rattle.rules.specs.declared.Chip.{Chip}
use Rattle.chip_finder.specs.LentFlashes.{memory}
use Rattle.standin.specs.Shows.{shows}
use Rattle.text_serve.specs.Serving.{serve_from}
use Rattle.text_serve.proofs.Turns.{numbered, turn_stop, turn_on}
use Rattle.text_serve.proofs.serve.Goals as goal

pub loop-i-preserved : goal.loop-i-preserved
loop-i-preserved c =
    let t = c.byte_call-t in
    let l = c.loop-i in
    let a = c.args in
    let h = c.loop-i-test.true in (
      ap (λ (k : Chip). serve_from k (shows t.result.device (memory t.new.code t.new.«data»)) t.new.reply (l.i + 1) (drop (l.i + 1) a.bytes.now)) t.ensures.chip_value
          ∙ turn_on _ _ l.reply l.i a.bytes.now h _ _ _ _ t.ensures.reply_after (sym c.ends.ensures ∙ c.if-ends.false)
          ∙ l.invariant.0,
      t.ensures.chip_value ∙ l.invariant.1,
      omega (arith, h),
      l.invariant.3,
      search rules,
      search rules,
      search rules,
    )

pub returns-then-ends-clause-reply_after : goal.returns-then-ends-clause-reply_after
returns-then-ends-clause-reply_after c =
    let t = c.byte_call-t in
    let l = c.loop-i in
    turn_stop _ _ l.reply l.i c.args.bytes.now c.loop-i-test.true _ _ _ _ t.ensures.reply_after (sym c.ends.ensures ∙ c.if-ends.true) ∙ l.invariant.0

pub returns-then-ends-clause-call_value : goal.returns-then-ends-clause-call_value
returns-then-ends-clause-call_value c =
    let t = c.byte_call-t in
    let l = c.loop-i in
    let e = numbered _ _ (turn_stop _ _ l.reply l.i c.args.bytes.now c.loop-i-test.true _ _ _ _ t.ensures.reply_after (sym c.ends.ensures ∙ c.if-ends.true) ∙ l.invariant.0) in
    e.1
