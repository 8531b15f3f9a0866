-- `text_record::sum_of` meets its contract: the bytes passed are summed. Assumes nothing.
use Rattle.std.proofs.Common.{refl, arith}
use Rattle.rules.specs.Chip.{total}
use Rattle.rules.specs.Lines.{pair_bytes}
use Rattle.rules.proofs.Bytes.{total_more}
use Rattle.text_record.proofs.sum_of.Goals as goal

pub loop-k-init : goal.loop-k-init
unfolding total
loop-k-init c = (omega arith, c.pairs_count-k-end.ensures, refl)

pub loop-k-preserved : goal.loop-k-preserved
loop-k-preserved c =
    let l = c.loop-k in
    let bs = pair_bytes c.args.row.now in
    let e = c.pairs_byte.ensures in
    (omega arith, l.invariant.1, omega (arith, total_more bs l.k (omega arith)))
