-- `chip_options::change::with_bit` meets its contract: the byte with that bit anew is below 256, and so is each part of its sum. Assumes nothing.
use Rattle.std.proofs.Common.{◌<◌, ◌^◌, arith}
use Rattle.chip_options.specs.Bits.{with_bit_of}
use Rattle.chip_options.proofs.Bits.{with_bit_below, shifted}
use Rattle.chip_options.proofs.change.with_bit.Goals as goal

pub overflow_mul-result : goal.overflow_mul-result
overflow_mul-result g c =
    let w = shifted g.row.K c.requires.0 in
    rw w.0 (omega (arith, w.1.below))

pub overflow_mul-result-2 : goal.overflow_mul-result-2
overflow_mul-result-2 g c =
    let w = shifted g.row.K c.requires.0 in
    rw w.0 (omega (arith, w.1.below))

pub overflow_add-result : goal.overflow_add-result
overflow_add-result g c =
    let w = shifted g.row.K c.requires.0 in
    let below : with_bit_of (2 ^ g.row.K) c.args.v c.args.n < 256 = with_bit_below 256 _ _ _ w.1.positive w.1.whole c.requires.1 (omega arith) in
    rw w.0 (omega arith)

pub overflow_add-result-2 : goal.overflow_add-result-2
overflow_add-result-2 g c =
    let w = shifted g.row.K c.requires.0 in
    let below : with_bit_of (2 ^ g.row.K) c.args.v c.args.n < 256 = with_bit_below 256 _ _ _ w.1.positive w.1.whole c.requires.1 (omega arith) in
    rw w.0 (omega arith)

pub returns : goal.returns
returns g c =
    let w = shifted g.row.K c.requires.0 in
    rw (w.0, w.2)
