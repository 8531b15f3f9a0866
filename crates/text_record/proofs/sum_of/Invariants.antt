-- `text_record::sum_of` meets its contract: the bytes passed are summed. Assumes nothing.
use Rattle.std.proofs.Common.{◌≡◌, ◌-◌, ◌%◌, ◌≤◌, length, take}
use Rattle.rules.specs.Chip.{total}
use Rattle.rules.specs.Lines.{pair_bytes}
use Rattle.text_record.proofs.sum_of.Given as goal

abbrev pub invariant-loop-k : goal.invariant-loop-k
invariant-loop-k l = (l.k ≤ l.k-end) × (l.k-end ≡ length (pair_bytes l.row)) × (l.sum ≡ total (take l.k (pair_bytes l.row)) % 256)

abbrev pub decreases-loop-k : goal.decreases-loop-k
decreases-loop-k l = l.k-end - l.k
