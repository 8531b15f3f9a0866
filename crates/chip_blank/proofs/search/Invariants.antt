-- `chip_blank::search` meets its contract: every byte that the loops have passed is blank, and the index says where the next one lies. Assumes nothing.
use mathlib.Core.Path.{◌≡◌}
use Prim.Native.Nat.{◌+◌, ◌-◌, ◌*◌, ◌≤◌}
use lib.ListN.{drop}
use Rattle.rules.specs.Notes.{Empty}
use Rattle.rules.specs.Chip.{blanks_before, block_size}
use Rattle.chip_blank.proofs.search.Given as goal

abbrev pub invariant-loop : goal.invariant-loop
invariant-loop l =
    (l.counter ≤ 256) × (l.at ≡ l.initial.at + l.counter) × (l.found ≡ Empty) × (blanks_before l.part ≡ l.at + blanks_before (drop l.at l.part))

abbrev pub decreases-loop : goal.decreases-loop
decreases-loop l = 256 - l.counter

abbrev pub invariant-loop-p : goal.invariant-loop-p
invariant-loop-p l =
    (l.p ≤ l.pages) × (l.at ≡ l.initial.at + l.p * 256) × (l.found ≡ Empty) × (blanks_before l.part ≡ l.at + blanks_before (drop l.at l.part))

abbrev pub decreases-loop-p : goal.decreases-loop-p
decreases-loop-p l = l.pages - l.p

abbrev pub invariant-search : goal.invariant-search
invariant-search l =
    (l.initial.b ≤ l.b) × (l.b ≤ l.end) × (l.at + l.initial.b * block_size l.f ≡ l.b * block_size l.f) × (l.found ≡ Empty) × (blanks_before l.part ≡ l.at + blanks_before (drop l.at l.part))

abbrev pub decreases-search : goal.decreases-search
decreases-search l = l.end - l.b
