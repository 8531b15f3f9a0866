-- `text_script::show::pages` is safe and ends: each page is passed once. Assumes nothing.
use Prim.Native.Nat.{◌-◌, ◌≤◌}
use Rattle.text_script.proofs.show.pages.Given as goal

abbrev pub invariant-loop-k : goal.invariant-loop-k
invariant-loop-k l = l.k ≤ l.k-end

abbrev pub decreases-loop-k : goal.decreases-loop-k
decreases-loop-k l = l.k-end - l.k
