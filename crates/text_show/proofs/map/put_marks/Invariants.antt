-- `text_show::map::put_marks` meets its contract: the pages that are left, added to what there is, are all. Assumes nothing.
use mathlib.Core.Path.{◌≡◌}
use Prim.Native.Nat.{◌+◌, ◌-◌, ◌≤◌}
use lib.ListN.{length}
use Rattle.text_out.specs.Out.{out, add}
use Rattle.text_show.specs.Map.{marks_from}
use Rattle.text_show.proofs.map.put_marks.Given as goal

abbrev pub invariant-loop-i : goal.invariant-loop-i
invariant-loop-i l =
    (l.i ≤ l.n) × (length l.buf ≡ length l.initial.buf)
    × (add (marks_from l.chip l.sheet l.f (l.from + l.i) (l.n - l.i)) (out l.next l.buf) ≡ add (marks_from l.chip l.sheet l.f l.from l.n) (out l.at l.initial.buf))

abbrev pub decreases-loop-i : goal.decreases-loop-i
decreases-loop-i l = l.n - l.i
