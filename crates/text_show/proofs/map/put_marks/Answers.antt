-- `text_show::map::put_marks` meets its contract: the pages that are left, added to what there is, are all. Assumes nothing.
use mathlib.Core.List.{[], ◌∷◌}
use Prim.Native.Nat.{◌+◌, ◌-◌, ◌<◌, ◌≤◌}
use native.Mathlib.Omega.{arith}
use Rattle.text_out.specs.Out.{out}
use Rattle.text_out.proofs.Appended.{add_append, add_none}
use Rattle.text_show.specs.Map.{page_mark, marks_from}
use Rattle.text_show.proofs.Marks.{one_page_lem, no_page}
use Rattle.text_show.proofs.map.put_marks.Goals as goal

pub loop-i-preserved : goal.loop-i-preserved
loop-i-preserved c =
    let l = c.loop-i in
    let a = c.args in
    let mark = page_mark a.chip a.sheet.now a.f (a.from + l.i) ∷ [] in
    let later = marks_from a.chip a.sheet.now a.f (a.from + (l.i + 1)) (a.n - (l.i + 1)) in
    let h : l.i < a.n = omega arith in (
      omega arith,
      omega arith,
      rw (c.put-next.ensures, c.page_mark.ensures, ← add_append mark later (out l.next l.buf)) (rw (one_page_lem a.chip a.sheet.now a.f a.from l.i a.n h) at l.invariant.2),
    )

pub returns : goal.returns
returns c =
    let l = c.loop-i in
    let a = c.args in
    let h : a.n ≤ l.i = omega arith in
    rw (no_page a.chip a.sheet.now a.f a.from l.i a.n h, add_none) at l.invariant.2
