-- `sheet_marks::put_marks` meets its contract: the free ones of its places are filled. Assumes nothing.
use native.Mathlib.Omega.{arith}
use lib.ListN.{length-take, length-drop}
use Rattle.sheet_marks.proofs.Rows.{places_marked}
use Rattle.sheet_marks.proofs.put_marks.Goals as goal

pub returns : goal.returns
returns c =
    let a = c.args in
    let p = c.places-start.ensures in
    let bound = simp (length-take, length-drop) at c.free_marks-free.ensures.bound in
    rw (c.fill.ensures.after (λ y e. e))
    (places_marked a.first.0 a.last.0 _ _ _ _ a.row.now p.0 p.1 (simp (length-take, length-drop) (omega arith)) c.free_marks-free.ensures.value)
