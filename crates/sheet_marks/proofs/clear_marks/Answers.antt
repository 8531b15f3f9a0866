-- `sheet_marks::clear_marks` meets its contract: its places are filled. Assumes nothing.
use native.Mathlib.Omega.{arith}
use lib.ListN.{length-take, length-drop}
use Rattle.sheet_marks.proofs.Rows.{places_cleared}
use Rattle.sheet_marks.proofs.clear_marks.Goals as goal

pub returns : goal.returns
returns c =
    let a = c.args in
    let p = c.places-marks.ensures in
    rw (c.fill.ensures.after (λ y e. e))
    (places_cleared a.first.0 a.last.0 _ _ _ a.row.now p.0 p.1 (simp (length-take, length-drop) (omega arith)))
