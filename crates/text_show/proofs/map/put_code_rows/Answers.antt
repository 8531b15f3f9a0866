-- `text_show::map::put_code_rows` meets its contract: the rows that are left, added to what there is, are all. Assumes nothing.
use Prim.Native.Nat.{◌+◌, ◌-◌, ◌*◌, ◌<◌, ◌≤◌}
use native.Mathlib.Omega.{arith}
use Rattle.rules.specs.declared.Flash.TheVariants.{Code}
use Rattle.text_out.specs.Out.{out}
use Rattle.text_out.proofs.Appended.{add_append, add_none}
use Rattle.text_show.specs.Map.{row_text, row_pages, code_rows}
use Rattle.text_show.proofs.Marks.{one_row, no_row}
use Rattle.text_show.proofs.map.put_code_rows.Goals as goal

pub loop-row-preserved : goal.loop-row-preserved
loop-row-preserved c =
    let l = c.loop-row in
    let a = c.args in
    let row = row_text a.chip a.sheet.now Code (l.row * row_pages) row_pages in
    let later = code_rows a.chip a.sheet.now (l.row + 1) (a.rows - (l.row + 1)) in
    let h : l.row < a.rows = omega arith in (
      omega arith,
      omega arith,
      rw (c.put_row-next.ensures, ← add_append row later (out l.next l.buf)) (rw (one_row a.chip a.sheet.now l.row a.rows h) at l.invariant.2),
    )

pub returns : goal.returns
returns c =
    let l = c.loop-row in
    let a = c.args in
    let h : a.rows ≤ l.row = omega arith in
    rw (no_row a.chip a.sheet.now l.row a.rows h, add_none) at l.invariant.2
