-- `text_told::play::put_lines` meets its contract: the lines that are left, added to what there is, are all. Assumes nothing.
use Prim.Native.Nat.{◌+◌, ◌-◌, ◌<◌, ◌≤◌}
use native.Mathlib.Omega.{arith}
use Rattle.rules.specs.Text.{line_at, lines_from}
use Rattle.text_out.specs.Out.{out}
use Rattle.text_out.proofs.Appended.{add_append, add_none}
use Rattle.text_told.proofs.StepLines.{one_more, none_left}
use Rattle.text_told.proofs.play.put_lines.Goals as goal

pub loop-i-preserved : goal.loop-i-preserved
loop-i-preserved c =
    let l = c.loop-i in
    let n = c.count-i-end.result in
    let a = c.args in
    let line = line_at a.chip a.sheet.now a.report a.sums.now a.frames.now l.i in
    let later = lines_from a.chip a.sheet.now a.report a.sums.now a.frames.now (l.i + 1) (n - (l.i + 1)) in
    let h : l.i < n = omega arith in (
      omega arith,
      omega arith,
      omega arith,
      rw (c.put_line-next.ensures, ← add_append line later (out l.next l.buf)) (rw (one_more a.chip a.sheet.now a.report a.sums.now a.frames.now l.i n h) at l.invariant.3),
    )

pub returns : goal.returns
returns c =
    let l = c.loop-i in
    let n = c.count-i-end.result in
    let a = c.args in
    let h : n ≤ l.i = omega arith in
    rw (none_left a.chip a.sheet.now a.report a.sums.now a.frames.now l.i n h, add_none) at l.invariant.3
