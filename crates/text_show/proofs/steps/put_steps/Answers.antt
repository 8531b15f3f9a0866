-- `text_show::steps::put_steps` meets its contract: the lines that are left, added to what there is, are all. Assumes nothing.
use Prim.Native.Nat.{◌+◌, ◌-◌, ◌<◌, ◌≤◌}
use native.Mathlib.Omega.{arith}
use Rattle.rules.specs.Sheet.{step_at}
use Rattle.text_out.specs.Out.{out}
use Rattle.text_out.proofs.Appended.{add_append, add_none}
use Rattle.text_show.specs.Steps.{step_text, steps_from}
use Rattle.text_show.proofs.Lines.{one_step, no_step}
use Rattle.text_show.proofs.steps.put_steps.Goals as goal

pub loop-i-preserved : goal.loop-i-preserved
loop-i-preserved c =
    let l = c.loop-i in
    let n = c.count-i-end.result in
    let a = c.args in
    let line = step_text (l.i + 1) (step_at a.chip a.sheet.now l.i) in
    let later = steps_from a.chip a.sheet.now (l.i + 1) (n - (l.i + 1)) in
    let h : l.i < n = omega arith in (
      omega arith,
      omega arith,
      omega arith,
      rw (c.put_step-next.ensures, c.step_at.ensures, ← add_append line later (out l.next l.buf)) (rw (one_step a.chip a.sheet.now l.i n h) at l.invariant.3),
    )

pub returns : goal.returns
returns c =
    let l = c.loop-i in
    let n = c.count-i-end.result in
    let a = c.args in
    let h : n ≤ l.i = omega arith in
    rw (no_step a.chip a.sheet.now l.i n h, add_none) at l.invariant.3
