-- `text_show::steps::most_sent` meets its contract: the frames of the steps that are left, with those counted, are all. Assumes nothing.
use mathlib.Core.Path.{◌≡◌, ap, ◌∙◌}
use Prim.Native.Nat.{◌<◌, ◌≤◌}
use native.Mathlib.Omega.{arith}
use Rattle.rules.specs.Run.{most_frames}
use Rattle.rules.specs.Sheet.{step_at}
use Rattle.text_show.proofs.Lines.{one_sends, none_sends}
use Rattle.text_show.proofs.steps.most_sent.Goals as goal

pub loop-i-preserved : goal.loop-i-preserved
loop-i-preserved c =
    let l = c.loop-i in
    let n = c.count-i-end.result in
    let a = c.args in
    let h : l.i < n = omega arith in
    let f : c.most_frames-sent.result ≡ most_frames (step_at a.chip a.sheet.now l.i) = c.most_frames-sent.ensures.0 ∙ ap most_frames c.step_at.ensures in (
      omega arith,
      omega arith,
      omega (arith, c.most_frames-sent.ensures.1),
      omega (arith, f, one_sends a.chip a.sheet.now l.i n h, l.invariant.3),
    )

pub returns : goal.returns
returns c =
    let l = c.loop-i in
    let n = c.count-i-end.result in
    let a = c.args in
    let h : n ≤ l.i = omega arith in
    omega (arith, none_sends a.chip a.sheet.now l.i n h, l.invariant.3)
