-- `player_emit::page_frame` meets its contract: the body is the page's 256 bytes. Assumes nothing.
use mathlib.Core.Path.{◌≡◌, ◌∙◌}
use Prim.Native.Nat.{◌+◌, ◌*◌, ◌-◌, ◌≤◌}
use native.Mathlib.Omega.{arith}
use lib.ListN.{length, take, drop, length-drop}
use lib.Seq.{length-take-le}
use Rattle.frame_build.proofs.Buffers.{frame_bytes}
use Rattle.player_emit.proofs.page_frame.Goals as goal

pub returns : goal.returns
returns c =
    let a = c.args in
    let from = a.t.body + a.at * 256 in
    let k : from + 256 - from ≡ 256 = omega arith in
    let r : 256 ≤ length (drop from a.sheet.now) = omega (arith, length-drop from a.sheet.now, c.requires.1) in
    let l : length (take 256 (drop from a.sheet.now)) ≡ 256 = length-take-le 256 (drop from a.sheet.now) r in
    rw k at c.put_frame.ensures
    ∙ frame_bytes _ _ (take 256 (drop from a.sheet.now)) _ (omega (arith, l)) (omega (arith, l))
    ∙ rw (c.end_due.ensures, c.step_pages.ensures.0)
