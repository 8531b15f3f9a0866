-- `text_play::fresh::play_fresh` meets its contract: power-on, opening and play, each by what it promises. Assumes nothing.
use mathlib.Core.Path.{refl}
use native.Mathlib.Omega.{arith}
use Rattle.text_play.proofs.FreshChip.{blank_memory_lem, all_told}
use Rattle.text_play.proofs.fresh.play_fresh.Goals as goal

pub returns : goal.returns
returns c room =
    let k = c.small-chip in
    let x = c.blank_code-code in
    let y = c.blank_data-data in
    let d = c.off in
    let f = c.fresh in
    let p = c.power_on-powered in
    let o = c.open-opened in
    let t = c.play_told-told in
    all_told k.result k.ensures d.result d.ensures.chip_value f.result f.ensures x.result y.result (blank_memory_lem _ _ x.ensures y.ensures)
    p.result p.ensures.data_value o.result _ _ _ _ _ _ (omega arith) refl o.ensures.answers_after o.ensures.call_value_2
    _ _ _ t.result.size t.ensures.filled room
