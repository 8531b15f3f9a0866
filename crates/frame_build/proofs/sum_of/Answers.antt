-- `frame_build::sum_of` meets its contract: with LEN and the bytes passed the lack comes to 0 modulo 256. Assumes nothing.
use Rattle.std.proofs.Common.{◌≡◌, ℕ, suc, ◌+◌, ◌-◌, ◌%◌, ◌<◌, List, [], ◌∷◌, get_or, rules, arith}
use Rattle.std.specs.List.{fold}
use Rattle.std.proofs.lemmas.Iterator.{YieldsList-from_slice}
use Rattle.std.proofs.lemmas.Iterator.Consumers.{fold_from_yields_List}
use Rattle.rules.specs.Chip.{total}
use Rattle.frame_build.proofs.sum_of.Goals as goal

abbrev less : ℕ → ℕ → ℕ
less lack byte = (lack + 256 - byte) % 256

lacks : (xs : List ℕ) (lack : ℕ) → lack < 256 → ((k : ℕ) → get_or xs k 0 < 256)
    → (fold less lack xs < 256) × ((fold less lack xs + total xs) % 256 ≡ lack)
unfolding total
lacks [] lack h g = (h, omega arith)
lacks (x ∷ xs) lack h g =
    let z = g 0 in
    let r = lacks xs (less lack x) (omega arith) (λ k. g (suc k)) in
    (r.0, omega arith)

pub returns : goal.returns
returns c =
    let s = c.args.body.now in
    let e = fold_from_yields_List _ less c.wrapping_neg.result c.fold.result c.fold.ensures.ran (YieldsList-from_slice s c.iter.ensures.rest) (λ a x b q k. search rules) in
    let t = lacks s c.wrapping_neg.result (omega arith) (λ k. let f = c.type_inv.body k in omega arith) in
    rw e (omega arith, t.0)
