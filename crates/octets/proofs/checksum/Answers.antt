-- `octets::checksum` meets its contract: with the bytes passed the sum comes to 0 modulo 65536. Assumes nothing.
use Rattle.std.proofs.Common.{◌≡◌, ℕ, suc, ◌+◌, ◌-◌, ◌%◌, ◌<◌, List, [], ◌∷◌, get_or, rules, arith}
use Rattle.std.specs.List.{fold}
use Rattle.std.proofs.lemmas.Iterator.{YieldsList-from_slice}
use Rattle.std.proofs.lemmas.Iterator.Consumers.{fold_from_yields_List}
use Rattle.rules.specs.Chip.{total, checksum}
use Rattle.octets.proofs.checksum.Goals as goal

abbrev less : ℕ → ℕ → ℕ
less sum byte = (sum + 65536 - byte) % 65536

taken : (xs : List ℕ) (sum : ℕ) → sum < 65536 → ((k : ℕ) → get_or xs k 0 < 256)
    → (fold less sum xs < 65536) × ((fold less sum xs + total xs) % 65536 ≡ sum)
unfolding total
taken [] sum h g = (h, omega arith)
taken (x ∷ xs) sum h g =
    let z = g 0 in
    let r = taken xs (less sum x) (omega arith) (λ k. g (suc k)) in
    (r.0, omega arith)

pub returns : goal.returns
unfolding checksum
returns c =
    let s = c.args.s.now in
    let e = fold_from_yields_List _ less 0 c.fold.result c.fold.ensures.ran (YieldsList-from_slice s c.iter.ensures.rest) (λ a x b q k. search rules) in
    let t = taken s 0 (omega arith) (λ k. let f = c.type_inv.s k in omega arith) in
    rw e (omega arith)
