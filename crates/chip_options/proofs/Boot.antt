-- A page is in boot cluster 0 exactly when it is one of the cluster's pages. Assumes nothing.
use mathlib.Core.Path.{◌≡◌, refl, sym, ◌∙◌}
use mathlib.Core.Bool.{Bool, true, false}
use Prim.Native.Nat.{ℕ, ◌/◌}
use native.Mathlib.Omega.{arith}
use lib.Dec.{ltb}
use borrow.Author.Tests.{ltb-true, ltb-false, lt-ltb, le-ltb}
use Rattle.rules.specs.declared.Flash.{Flash}
use Rattle.rules.specs.declared.Flash.TheVariants.{Code, Data}
use Rattle.rules.specs.Chip.{in_boot_cluster, block_of_page}
use Rattle.chip_options.specs.Boot.{boot_pages}

pub page_in_boot : (f : Flash) (k : ℕ) → ltb k (boot_pages f) ≡ in_boot_cluster f (block_of_page f k)
page_in_boot Code k = go (ltb k 64) refl
  where
    go : (t : Bool) → ltb k 64 ≡ t → ltb k 64 ≡ ltb (k / 8) 8
    go true e = let h = ltb-true k 64 e in e ∙ sym (lt-ltb (k / 8) 8 (omega arith))
    go false e = let h = ltb-false k 64 e in e ∙ sym (le-ltb (k / 8) 8 (omega arith))
page_in_boot Data k = le-ltb k 0 (omega arith)
