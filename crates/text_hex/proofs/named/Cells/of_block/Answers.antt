-- `text_hex::named::Cells::of_block` meets its contract: the block lies in its flash. Assumes nothing.
use mathlib.Core.Path.{refl, ap, ◌∙◌}
use mathlib.Core.List.{List}
use Prim.Native.Nat.{ℕ}
use native.Mathlib.Omega.{arith}
use denote.Ref.{Bor}
use Rattle.text_hex.proofs.NamedBlocks.{block_got}
use Rattle.text_hex.proofs.named.Cells.of_block.Goals as goal

pub returns-in-Code : goal.returns-in-Code
returns-in-Code c =
    let a = c.args in
    rw c.in-Code.is (ap (λ (b : Bor (List ℕ)). b.now) c.unwrap_or.ensures ∙ block_got 2048 a.i a.self.now.code (λ h. omega arith) c.get.result _ refl c.get.ensures.lookup.0)

pub returns-in-Data : goal.returns-in-Data
returns-in-Data c =
    let a = c.args in
    rw c.in-Data.is (ap (λ (b : Bor (List ℕ)). b.now) c.unwrap_or-in-Data.ensures ∙ block_got 256 a.i a.self.now.«data» (λ h. omega arith) c.get-in-Data.result _ refl c.get-in-Data.ensures.lookup.0)
