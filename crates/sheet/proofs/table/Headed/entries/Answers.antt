-- `sheet::table::Headed::entries` meets its contract: the pieces of twelve bytes behind the head. Assumes nothing.
use mathlib.Core.Path.{◌≡◌, ap, ◌∙◌}
use mathlib.Core.List.{List}
use Prim.Native.Nat.{ℕ, ◌/◌, ◌-◌, ◌≤◌}
use native.Mathlib.Omega.{arith}
use lib.ListN.{length, take, get_or}
use Rattle.std.proofs.lemmas.List.{length-take-le}
use Rattle.sheet.specs.Entry.{fields_of}
use Rattle.sheet.proofs.Fields.{heads, from, length_from, table_read}
use Rattle.sheet.proofs.table.Headed.entries.Goals as goal

pub returns : goal.returns
returns c =
    let a = c.args.self in
    let s = a.bytes.now in
    let n = a.head.count in
    let h = heads _ _ a.head_value in
    let some : length c.as_chunks.result.0.now ≡ (length s - a.head.size) / 12 = rw (length_from a.head.size s) at c.as_chunks.ensures.front_len in
    let there : n ≤ (length s - a.head.size) / 12 = omega (arith, c.requires, h.size, h.steps) in
    let cut = rw (length_from a.head.size s, from a.head.size s) at c.as_chunks.ensures.front in (
      length-take-le n c.as_chunks.result.0.now (omega arith) ∙ h.steps,
      λ i d l. ap (λ (t : List (List ℕ)). fields_of (get_or (take n t) i d)) cut ∙ table_read s a.head.size n _ i d h.size (omega (arith, h.steps)) there,
    )
