-- `text_show::entries::body_wrong` meets its contract: the end of the body that was read. Assumes nothing.
use mathlib.Core.Path.{ap, ◌∙◌}
use Prim.Native.Nat.{ℕ}
use lib.Dec.{ltb}
use lib.ListN.{length}
use Rattle.sheet.proofs.Fields.{says}
use Rattle.text_show.proofs.entries.body_wrong.Goals as goal

pub returns : goal.returns
returns c =
    ap (λ (z : ℕ). ltb (length c.args.sheet.now) z) (c.body_end-end.ensures ∙ (says c.args.sheet.now c.args.i _ c.entry_at-e.ensures).end)
