-- `text_lines::lines::room` meets its contract: a row of zeros is as long as it was made, and none is counted out. Assumes nothing.
use mathlib.Core.Path.{sym}
use Prim.Native.Nat.{ℕ}
use lib.ListN.{length-replicate}
use Rattle.text_lines.proofs.lines.room.Goals as goal

pub returns : goal.returns
returns c = sym (length-replicate {A = ℕ} 1048577 0)
