-- `standin::opening::all_bytes` meets its contract. Assumes nothing.
use mathlib.Core.Path.{ap, ◌∙◌}
use mathlib.Core.List.{List, ◌++◌, append-nil}
use Prim.Native.Nat.{ℕ}
use native.Mathlib.Omega.{arith}
use Rattle.rules.specs.Frame.{frame}
use Rattle.standin.specs.Opening.{speed_bytes}
use Rattle.standin.proofs.Opens.{filled}
use Rattle.standin.proofs.opening.all_bytes.Goals as goal

pub returns : goal.returns
returns c =
    ap
    (λ (x : List ℕ). speed_bytes ++ x)
    (append-nil c.put_frame.new.buffer
    ∙ filled 0x01 0x03 _ _ _ _ c.put_frame.ensures (omega arith) (omega arith) (omega arith)
    ∙ ap (frame 0x01 0x03) c.ident_body-body.ensures)
