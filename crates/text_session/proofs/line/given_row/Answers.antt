-- `text_session::line::given_row` meets its contract. Assumes nothing.
use mathlib.Core.Path.{refl, ap, ◌∙◌}
use mathlib.Core.List.{List}
use Prim.Native.Nat.{ℕ}
use denote.Ref.{Bor}
use Rattle.rules.specs.Lines.{row_bytes}
use Rattle.text_session.proofs.Signs.{given_got}
use Rattle.text_session.proofs.line.given_row.Goals as goal

pub returns : goal.returns
returns c =
    ap (λ (b : Bor (List ℕ)). row_bytes b.now) c.unwrap_or.ensures ∙ given_got c.args.line.now c.strip_prefix.result _ refl c.strip_prefix.ensures.cases
