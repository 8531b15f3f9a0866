-- `text_out::put_hex4` meets its contract: the high byte, and the low byte. Assumes nothing.
use mathlib.Core.Path.{sym, ap, ◌∙◌}
use mathlib.Core.List.{List}
use Prim.Native.Nat.{ℕ, ◌/◌, ◌%◌}
use Rattle.rules.specs.Text.{hex2}
use Rattle.text_out.specs.Out.{Out, out, add}
use Rattle.text_out.proofs.Appended.{add_append}
use Rattle.text_out.proofs.Decimal.{hex4_halves}
use Rattle.text_out.proofs.put_hex4.Goals as goal

pub returns : goal.returns
returns c =
    let n = c.args.n in
    let o = out c.args.at c.args.buf.now in
    c.put_hex2.ensures
    ∙ ap (λ (x : Out). add (hex2 (n % 256)) x) c.put_hex2-next.ensures
    ∙ sym (add_append (hex2 (n / 256)) (hex2 (n % 256)) o)
    ∙ ap (λ (t : List ℕ). add t o) (sym (hex4_halves n))
