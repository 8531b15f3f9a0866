-- Laws of bytes as text, appended to a buffer. Assumes nothing.
use mathlib.Core.Path.{◌≡◌, sym, ap, ◌∙◌}
use mathlib.Core.List.{List, [], ◌∷◌}
use Prim.Native.Nat.{ℕ, ◌+◌, ◌<◌, ◌≤◌}
use native.Mathlib.Numerals.{add-one}
use lib.ListN.{length, get_or, drop, drop_of_length-le}
use lib.Seq.{drop-cons}
use Rattle.text_out.specs.Out.{Out, add}
use Rattle.text_out.proofs.Appended.{add_append, add_none}
use Rattle.text_lines.specs.Rows.{byte_text, row_text}

-- a space, and a text behind it
pub spaced : (t : List ℕ) (a b o : Out) → b ≡ add (0x20 ∷ []) o → a ≡ add t b → a ≡ add (0x20 ∷ t) o
spaced t a b o e f = f ∙ ap (λ (x : Out). add t x) e ∙ sym (add_append (0x20 ∷ []) t o)

-- the bytes from place `k` on
module _ (bs : List ℕ) (k : ℕ) (o : Out) where
  pub row_more : k < length bs → add (row_text (drop k bs)) o ≡ add (row_text (drop (k + 1) bs)) (add (byte_text (get_or bs k 0)) o)
  unfolding row_text
  row_more h = rw (drop-cons bs k 0, add-one) (add_append (byte_text (get_or bs k 0)) _ o)

  pub row_end : length bs ≤ k → add (row_text (drop k bs)) o ≡ o
  unfolding row_text
  row_end h = rw (drop_of_length-le bs h) (add_none o)
