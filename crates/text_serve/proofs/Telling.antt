-- A turn told in a buffer; and that it has room. Assumes nothing.
use mathlib.Core.Path.{◌≡◌, refl, ap, sym, ◌∙◌}
use mathlib.Core.List.{List, [], ◌∷◌, ◌++◌}
use Prim.Native.Nat.{ℕ, ◌+◌, ◌*◌, ◌≤◌}
use native.Mathlib.Omega.{arith}
use lib.ListN.{length, length-append}
use Rattle.rules.specs.Capture.{sent_sign, given_sign}
use Rattle.text_out.specs.Out.{Out, add}
use Rattle.text_out.proofs.Appended.{add_append, add_none}
use Rattle.text_lines.specs.Rows.{row_text}
use Rattle.text_serve.specs.Log.{line_told, answer_told, turn_told}

-- a sign, a row and LF, one behind the other
pub lined : (sign : ℕ) (bs : List ℕ) (a b c o : Out) → b ≡ add (sign ∷ []) o → c ≡ add (row_text bs) b → a ≡ add (0x0A ∷ []) c → a ≡ add (line_told sign bs) o
unfolding line_told
lined sign bs a b c o d e f =
    f
    ∙ ap (add (0x0A ∷ [])) (e ∙ ap (add (row_text bs)) d)
    ∙ sym (add_append (row_text bs) (0x0A ∷ []) (add (sign ∷ []) o))
    ∙ sym (add_append (sign ∷ []) (row_text bs ++ (0x0A ∷ [])) o)

-- the line of what was sent alone, or with the answer's behind it
pub told_alone : (sent answer : List ℕ) (o : Out) → length answer ≡ 0 → add (line_told sent_sign sent) o ≡ add (turn_told sent answer) o
unfolding turn_told answer_told
told_alone sent [] o h = sym (add_append (line_told sent_sign sent) [] o ∙ add_none _)
told_alone sent (b ∷ bs) o h = absurd (omega (arith, h))

pub told_both : (sent answer : List ℕ) (o : Out) → (length answer ≡ 0 → ⊥) → add (line_told given_sign answer) (add (line_told sent_sign sent) o) ≡ add (turn_told sent answer) o
unfolding turn_told answer_told
told_both sent [] o h = absurd (h refl)
told_both sent (b ∷ bs) o h = sym (add_append (line_told sent_sign sent) (line_told given_sign (b ∷ bs)) o)

-- three bytes of text for each byte, and two for a sign and LF
row_length : (bs : List ℕ) → length (row_text bs) ≡ 3 * length bs
unfolding row_text
row_length [] = refl
row_length (b ∷ bs) = let e = row_length bs in omega (arith, e)

line_length : (sign : ℕ) (bs : List ℕ) → length (line_told sign bs) ≡ 3 * length bs + 2
unfolding line_told
line_length sign bs = let e = row_length bs in simp length-append (omega (arith, e))

-- THE ROOM for a turn of so many bytes
pub turn_fits : (sent answer : List ℕ) → length (turn_told sent answer) ≤ 3 * length sent + 3 * length answer + 4
unfolding turn_told answer_told
turn_fits sent [] = let e = line_length sent_sign sent in simp length-append (omega (arith, e))
turn_fits sent (b ∷ bs) = let e = line_length sent_sign sent in let f = line_length given_sign (b ∷ bs) in simp length-append (omega (arith, e, f))
