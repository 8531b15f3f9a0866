-- `text_read::chips::chip` meets its contract: each name has its law. Assumes nothing.
use mathlib.Core.Path.{◌≡◌, sym, ap, ◌∙◌}
use mathlib.Core.List.{List}
use Prim.Native.Nat.{ℕ}
use lib.Dec.{eqb}
use Rattle.std.specs.Cmp.Lexicographic.{pointwise}
use Rattle.rules.specs.Chip.{same}
use Rattle.rules.specs.Text.{ascii}
use Rattle.text_read.specs.Answers.{Is}
use Rattle.text_read.proofs.Parts.{same_as}
use Rattle.text_read.proofs.NamedChips.{names_small, names_large, names_counts}
use Rattle.text_read.proofs.chips.chip.Goals as goal

pub returns-then-eq : goal.returns-then-eq
returns-then-eq c =
    let t = c.args.text.now in
    let s : c.eq.result ≡ same t (ascii "small") = c.eq.ensures ∙ ap (λ (x : List ℕ). pointwise eqb t x) c.as_slice.ensures ∙ same_as t (ascii "small") in
    ap Is c.small.ensures ∙ sym (names_small t (sym s ∙ c.if-eq.true))

pub returns-then-eq-2 : goal.returns-then-eq-2
returns-then-eq-2 c =
    let t = c.args.text.now in
    let s : c.eq.result ≡ same t (ascii "small") = c.eq.ensures ∙ ap (λ (x : List ℕ). pointwise eqb t x) c.as_slice.ensures ∙ same_as t (ascii "small") in
    let r : c.eq-2.result ≡ same t (ascii "large") = c.eq-2.ensures ∙ ap (λ (x : List ℕ). pointwise eqb t x) c.as_slice-2.ensures ∙ same_as t (ascii "large") in
    ap Is c.large.ensures ∙ sym (names_large t (sym s ∙ c.if-eq.false) (sym r ∙ c.if-eq-2.true))

pub returns : goal.returns
returns c =
    let t = c.args.text.now in
    let s : c.eq.result ≡ same t (ascii "small") = c.eq.ensures ∙ ap (λ (x : List ℕ). pointwise eqb t x) c.as_slice.ensures ∙ same_as t (ascii "small") in
    let r : c.eq-2.result ≡ same t (ascii "large") = c.eq-2.ensures ∙ ap (λ (x : List ℕ). pointwise eqb t x) c.as_slice-2.ensures ∙ same_as t (ascii "large") in
    c.counted.ensures ∙ sym (names_counts t (sym s ∙ c.if-eq.false) (sym r ∙ c.if-eq-2.false))
