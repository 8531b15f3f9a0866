-- M-103: what a row of HEX texts says where it holds. Assumes nothing.
use mathlib.Core.Path.{◌≡◌}
use mathlib.Core.Bool.{true, ◌&&◌}
use mathlib.Core.List.{List, [], ◌∷◌}
use Prim.Native.Nat.{◌-◌}
use lib.Dec.{eqb}
use lib.ListN.{length, take, drop}
use borrow.Author.Tests.{eqb-true}
use Rattle.rules.specs.Chip.{same}
use Rattle.rules.specs.Hex.{made_number, made_line}
use Rattle.rules.proofs.Bytes.{same_equal}
use Rattle.rules.proofs.Choices.{both}
use Rattle.trials_rows.specs.Rows.{same_number}
use Rattle.trials_rows.proofs.Rows.{All, number_equal}
use Rattle.trials_texts.specs.HexTexts.{HexText, lent_out, making_in, written_in, makes, all_make}

pub record Makes (t : HexText) : Type 0 where
  pub due : made_number (making_in t).made ≡ t.due
  pub line : made_line (making_in t).made ≡ t.line
  pub front : take (length t.front) (making_in t).out ≡ t.front
  pub stands : drop (written_in t) (making_in t).out ≡ lent_out (t.room - written_in t)

making : (t : HexText) → makes t ≡ true → Makes t
unfolding makes
making t h =
    let r = making_in t in
    let d = same_number (made_number r.made) t.due in
    let l = eqb (made_line r.made) t.line in
    let f = same (take (length t.front) r.out) t.front in
    let s = same (drop (written_in t) r.out) (lent_out (t.room - written_in t)) in
    let c = both (d && l && f) s h in
    let b = both (d && l) f c.0 in
    let a = both d l b.0 in
    record {
      due = number_equal (made_number r.made) t.due a.0;
      line = eqb-true (made_line r.made) t.line a.1;
      front = same_equal (take (length t.front) r.out) t.front b.1;
      stands = same_equal (drop (written_in t) r.out) (lent_out (t.room - written_in t)) c.1;
    }

pub all_made : (ts : List HexText) → all_make ts ≡ true → All Makes ts
unfolding all_make
all_made [] e = tt
all_made (t ∷ ts) e = let p = both (makes t) (all_make ts) e in (making t p.0, all_made ts p.1)
