-- The answer of a move: with its number, and one outcome; and the sizes by which a call is judged. Assumes nothing.
use mathlib.Core.Path.{◌≡◌, sym, ap, ◌∙◌}
use mathlib.Core.Bool.{false, false≢true}
use mathlib.Core.List.{List}
use Prim.Native.Nat.{ℕ, ◌≤◌}
use native.Mathlib.Omega.{arith}
use lib.ListN.{length}
use Rattle.rules.specs.Answers.{Moved, Accepted}
use Rattle.rules.specs.Sheet.{head_size, table_end, sheet_verdict}
use Rattle.rules.specs.Move.{Moving, moved_number}
use Rattle.rules.proofs.Sheet.{sheet_allowed}
use Rattle.sheet_moves.specs.declared.way.Way.{Way}
use Rattle.sheet_moves.specs.declared.way.Way.TheVariants.{Up, Down}
use Rattle.sheet_moves.specs.Way.{is_up, closed, moved, shifted}
use Rattle.sheet_forms.proofs.Heads.{head_two}
use Rattle.sheet_forms.proofs.Moved.{up_length, down_length}
use Rattle.sheet_forms.proofs.Outcomes.{down_told}
use Rattle.sheet_forms.proofs.Shifted.{table_there}

-- moves that come to the same have the same number
pub numbered : (x : Moved) (b : List ℕ) (due : Moving) → ◌≡◌ {A = Moving} (record { moved = x; out = b }) due
    → (◌≡◌ {A = Moving} (record { moved = x; out = b }) due) × (moved_number x ≡ moved_number due.moved)
numbered x b due e = (e, ap (λ (m : Moving). moved_number m.moved) e)

-- ONE OUTCOME: two results that both meet the promise of a move agree in the answer and in the output buffer
pub one_moving : (due : Moving) (a b : Moved) (x y : List ℕ)
    → ◌≡◌ {A = Moving} (record { moved = a; out = x }) due
    → ◌≡◌ {A = Moving} (record { moved = b; out = y }) due
    → (a ≡ b) × (x ≡ y)
one_moving due a b x y p q =
    let e = p ∙ sym q in (ap (λ (m : Moving). m.moved) e, ap (λ (m : Moving). m.out) e)

module _ (s : List ℕ) (ok : sheet_verdict s ≡ Accepted) where
  pub table : table_end s ≤ length s
  table = table_there s (sheet_allowed s ok)

  pub moved_size : (w : Way) → closed w s ≡ false → length (moved w s) ≡ shifted (is_up w) (length s)
  moved_size Up form = up_length s form table
  moved_size Down way = down_length s (down_told s way).form table

  pub head_down : (w : Way) → is_up w ≡ false → closed w s ≡ false → 6 ≤ head_size s
  head_down Up down way = absurd (false≢true (sym down))
  head_down Down down way = omega (arith, head_two s (down_told s way).form)
