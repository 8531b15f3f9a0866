-- Laws of the bytes as they are put, and of the entries as they are looked through for a new kind. Assumes nothing.
use mathlib.Core.Path.{◌≡◌, refl, sym, ap, ◌∙◌}
use mathlib.Core.Bool.{◌||◌}
use mathlib.Core.List.{List, [], ◌∷◌, ◌++◌}
use Prim.Native.Nat.{ℕ, zero, suc, ◌+◌, ◌-◌, ◌<◌, ◌≤◌}
use native.Mathlib.Omega.{arith}
use lib.ListN.{length, take, drop, length-drop}
use lib.Seq.{take_all}
use Rattle.std.specs.List.{list_any, range_with_len}
use Rattle.rules.specs.Sheet.{count, table_end, entry_at, kind_at, offset_at}
use Rattle.rules.specs.Move.{long_bytes, entries_moved, moved_up, moved_down, is_new, any_new}
use Rattle.text_out.specs.Out.{Out, add}
use Rattle.text_out.proofs.Appended.{add_append, add_none}

-- ---- the entries, put one after another ----

module _ (to : ℕ → ℕ) (s : List ℕ) (i n : ℕ) (o : Out) where
  pub entries_more : i < n
      → add (entries_moved to s (i + 1) (n - (i + 1))) (add (long_bytes (to (offset_at s i))) (add (take 8 (drop (entry_at s i) s)) o))
      ≡ add (entries_moved to s i (n - i)) o
  unfolding entries_moved
  entries_more h = let e : n - i ≡ suc (n - (i + 1)) = omega arith in rw e (simp add_append)

  pub entries_end : n ≤ i → o ≡ add (entries_moved to s i (n - i)) o
  unfolding entries_moved
  entries_end h = let e : n - i ≡ 0 = omega arith in rw e (sym (add_none o))

-- ---- the whole of a sheet ----

-- what is cut from a place on
pub from : (n : ℕ) (s : List ℕ) → take (length s - n) (drop n s) ≡ drop n s
from n s = take_all (length s - n) (drop n s) (rw length-drop (omega arith))

module _ (s : List ℕ) (o : Out) where
  pub up_put : add (drop (table_end s) s) (add (entries_moved (λ n. n + 4) s 0 (count s)) (add (take 2 s) (add (0xFE ∷ 0x02 ∷ 0x01 ∷ 0x00 ∷ []) o)))
      ≡ add (moved_up s) o
  unfolding moved_up
  up_put =
      let x = entries_moved (λ n. n + 4) s 0 (count s) in
      sym
      (add_append (0xFE ∷ 0x02 ∷ 0x01 ∷ 0x00 ∷ []) (take 2 s ++ (x ++ drop (table_end s) s)) o
      ∙ add_append (take 2 s) (x ++ drop (table_end s) s) (add (0xFE ∷ 0x02 ∷ 0x01 ∷ 0x00 ∷ []) o)
      ∙ add_append x (drop (table_end s) s) (add (take 2 s) (add (0xFE ∷ 0x02 ∷ 0x01 ∷ 0x00 ∷ []) o)))

  pub down_put : add (drop (table_end s) s) (add (entries_moved (λ n. n - 4) s 0 (count s)) (add (take 2 (drop 4 s)) o)) ≡ add (moved_down s) o
  unfolding moved_down
  down_put =
      let x = entries_moved (λ n. n - 4) s 0 (count s) in
      sym
      (add_append (take 2 (drop 4 s)) (x ++ drop (table_end s) s) o
      ∙ add_append x (drop (table_end s) s) (add (take 2 (drop 4 s)) o))

-- ---- looked through ----

pub any_in_order : (s : List ℕ) (i left : ℕ) → list_any (λ k. is_new (kind_at s k)) (range_with_len i left) ≡ any_new s i left
unfolding any_new
any_in_order s i zero = refl
any_in_order s i (suc left) = ap (λ t. is_new (kind_at s i) || t) (any_in_order s (i + 1) left)
