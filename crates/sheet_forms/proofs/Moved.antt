-- Laws of the moved bytes: where the entries and the bodies stand, and how many bytes there are. Assumes nothing.
use mathlib.Core.Path.{◌≡◌, refl, sym, ap, ◌∙◌}
use mathlib.Core.Bool.{true, false}
use mathlib.Core.List.{List, ◌∷◌, ◌++◌, append_assoc}
use Prim.Native.Nat.{ℕ, zero, suc, ◌+◌, ◌-◌, ◌*◌, ◌<◌, ◌≤◌}
use native.Mathlib.Omega.{arith}
use lib.ListN.{length, take, drop, length-append, length-drop}
use lib.Seq.{length-take-le, drop-drop, drop-append-add, drop_at}
use Rattle.rules.specs.Sheet.{form_two, head_size, count, entry_at, table_end, offset_at}
use Rattle.rules.specs.Move.{long_bytes, entries_moved, moved_up, moved_down}
use Rattle.sheet_forms.proofs.Heads.{head_one, head_two}

-- ---- the entries one after another ----

module _ (to : ℕ → ℕ) (s : List ℕ) where
  -- what stands before the offset
  eight : (i : ℕ) → entry_at s (i + 1) ≤ length s → length (take 8 (drop (entry_at s i) s)) ≡ 8
  eight i h = length-take-le 8 (drop (entry_at s i) s) (rw length-drop (omega arith))

  pub entries_length : (i left : ℕ) → entry_at s (i + left) ≤ length s → length (entries_moved to s i left) ≡ 12 * left
  unfolding entries_moved
  entries_length i zero h = refl
  entries_length i (suc left) h =
      let e = eight i (omega arith) in
      let f = entries_length (i + 1) left (omega arith) in
      simp length-append (omega arith)

  -- entry k from a place on, and what stands behind it
  pub record From (at : List ℕ) (k : ℕ) : Type 0 where
    pub later : List ℕ
    pub is : at ≡ take 8 (drop (entry_at s k) s) ++ (long_bytes (to (offset_at s k)) ++ later)

  -- the first entry, and the others
  step : (i left : ℕ) (rest : List ℕ)
      → entries_moved to s i (suc left) ++ rest ≡ take 8 (drop (entry_at s i) s) ++ (long_bytes (to (offset_at s i)) ++ (entries_moved to s (i + 1) left ++ rest))
  unfolding entries_moved
  step i left rest = simp append_assoc

  twelve : (i left : ℕ) (rest : List ℕ) → entry_at s (i + 1) ≤ length s
      → drop 12 (entries_moved to s i (suc left) ++ rest) ≡ entries_moved to s (i + 1) left ++ rest
  twelve i left rest h =
      let p = take 8 (drop (entry_at s i) s) in
      let q = long_bytes (to (offset_at s i)) in
      let x = entries_moved to s (i + 1) left ++ rest in
      let n : length (p ++ q) ≡ 12 = length-append p q ∙ omega (arith, eight i h) in
      ap (drop 12) (step i left rest ∙ sym (append_assoc p q x)) ∙ drop_at (p ++ q) x 12 n

  pub entry_from : (i j left : ℕ) (rest : List ℕ) → i < left → entry_at s (j + left) ≤ length s
      → From (drop (12 * i) (entries_moved to s j left ++ rest)) (j + i)
  entry_from i j zero rest l h = absurd (omega arith)
  entry_from zero j (suc left) rest l h =
      let e : j + 0 ≡ j = omega arith in
      rw e (record { later = entries_moved to s (j + 1) left ++ rest; is = step j left rest })
  entry_from (suc i) j (suc left) rest l h =
      let e : j + suc i ≡ j + 1 + i = omega arith in
      let n : 12 * suc i ≡ 12 + 12 * i = omega arith in
      let f = entry_from i (j + 1) left rest (omega arith) (omega arith) in
      let d : drop (12 * suc i) (entries_moved to s j (suc left) ++ rest) ≡ drop (12 * i) (entries_moved to s (j + 1) left ++ rest) =
      ap (λ (k : ℕ). drop k (entries_moved to s j (suc left) ++ rest)) n
      ∙ sym (drop-drop (12 * i) 12 (entries_moved to s j (suc left) ++ rest))
      ∙ ap (drop (12 * i)) (twelve j left rest (omega arith)) in
      rw (e, d) f

-- ---- the moved sheet: its head, the entries, the bodies ----

-- what a move comes to: `front` is the head of the moved sheet
abbrev pub behind : (ℕ → ℕ) → List ℕ → List ℕ → List ℕ
behind to front s = front ++ (entries_moved to s 0 (count s) ++ drop (table_end s) s)

module _ (to : ℕ → ℕ) (front s : List ℕ) (table : table_end s ≤ length s) where
  pub behind_length : length (behind to front s) + head_size s ≡ length front + length s
  behind_length =
      let e = entries_length to s 0 (count s) (omega arith) in
      let a = length-append front (entries_moved to s 0 (count s) ++ drop (table_end s) s) in
      let b = length-append (entries_moved to s 0 (count s)) (drop (table_end s) s) in
      omega (arith, e, a, b, length-drop (table_end s) s)

  pub behind_entry : (i : ℕ) → i < count s → From to s (drop (length front + 12 * i) (behind to front s)) i
  behind_entry i h =
      let z : 0 + i ≡ i = omega arith in
      rw (drop-append-add front (entries_moved to s 0 (count s) ++ drop (table_end s) s) (12 * i))
      (rw z at (entry_from to s i 0 (count s) (drop (table_end s) s) h (omega arith)))

  pub behind_body : (n : ℕ) → table_end s ≤ n → drop (length front + n - head_size s) (behind to front s) ≡ drop n s
  behind_body n h =
      let e = entries_length to s 0 (count s) (omega arith) in
      let x = entries_moved to s 0 (count s) in
      let m : length front + n - head_size s ≡ length front + (length x + (n - table_end s)) = omega (arith, e) in
      let k : table_end s + (n - table_end s) ≡ n = omega arith in
      ap (λ (j : ℕ). drop j (behind to front s)) m
      ∙ drop-append-add front (x ++ drop (table_end s) s) (length x + (n - table_end s))
      ∙ drop-append-add x (drop (table_end s) s) (n - table_end s)
      ∙ drop-drop (n - table_end s) (table_end s) s
      ∙ ap (λ (j : ℕ). drop j s) k

-- ---- the two ways ----

module _ (s : List ℕ) (form : form_two s ≡ false) (table : table_end s ≤ length s) where
  pub front_up : length (0xFE ∷ 0x02 ∷ 0x01 ∷ 0x00 ∷ take 2 s) ≡ 6
  front_up = let e = length-take-le 2 s (omega (arith, head_one s form)) in omega arith

  pub up_length : length (moved_up s) ≡ length s + 4
  unfolding moved_up
  up_length =
      omega (arith, behind_length (λ n. n + 4) (0xFE ∷ 0x02 ∷ 0x01 ∷ 0x00 ∷ take 2 s) s table, front_up, head_one s form)

module _ (s : List ℕ) (form : form_two s ≡ true) (table : table_end s ≤ length s) where
  pub front_down : length (take 2 (drop 4 s)) ≡ 2
  front_down = length-take-le 2 (drop 4 s) (rw length-drop (omega (arith, head_two s form)))

  pub down_length : length (moved_down s) ≡ length s - 4
  unfolding moved_down
  down_length =
      omega (arith, behind_length (λ n. n - 4) (take 2 (drop 4 s)) s table, front_down, head_two s form)
