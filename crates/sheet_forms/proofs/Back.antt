-- Up and down again: the same bytes. Assumes nothing.
use mathlib.Core.Path.{◌≡◌, refl, sym, ap, ◌∙◌}
use mathlib.Core.Bool.{false}
use mathlib.Core.List.{List, ◌∷◌, ◌++◌, append_assoc}
use Prim.Native.Nat.{ℕ, zero, suc, ◌+◌, ◌-◌, ◌*◌, ◌<◌}
use native.Mathlib.Omega.{arith}
use lib.ListN.{length, take, drop, length-drop, take-append-drop}
use lib.Seq.{length-take-le, take_at, drop-drop, get_or-drop}
use Rattle.rules.specs.Chip.{byte_at, word_at}
use Rattle.rules.specs.Sheet.{form_two, count, table_end, entry_at, offset_at}
use Rattle.rules.specs.Move.{long_bytes, entries_moved, moved_up, moved_down}
use Rattle.rules.proofs.Sheet.{SheetAllowed}
use Rattle.sheet.proofs.Fields.{entry_there}
use Rattle.sheet.specs.declared.table.Entry.{Entry}
use Rattle.sheet_forms.proofs.OneEntry.{entry_again}
use Rattle.sheet_forms.proofs.Heads.{head_one, head_two}
use Rattle.sheet_forms.proofs.Moved.{behind_entry, front_up}
use Rattle.sheet_forms.proofs.Shifted.{same, table_there}
use Rattle.sheet_forms.proofs.Ways.{up_form, up_shift}

module _ (s : List ℕ) (form : form_two s ≡ false) (a : SheetAllowed s) (bytes : (i : ℕ) → byte_at s i < 256) where
  -- the bytes of entry i before its offset
  first_eight : (i : ℕ) → i < count s → take 8 (drop (entry_at (moved_up s) i) (moved_up s)) ≡ take 8 (drop (entry_at s i) s)
  unfolding moved_up
  first_eight i l =
      let u = moved_up s in
      let t = table_there s a in
      let front : List ℕ = 0xFE ∷ 0x02 ∷ 0x01 ∷ 0x00 ∷ take 2 s in
      let d = drop (entry_at s i) s in
      let f = behind_entry (λ n. n + 4) front s t i l in
      let n : entry_at u i ≡ length front + 12 * i = omega (arith, front_up s form t, head_two u (up_form s)) in
      ap (λ (k : ℕ). take 8 (drop k u)) n
      ∙ ap (take 8) f.is
      ∙ take_at (take 8 d) (long_bytes (offset_at s i + 4) ++ f.later) 8 (length-take-le 8 d (rw length-drop (omega arith)))

  -- its offset, up and down again
  offset_back : (i : ℕ) → i < count s → offset_at (moved_up s) i - 4 ≡ offset_at s i
  offset_back i l = omega (arith, (same (λ n. n + 4) s (moved_up s) (up_shift s form a) i l).offset)

  -- all of it
  entry_back : (i : ℕ) → i < count s
      → take 8 (drop (entry_at (moved_up s) i) (moved_up s)) ++ (long_bytes (offset_at (moved_up s) i - 4) ++ drop (entry_at s (i + 1)) s)
      ≡ drop (entry_at s i) s
  entry_back i l =
      let t = table_there s a in
      let d = drop (entry_at s i) s in
      let w : offset_at s i ≡ word_at d 8 + 65536 * word_at d 10 = ap (λ (e : Entry). e.offset) (sym (entry_there s i d refl)) in
      let n : entry_at s (i + 1) ≡ entry_at s i + 12 = omega arith in
      rw (first_eight i l, offset_back i l, w, n, ← drop-drop 12 (entry_at s i) s)
      (entry_again d (rw length-drop (omega arith)) (λ x. rw (get_or-drop (entry_at s i) s x 0) (bytes (entry_at s i + x))))

  entries_back : (i left : ℕ) → i + left ≡ count s
      → entries_moved (λ n. n - 4) (moved_up s) i left ++ drop (table_end s) s ≡ drop (entry_at s i) s
  unfolding entries_moved
  entries_back i zero l = let n : table_end s ≡ entry_at s i = omega arith in ap (λ (k : ℕ). drop k s) n
  entries_back i (suc left) l =
      simp append_assoc (rw (entries_back (i + 1) left (omega arith)) (entry_back i (omega arith)))

  -- the count
  count_back : take 2 (drop 4 (moved_up s)) ≡ take 2 s
  unfolding moved_up
  count_back =
      let t = table_there s a in
      take_at (take 2 s) (entries_moved (λ n. n + 4) s 0 (count s) ++ drop (table_end s) s) 2 (length-take-le 2 s (omega (arith, head_one s form)))

  pub there_and_back : moved_down (moved_up s) ≡ s
  unfolding moved_down
  there_and_back =
      let u = moved_up s in
      let h = up_shift s form a in
      let t = table_there s a in
      let b : drop (table_end u) u ≡ drop (table_end s) s =
      ap (λ (k : ℕ). drop k u) h.table ∙ h.body (table_end s) (omega arith) in
      let e : entry_at s 0 ≡ 2 = omega (arith, head_one s form) in
      rw (b, h.counted, entries_back 0 (count s) (omega arith), e, count_back) (take-append-drop 2 s)
