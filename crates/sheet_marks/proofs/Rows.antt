-- Laws of rows of marks: one block more, none left, past the last mark; and what every mark is after an erase and after a write. Assumes nothing.
use mathlib.Core.Path.{◌≡◌, refl, sym, ap, ◌∙◌}
use mathlib.Core.Bool.{Bool, true, false, cond, ◌&&◌, ◌||◌, false≢true}
use mathlib.Core.List.{List, ◌++◌}
use Prim.Native.Nat.{ℕ, zero, suc, ◌+◌, ◌-◌, min, ◌≤◌, ◌<◌}
use native.Mathlib.Numerals.{add-one}
use native.Mathlib.Omega.{arith}
use lib.Dec.{eqb, leb, ltb}
use lib.ListN.{length, take, drop, get_or, set, length-set, get_or-eq_default}
use lib.Seq.{set_out, get_or-set_same, get_or-set_other, take-suc-set, drop-drop, drop-cons}
use borrow.Rule.Slice.PartMut.{put_mid}
use Rattle.std.specs.Prelude.{replicate}
use Rattle.std.specs.List.{prefix_len}
use Rattle.std.proofs.lemmas.List.{take-append-drop, drop-set-lt, append_assoc}
use borrow.Author.Tests.{eqb-true, eqb-false, eq-eqb, ne_eqb, le-leb, lt-leb, leb-true, ltb-true, ltb-false, lt-ltb, le-ltb}
use Rattle.rules.proofs.Choices.{either}
use Rattle.rules.specs.Sheet.{any_from}
use Rattle.sheet_marks.specs.Marks.{cleared, Marked, marked}

-- ---- one block after the other ----

module _ (b : ℕ) (row : List ℕ) where
  pub none_cleared : (left : ℕ) → left ≡ 0 → cleared b left row ≡ row
  unfolding cleared
  none_cleared left e = rw e

  pub one_cleared : (left rest : ℕ) → left ≡ rest + 1 → cleared b left row ≡ cleared (b + 1) rest (set row b 0)
  unfolding cleared
  one_cleared left rest e = rw (e, add-one rest)

  pub none_marked : (left : ℕ) → left ≡ 0 → marked b left row ≡ record { again = false; row = row }
  unfolding marked
  none_marked left e = rw e

  pub one_marked : (left rest : ℕ) → left ≡ rest + 1 → get_or row b 0 ≡ 0 → marked b left row ≡ marked (b + 1) rest (set row b 1)
  unfolding marked
  one_marked left rest e h = rw (e, add-one rest, eq-eqb (get_or row b 0) 0 h)

  pub one_again : (left rest : ℕ) → left ≡ rest + 1 → (get_or row b 0 ≡ 0 → ⊥) → marked b left row ≡ record { again = true; row = row }
  unfolding marked
  one_again left rest e h = rw (e, add-one rest, ne_eqb (get_or row b 0) 0 h)

-- ---- past the last mark ----

pub past_cleared : (left b : ℕ) (row : List ℕ) → length row ≤ b → cleared b left row ≡ row
unfolding cleared
past_cleared zero b row h = refl
past_cleared (suc left) b row h = rw (set_out row b 0 h) (past_cleared left (b + 1) row (omega arith))

pub past_marked : (left b : ℕ) (row : List ℕ) → length row ≤ b → marked b left row ≡ record { again = false; row = row }
unfolding marked
past_marked zero b row h = refl
past_marked (suc left) b row h =
    rw (eq-eqb (get_or row b 0) 0 (get_or-eq_default row 0 h), set_out row b 1 h) (past_marked left (b + 1) row (omega arith))

-- none is left, or no mark is
pub rest_cleared : (left b : ℕ) (row : List ℕ) → (0 < left → length row ≤ b) → cleared b left row ≡ row
rest_cleared zero b row h = none_cleared b row 0 refl
rest_cleared (suc left) b row h = past_cleared (suc left) b row (h (omega arith))

pub rest_marked : (left b : ℕ) (row : List ℕ) → (0 < left → length row ≤ b) → marked b left row ≡ record { again = false; row = row }
rest_marked zero b row h = none_marked b row 0 refl
rest_marked (suc left) b row h = past_marked (suc left) b row (h (omega arith))

-- so many marks of the row, filled at once; more blocks there are only where the row ends
pub cleared_filled : (k b left : ℕ) (row : List ℕ) → k ≤ left → b + k ≤ length row → (k < left → length row ≤ b + k)
    → cleared b left row ≡ take b row ++ (replicate k 0 ++ drop (b + k) row)
cleared_filled zero b left row o l h =
    let e : b + 0 ≡ b = omega arith in
    rw e (rest_cleared left b row (λ some. omega (arith, h some)) ∙ sym (take-append-drop b row))
cleared_filled (suc k) b left row o l h =
    one_cleared b row left (left - 1) (omega arith)
    ∙ cleared_filled k (b + 1) (left - 1) (set row b 0) (omega arith) (rw (length-set row b 0) (omega arith)) (λ some. rw (length-set row b 0) (omega (arith, h (omega arith))))
    ∙ (let e : suc b + k ≡ b + suc k = omega arith in
    rw (add-one b, take-suc-set row b 0 (omega arith), drop-set-lt (suc b + k) row b 0 (omega arith), append_assoc, e))

-- the marks of the blocks from f to l, in the row
pub places_cleared : (f l start end k : ℕ) (row : List ℕ) → start ≡ min f end → end ≡ min (l + 1) (length row) → k ≡ end - start
    → put_mid start (end - start) row (replicate k 0) ≡ cleared f (l + 1 - f) row
places_cleared f l start end k row s e n = go (ltb start end) refl
  where
    go : (t : Bool) → ltb start end ≡ t → put_mid start (end - start) row (replicate k 0) ≡ cleared f (l + 1 - f) row
    go true h =
        let o = ltb-true start end h in
        let g : start ≡ f = omega arith in
        rw (← n, g, drop-drop k f row) (sym (cleared_filled k f (l + 1 - f) row (omega arith) (omega arith) (λ some. omega arith)))
    go false h =
        let o = ltb-false start end h in
        let g : end - start ≡ 0 = omega arith in
        rw (n, g, take-append-drop) (sym (rest_cleared (l + 1 - f) f row (λ some. omega arith)))

-- one more is free, and filled
more_fewer : (j w : ℕ) → ltb (suc j) (suc w) ≡ ltb j w
more_fewer j w = go (ltb j w) refl
  where
    go : (t : Bool) → ltb j w ≡ t → ltb (suc j) (suc w) ≡ t
    go true h = let o = ltb-true j w h in lt-ltb (suc j) (suc w) (omega arith)
    go false h = let o = ltb-false j w h in le-ltb (suc j) (suc w) (omega arith)

one_filled : (w k j b : ℕ) (row : List ℕ) → b < length row → k ≡ suc j
    → ◌≡◌ {A = Marked} (record { again = ltb j w; row = take (b + 1) (set row b 1) ++ (replicate j 1 ++ drop (b + 1 + j) (set row b 1)) })
    (record { again = ltb k (suc w); row = take b row ++ (replicate k 1 ++ drop (b + k) row) })
one_filled w k j b row l n =
    let z : suc b + j ≡ b + suc j = omega arith in
    rw (n, ← more_fewer j w, add-one b, take-suc-set row b 1 l, drop-set-lt (suc b + j) row b 1 (omega arith), append_assoc, z)

-- so many blocks that the row has, of which k at the front are free
pub marked_filled : (w k b left : ℕ) (row : List ℕ) → w ≤ left → b + w ≤ length row → (w < left → length row ≤ b + w)
    → k ≡ prefix_len (λ m. eqb m 0) (take w (drop b row))
    → marked b left row ≡ record { again = ltb k w; row = take b row ++ (replicate k 1 ++ drop (b + k) row) }
marked_filled zero k b left row o l h e =
    let z : b + 0 ≡ b = omega arith in
    rw (e, z, take-append-drop) (rest_marked left b row (λ some. omega (arith, h some)))
marked_filled (suc w) k b left row o l h e =
    go (eqb (get_or row b 0) 0) refl
    (marked_filled w j (b + 1) (left - 1) (set row b 1) (omega arith) (rw (length-set row b 1) (omega arith)) (λ some. rw (length-set row b 1) (omega (arith, h (omega arith)))) (rw (drop-set-lt (b + 1) row b 1 (omega arith))))
  where
    j : ℕ
    j = prefix_len (λ m. eqb m 0) (take w (drop (b + 1) row))

    front : (t : Bool) → eqb (get_or row b 0) 0 ≡ t → k ≡ cond t (1 + j) 0
    front t q = e ∙ rw (drop-cons row b 0 (omega arith), add-one b, q)

    go : (t : Bool) → eqb (get_or row b 0) 0 ≡ t
        → marked (b + 1) (left - 1) (set row b 1) ≡ record { again = ltb j w; row = take (b + 1) (set row b 1) ++ (replicate j 1 ++ drop (b + 1 + j) (set row b 1)) }
        → marked b left row ≡ record { again = ltb k (suc w); row = take b row ++ (replicate k 1 ++ drop (b + k) row) }
    go true q later =
        one_marked b row left (left - 1) (omega arith) (eqb-true (get_or row b 0) 0 q)
        ∙ later
        ∙ one_filled w k j b row (omega arith) (omega (arith, front true q))
    go false q later =
        let z : b + 0 ≡ b = omega arith in
        one_again b row left (left - 1) (omega arith) (eqb-false (get_or row b 0) 0 q)
        ∙ rw (front false q, z, take-append-drop, lt-ltb 0 (suc w) (omega arith))

-- the marks of the blocks from f to l, in the row
pub places_marked : (f l start end k m : ℕ) (row : List ℕ) → start ≡ min f end → end ≡ min (l + 1) (length row) → m ≡ k
    → k ≡ prefix_len (λ m. eqb m 0) (take (end - start) (drop start row))
    → ◌≡◌ {A = Marked} (record { again = ltb k (end - start); row = put_mid start (start + k - start) row (replicate m 1) }) (marked f (l + 1 - f) row)
places_marked f l start end k m row s e n p = go (ltb start end) refl
  where
    at : put_mid start (start + k - start) row (replicate m 1) ≡ take start row ++ (replicate k 1 ++ drop (start + k) row)
    at = let z : start + k - start ≡ k = omega arith in rw (z, n, drop-drop k start row)

    go : (t : Bool) → ltb start end ≡ t
        → ◌≡◌ {A = Marked} (record { again = ltb k (end - start); row = put_mid start (start + k - start) row (replicate m 1) }) (marked f (l + 1 - f) row)
    go true h =
        let o = ltb-true start end h in
        let g : start ≡ f = omega arith in
        rw (at) (sym (rw (← g) (marked_filled (end - start) k start (l + 1 - start) row (omega arith) (omega arith) (λ some. omega arith) p)))
    go false h =
        let o = ltb-false start end h in
        let g : end - start ≡ 0 = omega arith in
        let q : k ≡ 0 = p ∙ rw g in
        let z : start + 0 ≡ start = omega arith in
        rw (at, q, g, z, take-append-drop) (sym (rest_marked (l + 1 - f) f row (λ some. omega arith)))

-- ---- what every mark is ----

-- the marks of the blocks of which p says that they stand written
abbrev pub Stand : List ℕ → (ℕ → Bool) → Type 0
Stand row p = (x : ℕ) → get_or row x 0 ≡ cond (p x) 1 0

-- block x is one of those from b on, so many
abbrev pub among : ℕ → ℕ → ℕ → Bool
among b left x = leb b x && ltb x (b + left)

among_none : (b x : ℕ) → among b 0 x ≡ false
among_none b x = go (leb b x) refl
  where
    go : (t : Bool) → leb b x ≡ t → (t && ltb x (b + 0)) ≡ false
    go true h = le-ltb x (b + 0) (let l = leb-true b x h in omega arith)
    go false h = refl

-- of one more: it is the first of them, or one of the others
among_first : (b left : ℕ) → among b (suc left) b ≡ true
among_first b left = rw (le-leb b b (omega arith), lt-ltb b (b + suc left) (omega arith))

among_other : (b left x : ℕ) → (x ≡ b → ⊥) → among b (suc left) x ≡ among (b + 1) left x
among_other b left x n = go (ltb b x) refl
  where
    go : (t : Bool) → ltb b x ≡ t → among b (suc left) x ≡ among (b + 1) left x
    go true h =
        let l = ltb-true b x h in
        rw (le-leb b x (omega arith), le-leb (b + 1) x (omega arith)) (ap (λ (m : ℕ). ltb x m) (omega arith))
    go false h = let l = ltb-false b x h in rw (lt-leb b x (omega arith), lt-leb (b + 1) x (omega arith))

-- one mark set
one_set : (row : List ℕ) (p : ℕ → Bool) (b : ℕ) (to : Bool) → b < length row → Stand row p
    → Stand (set row b (cond to 1 0)) (λ x. cond (eqb x b) to (p x))
one_set row p b to l h x = go (eqb x b) refl
  where
    go : (t : Bool) → eqb x b ≡ t → get_or (set row b (cond to 1 0)) x 0 ≡ cond (cond t to (p x)) 1 0
    go true e = rw (eqb-true x b e) (get_or-set_same row b (cond to 1 0) 0 l)
    go false e = get_or-set_other row b x (cond to 1 0) 0 (eqb-false x b e) ∙ h x

-- the first of more, then the others
then_others : (b left : ℕ) (to : Bool) (p : ℕ → Bool) (x : ℕ)
    → cond (among (b + 1) left x) to (cond (eqb x b) to (p x)) ≡ cond (among b (suc left) x) to (p x)
then_others b left to p x = go (eqb x b) refl
  where
    go : (t : Bool) → eqb x b ≡ t → cond (among (b + 1) left x) to (cond t to (p x)) ≡ cond (among b (suc left) x) to (p x)
    go true e = either (among (b + 1) left x) to ∙ sym (ap (λ (t : Bool). cond t to (p x)) (ap (among b (suc left)) (eqb-true x b e) ∙ among_first b left))
    go false e = ap (λ (t : Bool). cond t to (p x)) (sym (among_other b left x (eqb-false x b e)))

restated : (row : List ℕ) (p q : ℕ → Bool) → ((x : ℕ) → p x ≡ q x) → Stand row p → Stand row q
restated row p q e h x = h x ∙ ap (λ (t : Bool). cond t 1 0) (e x)

-- AFTER AN ERASE: those blocks do not stand written
pub cleared_stand : (left b : ℕ) (row : List ℕ) (p : ℕ → Bool) → b + left ≤ length row → Stand row p
    → Stand (cleared b left row) (λ x. cond (among b left x) false (p x))
unfolding cleared
cleared_stand zero b row p l h = restated row p (λ x. cond (among b 0 x) false (p x)) (λ x. ap (λ (t : Bool). cond t false (p x)) (sym (among_none b x))) h
cleared_stand (suc left) b row p l h =
    restated (cleared (b + 1) left (set row b 0)) (λ x. cond (among (b + 1) left x) false (cond (eqb x b) false (p x))) (λ x. cond (among b (suc left) x) false (p x))
    (then_others b left false p)
    (cleared_stand left (b + 1) (set row b 0) (λ x. cond (eqb x b) false (p x)) (rw (length-set row b 0) (omega arith)) (one_set row p b false (omega arith) h))

pub cleared_length : (left b : ℕ) (row : List ℕ) → length (cleared b left row) ≡ length row
unfolding cleared
cleared_length zero b row = refl
cleared_length (suc left) b row = cleared_length left (b + 1) (set row b 0) ∙ length-set row b 0

-- AFTER A WRITE: it is told where one of those blocks stood written; where none did, they all do
unasked : (p : ℕ → Bool) (b k left : ℕ) → b < k → any_from (λ x. cond (eqb x b) true (p x)) k left ≡ any_from p k left
unfolding any_from
unasked p b k zero l = refl
unasked p b k (suc left) l = rw (ne_eqb k b (λ e. omega arith), unasked p b (k + 1) left (omega arith))

pub marked_again : (left b : ℕ) (row : List ℕ) (p : ℕ → Bool) → b + left ≤ length row → Stand row p
    → (marked b left row).again ≡ any_from p b left
unfolding marked any_from
marked_again zero b row p l h = refl
marked_again (suc left) b row p l h =
    go (p b) refl
    (marked_again left (b + 1) (set row b 1) (λ x. cond (eqb x b) true (p x)) (rw (length-set row b 1) (omega arith)) (one_set row p b true (omega arith) h)
    ∙ unasked p b (b + 1) left (omega arith))
  where
    go : (t : Bool) → p b ≡ t → (marked (b + 1) left (set row b 1)).again ≡ any_from p (b + 1) left
        → (cond (eqb (get_or row b 0) 0) (marked (b + 1) left (set row b 1)) (record { again = true; row = row })).again ≡ (p b || any_from p (b + 1) left)
    go true e later = rw (h b, e)
    go false e later = rw (h b, e) later

pub marked_stand : (left b : ℕ) (row : List ℕ) (p : ℕ → Bool) → b + left ≤ length row → Stand row p → (marked b left row).again ≡ false
    → Stand (marked b left row).row (λ x. cond (among b left x) true (p x))
unfolding marked
marked_stand zero b row p l h n = restated row p (λ x. cond (among b 0 x) true (p x)) (λ x. ap (λ (t : Bool). cond t true (p x)) (sym (among_none b x))) h
marked_stand (suc left) b row p l h n =
    go (eqb (get_or row b 0) 0) n
    (marked_stand left (b + 1) (set row b 1) (λ x. cond (eqb x b) true (p x)) (rw (length-set row b 1) (omega arith)) (one_set row p b true (omega arith) h))
  where
    go : (t : Bool) → (cond t (marked (b + 1) left (set row b 1)) (record { again = true; row = row })).again ≡ false
        → ((marked (b + 1) left (set row b 1)).again ≡ false → Stand (marked (b + 1) left (set row b 1)).row (λ x. cond (among (b + 1) left x) true (cond (eqb x b) true (p x))))
        → Stand (cond t (marked (b + 1) left (set row b 1)) (record { again = true; row = row })).row (λ x. cond (among b (suc left) x) true (p x))
    go true m later =
        restated (marked (b + 1) left (set row b 1)).row (λ x. cond (among (b + 1) left x) true (cond (eqb x b) true (p x))) (λ x. cond (among b (suc left) x) true (p x))
        (then_others b left true p) (later m)
    go false m later = absurd (false≢true (sym m))

pub marked_length : (left b : ℕ) (row : List ℕ) → length (marked b left row).row ≡ length row
unfolding marked
marked_length zero b row = refl
marked_length (suc left) b row = go (eqb (get_or row b 0) 0) (marked_length left (b + 1) (set row b 1) ∙ length-set row b 1)
  where
    go : (t : Bool) → length (marked (b + 1) left (set row b 1)).row ≡ length row
        → length (cond t (marked (b + 1) left (set row b 1)) (record { again = true; row = row })).row ≡ length row
    go true later = later
    go false later = refl
