-- A reply that does not stop the play is exactly the answer that is due: no other bytes are judged well. Assumes nothing.
use mathlib.Core.Path.{◌≡◌, refl, sym, ap, ◌∙◌}
use mathlib.Core.Bool.{Bool, true, false, cond, ◌&&◌, false≢true}
use mathlib.Core.List.{List, [], ◌∷◌, ◌++◌}
use Prim.Native.Nat.{ℕ, zero, suc, ◌+◌, ◌/◌, ◌%◌, ◌<◌}
use native.Mathlib.Numerals.{add-one}
use native.Mathlib.Omega.{arith}
use lib.Dec.{eqb}
use lib.ListN.{length, take, drop, length-drop, take-append-drop}
use lib.Seq.{drop-cons, get_or-drop, get_or-take, length-take-le, take_all}
use borrow.Author.Tests.{eqb-true, eqb-false, eq-eqb}
use Rattle.rules.specs.declared.Status.TheVariants.{Byte, L1}
use Rattle.rules.specs.declared.Step.{Step}
use Rattle.rules.specs.Chip.{byte_at, word_bytes, total}
use Rattle.rules.specs.Sheet.{clears}
use Rattle.rules.specs.Frame.{data_start, last_end, frame, len_byte, sum_byte, one, pair}
use Rattle.rules.specs.Player.{well, framed, command_reply, no_reply, lock_reply, sum_reply, sum_in, data_reply}
use Rattle.rules.proofs.Choices.{both, each_of_five, picked}
use Rattle.frame_build.proofs.Sum.{total_frame, sum_byte_lem}
use Rattle.player_laws.specs.Bytes.{Bytes}

-- ---- a frame ----

-- the last two of a list
last_two : (xs : List ℕ) (n : ℕ) → length xs ≡ n + 2 → xs ≡ take n xs ++ (byte_at xs n ∷ byte_at xs (suc n) ∷ [])
last_two [] n l = absurd (omega arith)
last_two (a ∷ []) zero l = absurd (omega arith)
last_two (a ∷ b ∷ []) zero l = refl
last_two (a ∷ b ∷ c ∷ xs) zero l = absurd (omega arith)
last_two (a ∷ xs) (suc n) l = ap (λ (ys : List ℕ). a ∷ ys) (last_two xs n (omega arith))

parts : (r : List ℕ) (n : ℕ) → length r ≡ n + 4
    → r ≡ byte_at r 0 ∷ byte_at r 1 ∷ (take n (drop 2 r) ++ (byte_at r (n + 2) ∷ byte_at r (n + 3) ∷ []))
parts [] n l = absurd (omega arith)
parts (a ∷ []) n l = absurd (omega arith)
parts (a ∷ b ∷ r) n l =
    let k : n + 2 ≡ suc (suc n) = omega arith in
    let m : n + 3 ≡ suc (suc (suc n)) = omega arith in
    rw (k, m) (ap (λ (ys : List ℕ). a ∷ b ∷ ys) (last_two r n (omega arith)))

-- what was tested
pub tested : (r : List ℕ) (n : ℕ) → framed n r ≡ true
    → (length r ≡ n + 4)
    × (byte_at r 0 ≡ data_start)
    × (byte_at r 1 ≡ n)
    × (total (take (n + 2) (drop 1 r)) % 256 ≡ 0)
    × (byte_at r (n + 3) ≡ last_end)
unfolding framed
tested r n e =
    let t = each_of_five (eqb (length r) (n + 4)) (eqb (byte_at r 0) data_start) (eqb (byte_at r 1) n) (eqb (total (take (n + 2) (drop 1 r)) % 256) 0) (eqb (byte_at r (n + 3)) last_end) e in
    (eqb-true _ _ t.0, eqb-true _ _ t.1, eqb-true _ _ t.2, eqb-true _ _ t.3, eqb-true _ _ t.4)

-- start, LEN, SUM and end byte leave only the body open
pub framed_exact : (r : List ℕ) (n : ℕ) → n < 256 → framed n r ≡ true → byte_at r (n + 2) < 256
    → r ≡ frame data_start last_end (take n (drop 2 r))
unfolding frame
framed_exact r n h e b =
    let t = tested r n e in
    let body = take n (drop 2 r) in
    let m : length body ≡ n = length-take-le n (drop 2 r) (omega (arith, t.0, length-drop 2 r)) in
    let len : byte_at r 1 ≡ len_byte body = omega (arith, t.2) in
    let s : byte_at r (n + 2) ≡ sum_byte body =
    sum_byte_lem body (byte_at r (n + 2)) (omega (arith, t.2, t.3, total_frame r n (omega (arith, t.0)))) b in
    parts r n t.0 ∙ rw (t.1, len, s, t.4)

-- ---- the answers ----

-- a pair whose status is 06h
both_well : (a b : ℕ) → cond (eqb a 0x06) b a ≡ 0x06 → (a ≡ 0x06) × (b ≡ 0x06)
both_well a b = go (eqb a 0x06) refl
  where
    go : (t : Bool) → eqb a 0x06 ≡ t → cond t b a ≡ 0x06 → (a ≡ 0x06) × (b ≡ 0x06)
    go true q e = (eqb-true a 0x06 q, e)
    go false q e = absurd (eqb-false a 0x06 q e)

byte_not : (b : ℕ) → Byte b ≡ L1 → ⊥
byte_not b e = let z : ◌≡◌ {A = ℕ} 0 1 = cc in omega arith

byte_same : (a b : ℕ) → Byte a ≡ Byte b → a ≡ b
byte_same a b e = cc

one_byte : (r : List ℕ) (k : ℕ) → k < length r → take 1 (drop k r) ≡ byte_at r k ∷ []
one_byte r k l = ap (λ (ys : List ℕ). take 1 ys) (drop-cons r k 0 l)

two_bytes : (r : List ℕ) (k : ℕ) → k + 1 < length r → take 2 (drop k r) ≡ byte_at r k ∷ byte_at r (k + 1) ∷ []
two_bytes r k l =
    ap (λ (ys : List ℕ). take 2 ys) (drop-cons r k 0 (omega arith))
    ∙ ap (λ (ys : List ℕ). byte_at r k ∷ ys) (rw add-one (one_byte r (suc k) (omega arith)))

-- an answer of one byte, and of two
one_exact : (r : List ℕ) → framed 1 r ≡ true → byte_at r 3 < 256 → r ≡ one (byte_at r 2)
one_exact r e b =
    let l = (tested r 1 e).0 in
    framed_exact r 1 (omega arith) e b ∙ ap (λ (ys : List ℕ). frame data_start last_end ys) (one_byte r 2 (omega arith))

two_exact : (r : List ℕ) → framed 2 r ≡ true → byte_at r 4 < 256 → r ≡ pair (byte_at r 2) (byte_at r 3)
two_exact r e b =
    let l = (tested r 2 e).0 in
    framed_exact r 2 (omega arith) e b ∙ ap (λ (ys : List ℕ). frame data_start last_end ys) (two_bytes r 2 (omega arith))

module _ (r : List ℕ) (bytes : Bytes r) where
  pub command_exact : (b : ℕ) → command_reply r ≡ Byte b → r ≡ one b
  unfolding command_reply
  command_exact b e =
      let t = picked (framed 1 r) (Byte (byte_at r 2)) L1 (Byte b) e (byte_not b) in
      one_exact r t.0 (bytes 3) ∙ ap one (byte_same _ _ t.1)

  -- to a lock that clears IFPR none, to another one byte
  pub lock_exact : (t : Step) → lock_reply t r ≡ well → r ≡ cond (clears t.flags) [] (one 0x06)
  unfolding lock_reply
  lock_exact t e = go (clears t.flags) refl
    where
      none : (x : List ℕ) → no_reply x ≡ well → x ≡ []
      none [] e = refl
      none (b ∷ x) e = absurd (byte_not 0x06 (sym e))

      go : (b : Bool) → clears t.flags ≡ b → r ≡ cond b [] (one 0x06)
      go true c = none r (rw c at e)
      go false c = command_exact 0x06 (rw c at e)

  pub data_exact : data_reply r ≡ well → r ≡ pair 0x06 0x06
  unfolding data_reply
  data_exact e =
      let t = picked (framed 2 r) (Byte (cond (eqb (byte_at r 2) 0x06) (byte_at r 3) (byte_at r 2))) L1 well e (byte_not 0x06) in
      let b = both_well (byte_at r 2) (byte_at r 3) (byte_same _ _ t.1) in
      two_exact r t.0 (bytes 4) ∙ rw (b.0, b.1)

  -- the word that stands in a sum's answer
  word_there : word_bytes (sum_in r) ≡ byte_at r 7 ∷ byte_at r 8 ∷ []
  word_there =
      let a : sum_in r % 256 ≡ byte_at r 7 = omega (arith, bytes 7) in
      let c : sum_in r / 256 ≡ byte_at r 8 = omega (arith, bytes 7) in
      let b : sum_in r / 256 % 256 ≡ byte_at r 8 = rw c (omega (arith, bytes 8)) in
      rw (a, b)

  pub sum_exact : sum_reply r ≡ well → r ≡ one 0x06 ++ frame data_start last_end (word_bytes (sum_in r))
  unfolding sum_reply command_reply
  sum_exact e = go (framed 1 (take 5 r) && eqb (byte_at r 2) 0x06) refl
    where
      go : (t : Bool) → (framed 1 (take 5 r) && eqb (byte_at r 2) 0x06) ≡ t → r ≡ one 0x06 ++ frame data_start last_end (word_bytes (sum_in r))
      go true q =
          let a = both (framed 1 (take 5 r)) (eqb (byte_at r 2) 0x06) q in
          let c = picked (framed 2 (drop 5 r)) well L1 well (rw q at e) (byte_not 0x06) in
          let x : byte_at (take 5 r) 2 ≡ 0x06 = get_or-take 5 r 2 0 (omega arith) ∙ eqb-true _ _ a.1 in
          let u = one_exact (take 5 r) a.0 (rw (get_or-take 5 r 3 0 (omega arith)) (bytes 3)) ∙ ap one x in
          let v = two_exact (drop 5 r) c.0 (rw (get_or-drop 5 r 4 0) (bytes 9)) in
          let y : pair (byte_at (drop 5 r) 2) (byte_at (drop 5 r) 3) ≡ frame data_start last_end (word_bytes (sum_in r)) =
          rw (get_or-drop 5 r 2 0, get_or-drop 5 r 3 0, word_there) in
          sym (take-append-drop 5 r) ∙ ap (λ (ys : List ℕ). ys ++ drop 5 r) u ∙ ap (λ (ys : List ℕ). one 0x06 ++ ys) (v ∙ y)
      go false q =
          let c = picked (framed 1 r) (Byte (byte_at r 2)) L1 well (rw q at e) (byte_not 0x06) in
          let k : take 5 r ≡ r = take_all 5 r (omega (arith, (tested r 1 c.0).0)) in
          let t : (framed 1 (take 5 r) && eqb (byte_at r 2) 0x06) ≡ true =
          rw (k, c.0, eq-eqb (byte_at r 2) 0x06 (byte_same _ _ c.1)) in
          absurd (false≢true (sym q ∙ t))
