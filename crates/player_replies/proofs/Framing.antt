-- Whether a reply is one data frame of so many bytes, and how replies are judged: one law for each outcome; and the fixed frames, which are
-- judged alike whether they are compared or decoded. Assumes nothing.
use Rattle.frame_build.proofs.Buffers.{rest_of}
use mathlib.Core.Path.{◌≡◌, refl, sym}
use mathlib.Core.Bool.{Bool, true, false, cond, ◌&&◌}
use mathlib.Core.List.{List, [], ◌∷◌}
use Prim.Native.Nat.{ℕ, ◌+◌, ◌%◌, ◌<◌, ◌-◌, ◌≤◌}
use native.Mathlib.Omega.{arith}
use lib.Dec.{eqb}
use lib.ListN.{length, take, drop, length-take}
use lib.Pointwise.{pointwise}
use borrow.Author.Tests.{eq-eqb, ne_eqb, eqb-true, eqb-false}
use Rattle.std.specs.Cmp.Lexicographic.{unequal}
use Rattle.rules.specs.declared.Status.TheVariants.{Byte, L1}
use Rattle.rules.specs.Chip.{byte_at, total, same}
use Rattle.rules.specs.Frame.{adds_up}
use Rattle.rules.specs.Player.{well, framed, command_reply, sum_reply, data_reply}
use Rattle.rules.proofs.Choices.{and_false}
use Rattle.rules.proofs.Bytes.{same_equal}

-- ---- the tests, one after the other ----

module _ (n : ℕ) (r : List ℕ) where
  pub other_length : (length r ≡ n + 4 → ⊥) → framed n r ≡ false
  unfolding framed
  other_length h = rw (ne_eqb (length r) (n + 4) h)

  module _ (l : length r ≡ n + 4) where
    pub other_start : (byte_at r 0 ≡ 0x02 → ⊥) → framed n r ≡ false
    unfolding framed
    other_start h = rw (eq-eqb (length r) (n + 4) l, ne_eqb (byte_at r 0) 0x02 h)

    module _ (b : byte_at r 0 ≡ 0x02) where
      pub other_len : (byte_at r 1 ≡ n → ⊥) → framed n r ≡ false
      unfolding framed
      other_len h = rw (eq-eqb (length r) (n + 4) l, eq-eqb (byte_at r 0) 0x02 b, ne_eqb (byte_at r 1) n h)

      module _ (e : byte_at r 1 ≡ n) where
        pub other_sum : adds_up n r ≡ false → framed n r ≡ false
        unfolding framed
        other_sum h = rw (eq-eqb (length r) (n + 4) l, eq-eqb (byte_at r 0) 0x02 b, eq-eqb (byte_at r 1) n e, h)

        pub by_end : adds_up n r ≡ true → framed n r ≡ eqb (byte_at r (n + 3)) 0x03
        unfolding framed
        by_end h = rw (eq-eqb (length r) (n + 4) l, eq-eqb (byte_at r 0) 0x02 b, eq-eqb (byte_at r 1) n e, h)

-- ---- replies ----

module _ (r : List ℕ) where
  pub no_command : framed 1 r ≡ false → command_reply r ≡ L1
  unfolding command_reply
  no_command h = rw h

  pub command_told : framed 1 r ≡ true → command_reply r ≡ Byte (byte_at r 2)
  unfolding command_reply
  command_told h = rw h

  pub no_pair : framed 2 r ≡ false → data_reply r ≡ L1
  unfolding data_reply
  no_pair h = rw h

  pub second_told : framed 2 r ≡ true → byte_at r 2 ≡ 0x06 → data_reply r ≡ Byte (byte_at r 3)
  unfolding data_reply
  second_told h e = rw (h, eq-eqb (byte_at r 2) 0x06 e)

  pub first_told : framed 2 r ≡ true → (byte_at r 2 ≡ 0x06 → ⊥) → data_reply r ≡ Byte (byte_at r 2)
  unfolding data_reply
  first_told h n = rw (h, ne_eqb (byte_at r 2) 0x06 n)

-- ---- the fixed frames: compared and decoded they are judged alike ----

abbrev ACK : List ℕ
ACK = 0x02 ∷ 0x01 ∷ 0x06 ∷ 0xF9 ∷ 0x03 ∷ []

abbrev WELL : List ℕ
WELL = 0x02 ∷ 0x02 ∷ 0x06 ∷ 0x06 ∷ 0xF2 ∷ 0x03 ∷ []

pub command_alike : (r : List ℕ) → same r ACK ≡ true → command_reply r ≡ well
unfolding command_reply framed total
command_alike r e = rw (same_equal r ACK e)

pub data_alike : (r : List ℕ) → same r WELL ≡ true → data_reply r ≡ well
unfolding data_reply framed total
data_alike r e = rw (same_equal r WELL e)

-- of five bytes only the ACK is a frame that tells 06h: its SUM can be no other byte
ack_only : (a b c d e : ℕ) → d < 256 → let f = a ∷ b ∷ c ∷ d ∷ e ∷ [] in (framed 1 f && eqb c 0x06) ≡ same f ACK
unfolding framed total same
ack_only a b c d e h = go (eqb a 0x02) (eqb b 0x01) (eqb c 0x06) refl refl refl
  where
    sum_only : b ≡ 0x01 → c ≡ 0x06 → eqb ((b + (c + (d + 0))) % 256) 0 ≡ eqb d 0xF9
    sum_only y z = sum_alike (eqb d 0xF9) refl
      where
        sum_alike : (t : Bool) → eqb d 0xF9 ≡ t → eqb ((b + (c + (d + 0))) % 256) 0 ≡ t
        sum_alike true q = eq-eqb ((b + (c + (d + 0))) % 256) 0 (omega (arith, eqb-true d 0xF9 q))
        sum_alike false q = ne_eqb ((b + (c + (d + 0))) % 256) 0 (λ x. eqb-false d 0xF9 q (omega arith))

    ends : (x y : Bool) → ((x && y) && true) ≡ cond x (cond y true false) false
    ends true true = refl
    ends true false = refl
    ends false y = refl

    go : (x y z : Bool) → eqb a 0x02 ≡ x → eqb b 0x01 ≡ y → eqb c 0x06 ≡ z
        → ((x && y && eqb ((b + (c + (d + 0))) % 256) 0 && eqb e 0x03) && z) ≡ cond x (cond y (cond z (cond (eqb d 0xF9) (cond (eqb e 0x03) true false) false) false) false) false
    go true true true p q r = rw (sum_only (eqb-true b 0x01 q) (eqb-true c 0x06 r)) (ends (eqb d 0xF9) (eqb e 0x03))
    go true true false p q r = and_false (eqb ((b + (c + (d + 0))) % 256) 0 && eqb e 0x03)
    go true false z p q r = refl
    go false y z p q r = refl

both : (b c : Bool) → (b && c) ≡ cond b c false
both true c = refl
both false c = refl

-- `==` of two slices of bytes
same_is : (xs ys : List ℕ) → pointwise eqb xs ys ≡ same xs ys
unfolding same
same_is [] [] = refl
same_is [] (y ∷ ys) = refl
same_is (x ∷ xs) [] = refl
same_is (x ∷ xs) (y ∷ ys) = rw (same_is xs ys) (both (eqb x y) (same xs ys))

too_short : (r : List ℕ) → length r < 5 → (framed 1 (take 5 r) && eqb (byte_at r 2) 0x06) ≡ same (take 5 r) ACK
too_short r h =
    rw (other_length 1 (take 5 r) (λ e. omega (arith, length-take 5 r)), ← same_is (take 5 r) ACK, unequal eqb (take 5 r) ACK (λ e. omega (arith, length-take 5 r)))

-- so a sum's first frame is told by comparing five bytes
first_frame : (r : List ℕ) → byte_at r 3 < 256 → (framed 1 (take 5 r) && eqb (byte_at r 2) 0x06) ≡ same (take 5 r) ACK
first_frame (a ∷ b ∷ c ∷ d ∷ e ∷ r) h = ack_only a b c d e h
first_frame (a ∷ b ∷ c ∷ d ∷ []) h = too_short (a ∷ b ∷ c ∷ d ∷ []) (omega arith)
first_frame (a ∷ b ∷ c ∷ []) h = too_short (a ∷ b ∷ c ∷ []) (omega arith)
first_frame (a ∷ b ∷ []) h = too_short (a ∷ b ∷ []) (omega arith)
first_frame (a ∷ []) h = too_short (a ∷ []) (omega arith)
first_frame [] h = too_short [] (omega arith)

module _ (r : List ℕ) (h : byte_at r 3 < 256) where
  pub sum_refused : same (take 5 r) ACK ≡ false → sum_reply r ≡ command_reply r
  unfolding sum_reply
  sum_refused e = rw (first_frame r h, e)

  module _ (e : same (take 5 r) ACK ≡ true) where
    pub sum_told_lem : framed 2 (drop 5 r) ≡ true → sum_reply r ≡ well
    unfolding sum_reply
    sum_told_lem f = rw (first_frame r h, e, f)

    pub sum_bad : framed 2 (drop 5 r) ≡ false → sum_reply r ≡ L1
    unfolding sum_reply
    sum_bad f = rw (first_frame r h, e, f)

-- the same, as the code compares
pub equal_ACK : (r : List ℕ) → pointwise eqb r ACK ≡ true → command_reply r ≡ well
equal_ACK r e = command_alike r (rw (← same_is r ACK) e)

pub equal_WELL : (r : List ℕ) → pointwise eqb r WELL ≡ true → data_reply r ≡ well
equal_WELL r e = data_alike r (rw (← same_is r WELL) e)

pub sum_by_first : (r : List ℕ) → byte_at r 3 < 256
    → sum_reply r ≡ cond (pointwise eqb (take 5 r) ACK) (cond (framed 2 (drop 5 r)) well L1) (command_reply r)
unfolding sum_reply
sum_by_first r h = rw (first_frame r h, same_is (take 5 r) ACK)

-- a rest that is given by its length
module _ (r : List ℕ) (l : 5 ≤ length r) (h : byte_at r 3 < 256) (e : same (take 5 r) ACK ≡ true) where
  pub rest_told : framed 2 (take (length r - 5) (drop 5 r)) ≡ true → sum_reply r ≡ well
  rest_told f = sum_told_lem r h e (rw (sym (rest_of 5 r)) f)

  pub rest_bad : framed 2 (take (length r - 5) (drop 5 r)) ≡ false → sum_reply r ≡ L1
  rest_bad f = sum_bad r h e (rw (sym (rest_of 5 r)) f)
