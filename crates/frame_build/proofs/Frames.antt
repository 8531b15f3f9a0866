-- The frame that a buffer holds: what it says is what the buffer says. Assumes nothing.
use Rattle.std.proofs.Common.{◌≡◌, ℕ, zero, suc, ◌+◌, ◌-◌, ◌<◌, ◌≤◌, Bool, true, false, cond, eqb, List, [], ◌∷◌, length, take, drop, sym, refl, ap, ◌∙◌, arith, length-take-le, get_or-take, take-take}
use lib.Seq.{take-nil}
use borrow.Author.Tests.{eqb-false}
use Rattle.rules.specs.declared.Phase.{Phase}
use Rattle.rules.specs.Chip.{byte_at, total}
use Rattle.rules.specs.Frame.{body_size, frame_size, sum_byte, frame, one, pair, len_of, body_of, end_of, sum_holds, data_fault}
use Rattle.rules.specs.Command.{code_of, frame_checks}
use Rattle.frame_build.specs.Buffer.{frame_in}

-- the fixed frames
pub ack : one 0x06 ≡ 0x02 ∷ 0x01 ∷ 0x06 ∷ 0xF9 ∷ 0x03 ∷ []
unfolding frame sum_byte total
ack = refl

pub well : pair 0x06 0x06 ≡ 0x02 ∷ 0x02 ∷ 0x06 ∷ 0x06 ∷ 0xF2 ∷ 0x03 ∷ []
unfolding frame sum_byte total
well = refl

-- a body has 1 to 256 bytes, a frame four more
pub frame_size_lem : (len : ℕ) → frame_size len ≡ body_size len + 4
unfolding frame_size
frame_size_lem len = refl

pub body_least : (len : ℕ) → 1 ≤ body_size len
unfolding body_size
body_least len = go (eqb len 0) refl
  where
    go : (b : Bool) → eqb len 0 ≡ b → 1 ≤ cond b 256 len
    go true e = omega arith
    go false e = let n = eqb-false len 0 e in omega arith

pub body_most : (len : ℕ) → len < 256 → body_size len ≤ 256
unfolding body_size
body_most len h = go (eqb len 0)
  where
    go : (b : Bool) → cond b 256 len ≤ 256
    go true = omega arith
    go false = omega arith

-- any part that lies within the frame, and any byte
drop_take : (m n k : ℕ) (l : List ℕ) → k ≡ m + n → drop m (take k l) ≡ take n (drop m l)
drop_take zero n k l e = let q : k ≡ n = omega arith in rw q
drop_take (suc m) n zero l e = absurd (omega arith)
drop_take (suc m) n (suc k) [] e = sym (take-nil n)
drop_take (suc m) n (suc k) (x ∷ l) e = drop_take m n k l (omega arith)

module _ (b : List ℕ) where
  pub part_in : (m n : ℕ) → m + n ≤ frame_size (len_of b) → take n (drop m (frame_in b)) ≡ take n (drop m b)
  part_in m n h =
      ap (take n) (drop_take m (frame_size (len_of b) - m) (frame_size (len_of b)) b (omega arith))
      ∙ take-take n (frame_size (len_of b) - m) (drop m b) (omega arith)

  pub byte_in_lem : (i : ℕ) → i < frame_size (len_of b) → byte_at (frame_in b) i ≡ byte_at b i
  byte_in_lem i h = get_or-take (frame_size (len_of b)) b i 0 h

  -- LEN, the code, the end byte, the body and whether SUM holds
  pub len_in : len_of (frame_in b) ≡ len_of b
  len_in = byte_in_lem 1 (omega (arith, frame_size_lem (len_of b)))

  pub code_in : code_of (frame_in b) ≡ code_of b
  code_in = byte_in_lem 2 (omega (arith, frame_size_lem (len_of b)))

  pub end_in : end_of (frame_in b) ≡ end_of b
  end_in = rw len_in (byte_in_lem (body_size (len_of b) + 3) (omega (arith, frame_size_lem (len_of b))))

  pub body_in : body_of (frame_in b) ≡ body_of b
  body_in = rw len_in (part_in 2 (body_size (len_of b)) (omega (arith, frame_size_lem (len_of b))))

  pub sum_in_lem : sum_holds (frame_in b) ≡ sum_holds b
  sum_in_lem =
      rw (len_in, part_in 1 (body_size (len_of b) + 2) (omega (arith, frame_size_lem (len_of b))))

  -- its length, in a buffer for the longest
  pub length_in : length b ≡ 260 → len_of b < 256 → length (frame_in b) ≡ frame_size (len_of b)
  length_in e h =
      length-take-le (frame_size (len_of b)) b (omega (arith, frame_size_lem (len_of b), body_most (len_of b) h))

  -- the verdicts on it
  pub checks_in : (phase : Phase) → frame_checks phase (frame_in b) ≡ frame_checks phase b
  unfolding frame_checks
  checks_in phase = rw (end_in, sum_in_lem, code_in, len_in)

  pub data_in : (last : Bool) → data_fault last (frame_in b) ≡ data_fault last b
  unfolding data_fault
  data_in last = rw (end_in, sum_in_lem, len_in)
