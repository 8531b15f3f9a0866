-- How replies are judged: what the stand-in's answers come to. Assumes nothing.
use mathlib.Core.Path.{◌≡◌, ap}
use mathlib.Core.Bool.{true, cond, false≢true}
use mathlib.Core.List.{List, [], ◌∷◌, ◌++◌}
use Prim.Native.Nat.{ℕ, ◌+◌, ◌%◌, ◌<◌}
use native.Mathlib.Omega.{arith}
use lib.Dec.{eqb}
use lib.ListN.{length, take, drop}
use borrow.Author.Tests.{eqb-true, eq-eqb}
use Rattle.rules.specs.declared.Status.{Status}
use Rattle.rules.specs.declared.Status.TheVariants.{Byte, L1}
use Rattle.rules.specs.Chip.{byte_at, word_bytes, total}
use Rattle.rules.specs.Frame.{data_start, last_end, frame, one, pair}
use Rattle.rules.specs.Player.{well, framed, command_reply, sum_reply, sum_in, data_reply, is_well}
use Rattle.frame_build.proofs.Buffers.{length_frame}
use Rattle.frame_build.proofs.Built.{frame_sum, frame_end}

-- a status that does not stop the play
pub is_well_lem : (st : Status) → is_well st ≡ true → st ≡ well
is_well_lem (Byte b) e = ap Byte (eqb-true b 0x06 e)
is_well_lem L1 e = absurd (false≢true e)

pub framed_frame : (body : List ℕ) → length body < 256 → framed (length body) (frame data_start last_end body) ≡ true
unfolding framed frame
framed_frame body h =
    let f = frame data_start last_end body in
    let n = length body in
    let l : n % 256 ≡ n = omega arith in
    rw (
      eq-eqb (length f) (n + 4) (length_frame data_start last_end body),
      eq-eqb (n % 256) n l,
      eq-eqb (total (take (n + 2) (drop 1 f)) % 256) 0 (frame_sum data_start last_end body),
      eq-eqb (byte_at f (n + 3)) last_end (frame_end data_start last_end body),
    )

-- ---- an answer of one byte, and of two ----

pub command_one : (b : ℕ) → command_reply (one b) ≡ Byte b
unfolding command_reply frame
command_one b = rw (framed_frame (b ∷ []) (omega arith))

pub data_pair : (a b : ℕ) → data_reply (pair a b) ≡ Byte (cond (eqb a 0x06) b a)
unfolding data_reply frame
data_pair a b = rw (framed_frame (a ∷ b ∷ []) (omega arith))

pub data_well : (b : ℕ) → data_reply (pair 0x06 b) ≡ Byte b
data_well b = data_pair 0x06 b

-- ---- the answer to a sum ----

module _ (n : ℕ) where
  pub sum_reply_lem : sum_reply (one 0x06 ++ frame data_start last_end (word_bytes n)) ≡ well
  unfolding sum_reply frame
  sum_reply_lem = rw (framed_frame (0x06 ∷ []) (omega arith), framed_frame (word_bytes n) (omega arith))

  pub sum_in_lem : n < 65536 → sum_in (one 0x06 ++ frame data_start last_end (word_bytes n)) ≡ n
  unfolding frame
  sum_in_lem h = omega arith
