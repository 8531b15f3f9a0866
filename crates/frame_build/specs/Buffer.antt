-- Frames in lent buffers. Assumes nothing.
use Rattle.std.specs.Prelude.{ℕ, ◌+◌, cond, ◌&&◌, List, ◌++◌, length, take, nat_le}
use Rattle.rules.specs.Chip.{over}
use Rattle.rules.specs.Frame.{data_start, last_end, len_of, frame_size, frame, one}

-- the frame that a buffer holds, by its own LEN
abbrev pub frame_in : List ℕ → List ℕ
frame_in buffer = take (frame_size (len_of buffer)) buffer

-- how many bytes were written, and the buffer after that
pub record Put : Type 0 where
  pub count : ℕ
  pub buffer : List ℕ

abbrev pub put : ℕ → List ℕ → Put
put n b = record { count = n; buffer = b }

-- bytes over the first of a buffer, where there is room for them; else nothing
unfoldable pub put_bytes : List ℕ → List ℕ → Put
put_bytes new buffer = cond (nat_le (length new) (length buffer)) (put (length new) (over new buffer)) (put 0 buffer)

-- a frame of a body of 1 to 256 bytes over the first bytes of a buffer, where there is room; else nothing
unfoldable pub put_frame : ℕ → ℕ → List ℕ → List ℕ → Put
put_frame start end body buffer =
    cond (nat_le 1 (length body) && nat_le (length body) 256 && nat_le (length body + 4) (length buffer))
    (put (length body + 4) (over (frame start end body) buffer))
    (put 0 buffer)

-- the ACK, and a data frame of a body of 1 to 256 bytes behind it, over the first bytes of a buffer, where there is room; else nothing
unfoldable pub put_ack_and : List ℕ → List ℕ → Put
put_ack_and body buffer =
    cond (nat_le 1 (length body) && nat_le (length body) 256 && nat_le (length body + 9) (length buffer))
    (put (length body + 9) (over (one 0x06 ++ frame data_start last_end body) buffer))
    (put 0 buffer)
