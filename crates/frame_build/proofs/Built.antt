-- A frame that was built says what it was built from. Assumes nothing.
use Rattle.std.proofs.Common.{◌≡◌, ℕ, suc, ◌+◌, ◌%◌, ◌≤◌, Bool, true, false, cond, eqb, List, [], ◌∷◌, length, take, drop, sym, refl, ap, ◌∙◌, arith, take_at, get_or-append-add, eq-eqb, eqb-true, le-leb}
use lib.Seq.{get_or_at, take-append_seam}
use borrow.Author.Tests.{eqb-false}
use Rattle.rules.specs.Chip.{byte_at, total}
use Rattle.rules.specs.Frame.{len_byte, sum_byte, body_size, frame_size, frame, len_of, body_of, end_of, sum_holds, whole}
use Rattle.frame_build.proofs.Buffers.{length_frame}
use Rattle.frame_build.proofs.Frames.{frame_size_lem}
use Rattle.frame_build.proofs.Sum.{total_frame}

module _ (start end : ℕ) (body : List ℕ) where
  -- LEN, body and SUM come to 0
  pub frame_sum : total (take (length body + 2) (drop 1 (frame start end body))) % 256 ≡ 0
  unfolding frame sum_byte
  frame_sum =
      let f = frame start end body in
      let n = length body in
      let k : n + 2 ≡ suc (suc n) = omega arith in
      let t = total_frame f n (omega (arith, length_frame start end body)) in
      let b : total (take n (drop 2 f)) ≡ total body = ap total (take_at body (sum_byte body ∷ end ∷ []) n refl) in
      let s : byte_at f (n + 2) ≡ sum_byte body = rw k (get_or_at body (sum_byte body) (end ∷ []) 0 n refl) in
      omega (arith, t, b, s)

  -- the end byte stands behind them
  pub frame_end : byte_at (frame start end body) (length body + 3) ≡ end
  unfolding frame
  frame_end =
      let k : length body + 3 ≡ suc (suc (length body + 1)) = omega arith in
      rw k (get_or-append-add body (sum_byte body ∷ end ∷ []) 1 0)

  pub len_framed : len_of (frame start end body) ≡ len_byte body
  unfolding frame
  len_framed = refl

  -- a body of 1 to 256 bytes
  module _ (some : 1 ≤ length body) (most : length body ≤ 256) where
    size_framed : body_size (len_byte body) ≡ length body
    unfolding body_size
    size_framed = go (eqb (len_byte body) 0) refl
      where
        go : (t : Bool) → eqb (len_byte body) 0 ≡ t → cond t 256 (len_byte body) ≡ length body
        go true e = let z = eqb-true (len_byte body) 0 e in omega arith
        go false e = let z = eqb-false (len_byte body) 0 e in omega arith

    pub body_framed : body_of (frame start end body) ≡ body
    unfolding frame
    body_framed = rw size_framed (take-append_seam body (sum_byte body ∷ end ∷ []))

    pub end_framed : end_of (frame start end body) ≡ end
    unfolding frame
    end_framed = rw size_framed frame_end

    pub sum_framed : sum_holds (frame start end body) ≡ true
    unfolding frame
    sum_framed = rw size_framed (eq-eqb (total (take (length body + 2) (drop 1 (frame start end body))) % 256) 0 frame_sum)

    pub whole_framed : whole (frame start end body) ≡ true
    unfolding whole
    whole_framed =
        let l = length_frame start end body in
        let z : length (frame start end body) ≡ frame_size (len_of (frame start end body)) =
        l ∙ sym (ap frame_size len_framed ∙ frame_size_lem (len_byte body) ∙ ap (λ (k : ℕ). k + 4) size_framed) in
        rw (le-leb 2 (length (frame start end body)) (omega arith), eq-eqb _ _ z)
