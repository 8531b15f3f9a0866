-- Frames put over the first bytes of a buffer. Assumes nothing.
use Rattle.std.proofs.Common.{◌≡◌, ℕ, zero, suc, ◌+◌, ◌-◌, ◌<◌, ◌≤◌, Bool, true, false, cond, ◌&&◌, leb, List, [], ◌∷◌, ◌++◌, length, take, drop, set, sym, refl, ap, ◌∙◌, append_assoc, append-nil, le_of_suc-le-suc, not-suc-le-zero, add-one, arith, length-append, length-drop, take-append-drop, drop_of_length-le, length-take-le, take_all, drop-cons, drop-drop, drop_at, le-leb, leb-false, leb-true}
use borrow.Rule.Slice.PartMut.{put_mid}
use borrow.Author.Tests.{lt-leb}
use Rattle.rules.specs.Chip.{byte_at, over}
use Rattle.rules.specs.Frame.{data_start, last_end, len_byte, sum_byte, frame, one}
use Rattle.frame_build.specs.Buffer.{Put, put, put_bytes, put_frame, put_ack_and}

-- what was put, by its count and the buffer after it
pub count_put : (p q : Put) → p ≡ q → p.count ≡ q.count
count_put p q e = ap (λ (x : Put). x.count) e

pub buffer_put : (p q : Put) → p ≡ q → p.buffer ≡ q.buffer
buffer_put p q e = ap (λ (x : Put). x.buffer) e

-- bytes over the first of a buffer: room for them, or not
module _ (new b : List ℕ) where
  pub bytes_fit : length new ≤ length b → put_bytes new b ≡ put (length new) (over new b)
  unfolding put_bytes
  bytes_fit h = simp (le-leb _ _ h)

  pub bytes_full : length b < length new → put_bytes new b ≡ put 0 b
  unfolding put_bytes
  bytes_full h = simp (lt-leb _ _ h)

  -- no more of them than there are
  pub bytes_most : (put_bytes new b).count ≤ length new
  unfolding put_bytes
  bytes_most = go (leb (length new) (length b))
    where
      go : (t : Bool) → (cond t (put (length new) (over new b)) (put 0 b)).count ≤ length new
      go true = omega arith
      go false = omega arith

-- one byte more of them
over_suc : (new old : List ℕ) (i : ℕ)
    → i < length new
    → i < length old
    → set (take i new ++ drop i old) i (byte_at new i) ≡ take (suc i) new ++ drop (suc i) old
over_suc [] old i h g = absurd (not-suc-le-zero h)
over_suc (x ∷ new) [] i h g = absurd (not-suc-le-zero g)
over_suc (x ∷ new) (y ∷ old) zero h g = refl
over_suc (x ∷ new) (y ∷ old) (suc i) h g =
    ap (λ (l : List ℕ). x ∷ l) (over_suc new old i (le_of_suc-le-suc h) (le_of_suc-le-suc g))

pub over_more : (new old : List ℕ) (i : ℕ)
    → i < length new
    → i < length old
    → set (take i new ++ drop i old) i (byte_at new i) ≡ take (i + 1) new ++ drop (i + 1) old
over_more new old i h g = rw add-one (over_suc new old i h g)

-- a frame's length, and a frame over the first bytes of a buffer: a body of 1 to 256 bytes and room, or not
pub length_frame : (start end : ℕ) (body : List ℕ) → length (frame start end body) ≡ length body + 4
unfolding frame
length_frame start end body = simp length-append (omega arith)

-- such a body, and room
abbrev pub Room : List ℕ → List ℕ → Type 0
Room body b = (1 ≤ length body) × (length body ≤ 256) × (length body + 4 ≤ length b)

module _ (start end : ℕ) (body b : List ℕ) where
  pub frame_fits : 1 ≤ length body
      → length body ≤ 256
      → length body + 4 ≤ length b
      → put_frame start end body b ≡ put (length body + 4) (over (frame start end body) b)
  unfolding put_frame
  frame_fits l m r = simp (le-leb _ _ l, le-leb _ _ m, le-leb _ _ r)

  pub frame_empty : length body < 1 → put_frame start end body b ≡ put 0 b
  unfolding put_frame
  frame_empty h = simp (lt-leb _ _ h)

  pub frame_long : 1 ≤ length body → 256 < length body → put_frame start end body b ≡ put 0 b
  unfolding put_frame
  frame_long l h = simp (le-leb _ _ l, lt-leb _ _ h)

  pub frame_full : 1 ≤ length body → length body ≤ 256 → length b < length body + 4 → put_frame start end body b ≡ put 0 b
  unfolding put_frame
  frame_full l m h = simp (le-leb _ _ l, le-leb _ _ m, lt-leb _ _ h)

  -- some bytes were put, so there was such a body and room
  pub frame_was : (n : ℕ) (v : List ℕ)
      → put n v ≡ put_frame start end body b
      → (n ≡ 0 → ⊥)
      → Room body b
  frame_was n v e z = some (leb 1 (length body)) refl
    where
      full : 1 ≤ length body → length body ≤ 256 → (t : Bool) → leb (length body + 4) (length b) ≡ t → Room body b
      full l m true q = (l, m, leb-true _ _ q)
      full l m false q = absurd (z (count_put _ _ (e ∙ frame_full l m (leb-false _ _ q))))

      long : 1 ≤ length body → (t : Bool) → leb (length body) 256 ≡ t → Room body b
      long l true q = full l (leb-true _ _ q) (leb (length body + 4) (length b)) refl
      long l false q = absurd (z (count_put _ _ (e ∙ frame_long l (leb-false _ _ q))))

      some : (t : Bool) → leb 1 (length body) ≡ t → Room body b
      some true q = long (leb-true _ _ q) (leb (length body) 256) refl
      some false q = absurd (z (count_put _ _ (e ∙ frame_empty (leb-false _ _ q))))

  -- as bytes
  pub frame_bytes : 1 ≤ length body → length body ≤ 256 → put_frame start end body b ≡ put_bytes (frame start end body) b
  unfolding put_frame put_bytes
  frame_bytes l m = simp (le-leb _ _ l, le-leb _ _ m, length_frame)

-- a buffer from its k-th byte on, lent and put back
module _ (k : ℕ) (b : List ℕ) where
  pub rest_of : take (length b - k) (drop k b) ≡ drop k b
  rest_of = take_all (length b - k) (drop k b) (rw length-drop (omega arith))

  pub put_rest : (v : List ℕ) → put_mid k (length b - k) b v ≡ take k b ++ v
  put_rest v =
      let h : length (drop k b) ≤ length b - k = rw length-drop (omega arith) in
      rw (drop_of_length-le (drop k b) h, append-nil)

-- the two bytes behind the body, one store each
two_sets : (p : List ℕ) (x y s e : ℕ) (ys : List ℕ)
    → set (set (p ++ (x ∷ y ∷ ys)) (length p) s) (suc (length p)) e ≡ p ++ (s ∷ e ∷ ys)
two_sets [] x y s e ys = refl
two_sets (z ∷ p) x y s e ys = ap (λ (l : List ℕ). z ∷ l) (two_sets p x y s e ys)

-- the body put behind the first two bytes, and then start, LEN, SUM and end byte
pub frame_put : (start end sum : ℕ) (body b v : List ℕ)
    → length body + 4 ≤ length b
    → sum ≡ sum_byte body
    → v ≡ over body (drop 2 b)
    → set (set (set (set (take 2 b ++ v) 0 start) 1 (len_byte body)) (length body + 2) sum) (length body + 3) end
    ≡ over (frame start end body) b
unfolding over frame
frame_put start end sum body [] v h s e = absurd (omega arith)
frame_put start end sum body (x ∷ []) v h s e = absurd (omega arith)
frame_put start end sum body (x ∷ y ∷ rest) v h s e =
    let n = length body in
    let i : n + 2 ≡ suc (suc n) = omega arith in
    let j : n + 3 ≡ suc (suc (suc n)) = omega arith in
    let l : n < length rest = omega arith in
    let m : suc n < length rest = omega arith in
    rw (
      e,
      s,
      i,
      j,
      drop-cons rest n 0,
      drop-cons rest (suc n) 0,
      two_sets body (byte_at rest n) (byte_at rest (suc n)) (sum_byte body) end (drop (suc (suc n)) rest),
      length-append,
      append_assoc body (sum_byte body ∷ end ∷ []) (drop (n + 2) rest),
      i,
    )

-- bytes put behind the first and those put over the first: together over the first
over_both : (k : ℕ) (new more b v : List ℕ)
    → length new ≡ k
    → k ≤ length b
    → v ≡ over more (drop k b)
    → over new (take k b ++ v) ≡ over (new ++ more) b
unfolding over
over_both k new more b v l h e =
    rw (
      length-append new more,
      l,
      drop_at (take k b) v k (length-take-le k b h),
      e,
      drop-drop (length more) k b,
      append_assoc new more (drop (k + length more) b),
    )

-- the ACK with a frame behind it
module _ (body b : List ℕ) where
  pub ack_fits : 1 ≤ length body
      → length body ≤ 256
      → length body + 9 ≤ length b
      → put_ack_and body b ≡ put (length body + 9) (over (one 0x06 ++ frame data_start last_end body) b)
  unfolding put_ack_and
  ack_fits l m r = simp (le-leb _ _ l, le-leb _ _ m, le-leb _ _ r)

  pub ack_full : length b < 5 → put_ack_and body b ≡ put 0 b
  unfolding put_ack_and
  ack_full h = rw (lt-leb (length body + 9) (length b) (omega arith)) (go (leb 1 (length body) && leb (length body) 256))
    where
      go : (t : Bool)
          → cond (t && false) (put (length body + 9) (over (one 0x06 ++ frame data_start last_end body) b)) (put 0 b) ≡ put 0 b
      go true = refl
      go false = refl

  module _ (h : 5 ≤ length b) where
    room : leb (length body + 4) (length (drop 5 b)) ≡ leb (length body + 9) (length b)
    room = rw length-drop (go (leb (length body + 9) (length b)) refl)
      where
        go : (t : Bool) → leb (length body + 9) (length b) ≡ t → leb (length body + 4) (length b - 5) ≡ t
        go true e = let l = leb-true (length body + 9) (length b) e in le-leb (length body + 4) (length b - 5) (omega arith)
        go false e = let l = leb-false (length body + 9) (length b) e in lt-leb (length body + 4) (length b - 5) (omega arith)

    -- the frame was refused
    pub ack_none : (v : List ℕ)
        → put 0 v ≡ put_frame data_start last_end body (drop 5 b)
        → put 0 (put_mid 5 (length b - 5) b v) ≡ put_ack_and body b
    unfolding put_frame put_ack_and
    ack_none v e = go (leb 1 (length body) && leb (length body) 256 && leb (length body + 4) (length (drop 5 b))) refl
      where
        go : (t : Bool)
            → leb 1 (length body) && leb (length body) 256 && leb (length body + 4) (length (drop 5 b)) ≡ t
            → put 0 (put_mid 5 (length b - 5) b v) ≡ put_ack_and body b
        go true q =
            let z : ◌≡◌ {A = ℕ} 0 (length body + 4) = count_put _ _ (rw q at e) in
            absurd (omega arith)
        go false q =
            let z : v ≡ drop 5 b = buffer_put _ _ (rw q at e) in
            rw (put_rest 5 b, z, take-append-drop, ← room, q)

    -- it was put, and so is the ACK
    pub ack_put : (n m : ℕ) (v w : List ℕ)
        → put n v ≡ put_frame data_start last_end body (drop 5 b)
        → (n ≡ 0 → ⊥)
        → put m w ≡ put_bytes (one 0x06) (put_mid 5 (length b - 5) b v)
        → (put (m + n) w ≡ put_ack_and body b) × (m + n ≡ length body + 9)
    ack_put n m v w e z q =
        let five : length (one 0x06) ≡ 5 = length_frame data_start last_end (0x06 ∷ []) in
        let f = frame_was data_start last_end body (drop 5 b) n v e z in
        let p = e ∙ frame_fits data_start last_end body (drop 5 b) f.0 f.1 f.2 in
        let l : length (one 0x06) ≤ length (take 5 b ++ v) = rw (length-append, length-take-le 5 b h) (omega arith) in
        let r = rw (put_rest 5 b v) at q ∙ bytes_fit (one 0x06) (take 5 b ++ v) l in
        let n-is : n ≡ length body + 4 = count_put _ _ p in
        let m-is : m ≡ length (one 0x06) = count_put _ _ r in
        let w-is : w ≡ over (one 0x06 ++ frame data_start last_end body) b =
        buffer_put _ _ r ∙ over_both 5 (one 0x06) (frame data_start last_end body) b v five h (buffer_put _ _ p) in
        let s : m + n ≡ length body + 9 = omega arith in
        (rw (s, w-is) (sym (ack_fits f.0 f.1 (omega (arith, length-drop 5 b)))), s)
