-- The line of additions, LEN and body and SUM, and the SUM that brings it to 0 modulo 256. Assumes nothing.
use Rattle.std.proofs.Common.{◌≡◌, ℕ, suc, ◌+◌, ◌-◌, ◌%◌, ◌<◌, ◌≤◌, eqb, List, ◌∷◌, length, take, drop, ap, arith, length-drop, get_or-drop, drop-cons}
use Rattle.rules.specs.Chip.{byte_at, total}
use Rattle.rules.proofs.Bytes.{total_suc}
use Rattle.rules.specs.Frame.{len_byte, sum_byte, adds_up}

-- LEN, a body of n bytes and SUM, in a frame
pub total_frame : (f : List ℕ) (n : ℕ)
    → n + 3 ≤ length f
    → total (take (n + 2) (drop 1 f)) ≡ byte_at f 1 + total (take n (drop 2 f)) + byte_at f (n + 2)
unfolding total
total_frame f n h =
    let l : 1 < length f = omega arith in
    let d : n < length (drop 2 f) = rw length-drop (omega arith) in
    let k : n + 2 ≡ suc (suc n) = omega arith in
    let j : n + 2 ≡ 2 + n = omega arith in
    let t : total (take (suc n) (drop 2 f)) ≡ total (take n (drop 2 f)) + byte_at f (2 + n) = rw (← get_or-drop 2 f n 0) (total_suc (drop 2 f) n d) in
    let e : take (n + 2) (drop 1 f) ≡ byte_at f 1 ∷ take (suc n) (drop 2 f) = rw (k, drop-cons f 1 0) in
    rw (e, j) (omega (arith, t))

-- what comes to 0 with LEN and body is the SUM
pub sum_byte_lem : (body : List ℕ) (r : ℕ) → (len_byte body + total body + r) % 256 ≡ 0 → r < 256 → r ≡ sum_byte body
unfolding sum_byte
sum_byte_lem body r e h = omega arith

-- the part of a buffer from LEN up to the end byte is the line that is added
pub line_added : (n : ℕ) (f : List ℕ) → eqb (total (take (n + 3 - 1) (drop 1 f)) % 256) 0 ≡ adds_up n f
line_added n f =
    let k : n + 3 - 1 ≡ n + 2 = omega arith in
    ap (λ (j : ℕ). eqb (total (take j (drop 1 f)) % 256) 0) k
