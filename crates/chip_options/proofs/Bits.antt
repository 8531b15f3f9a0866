-- A bit of a number made 0 or 1: the number stays below the same bound. Over the bit's weight and the bound. Assumes nothing.
use Prim.Native.Nat.{ℕ, ◌+◌, ◌*◌, ◌/◌, ◌%◌, ◌<◌, ◌≤◌, ◌^◌, zero, suc}
use mathlib.Core.Path.{◌≡◌, refl}
use native.Mathlib.Nat.{div-add-mod', div-lt_iff_lt-mul, mul-le-mul, mul-le-mul_right, suc-mul, mod-lt}
use native.Mathlib.Omega.{arith}
use Rattle.chip_options.specs.Bits.{Weight, with_bit_of}

-- a bound that d divides leaves room for d above the multiple of d at or below n
room : (N d n : ℕ) → 0 < d → N % d ≡ 0 → n < N → n / d * d + d ≤ N
room N d n p q h =
    let below : n < N / d * d = omega (arith, div-add-mod' N d) in
    let m = mul-le-mul_right d ((div-lt_iff_lt-mul p).1 below) in
    omega (arith, m, suc-mul (n / d) d, div-add-mod' N d)

pub with_bit_below : (N w v n : ℕ) → 0 < w → N % (w * 2) ≡ 0 → v < 2 → n < N → with_bit_of w v n < N
with_bit_below N w v n p q o h =
    let one : v * w ≤ 1 * w = mul-le-mul_right w (omega arith) in
    omega (arith, room N (w * 2) n (omega arith) q h, mod-lt n p)

-- the AND of two bits is their product, which is a bit
pub and_below : (a b : ℕ) → a % 2 * (b % 2) < 2
and_below a b =
    let most : a % 2 * (b % 2) ≤ 1 = mul-le-mul {n₂ = 1} {m₂ = 1} (omega arith) (omega arith) in
    omega arith

-- the weight of a bit below 7, as a byte shifted
abbrev Shifted : ℕ → Type 0
Shifted k = (1 * 2 ^ k % 256 ≡ 2 ^ k) × Weight (2 ^ k) × (2 ^ (k + 1) ≡ 2 ^ k * 2)

weighed : (w : ℕ) → 0 < w → w < 128 → 256 % (w * 2) ≡ 0 → Weight w
weighed w p b e = record { positive = p; below = b; whole = e }

pub shifted : (k : ℕ) → k < 7 → Shifted k
shifted zero h = (refl, weighed 1 (omega arith) (omega arith) refl, refl)
shifted (suc zero) h = (refl, weighed 2 (omega arith) (omega arith) refl, refl)
shifted (suc (suc zero)) h = (refl, weighed 4 (omega arith) (omega arith) refl, refl)
shifted (suc (suc (suc zero))) h = (refl, weighed 8 (omega arith) (omega arith) refl, refl)
shifted (suc (suc (suc (suc zero)))) h = (refl, weighed 16 (omega arith) (omega arith) refl, refl)
shifted (suc (suc (suc (suc (suc zero))))) h = (refl, weighed 32 (omega arith) (omega arith) refl, refl)
shifted (suc (suc (suc (suc (suc (suc zero)))))) h = (refl, weighed 64 (omega arith) (omega arith) refl, refl)
shifted (suc (suc (suc (suc (suc (suc (suc k))))))) h = absurd (omega arith)
