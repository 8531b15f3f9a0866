-- Laws of decimal numbers: below ten, and from ten on; a larger number has no fewer digits. Hex digits by bytes. Assumes nothing.
use mathlib.Core.Path.{◌≡◌, refl, ap}
use Prim.Native.Nat.{ℕ, zero, suc, ◌+◌, ◌/◌, ◌%◌, ◌<◌, ◌≤◌}
use mathlib.Core.List.{List, [], ◌∷◌, ◌++◌}
use native.Mathlib.Omega.{arith}
use lib.ListN.{length, length-append}
use Rattle.rules.specs.Text.{digits, decimal, hex2, hex4}

-- a number with one digit more
with_digit : (n : ℕ) {a b : List ℕ} → a ≡ b → a ++ ((n % 10 + 48) ∷ []) ≡ b ++ ((n % 10 + 48) ∷ [])
with_digit n e = ap (λ (l : List ℕ). l ++ ((n % 10 + 48) ∷ [])) e

-- any bound that is not below the number will do
bound : (k m n : ℕ) → n ≤ k → n ≤ m → digits k n ≡ digits m n
unfolding digits
bound zero zero n h g = refl
bound zero (suc m) zero h g = refl
bound zero (suc m) (suc n) h g = absurd (omega arith)
bound (suc k) zero zero h g = refl
bound (suc k) zero (suc n) h g = absurd (omega arith)
bound (suc k) (suc m) zero h g = refl
bound (suc k) (suc m) (suc n) h g = with_digit (suc n) (bound k m (suc n / 10) (omega arith) (omega arith))

decimal_bound : (k n : ℕ) → 1 ≤ n → n ≤ k → digits k n ≡ decimal n
unfolding decimal
decimal_bound k zero h g = absurd (omega arith)
decimal_bound k (suc n) h g = bound k (suc n) (suc n) g (omega arith)

pub decimal_one : (n : ℕ) → n < 10 → decimal n ≡ (n % 10 + 48) ∷ []
unfolding decimal digits
decimal_one zero h = refl
decimal_one (suc n) h = with_digit (suc n) (none n (suc n / 10) (omega arith))
  where
    none : (k m : ℕ) → m ≡ 0 → digits k m ≡ []
    none zero m e = refl
    none (suc k) zero e = refl
    none (suc k) (suc m) e = absurd (omega arith)

pub decimal_more : (n : ℕ) → 10 ≤ n → decimal n ≡ decimal (n / 10) ++ ((n % 10 + 48) ∷ [])
unfolding decimal digits
decimal_more zero h = absurd (omega arith)
decimal_more (suc n) h = with_digit (suc n) (decimal_bound n (suc n / 10) (omega arith) (omega arith))

-- ---- lengths ----

digits_longer : (k n m : ℕ) → n ≤ m → length (digits k n) ≤ length (digits k m)
unfolding digits
digits_longer zero n m h = omega arith
digits_longer (suc k) zero m h = omega arith
digits_longer (suc k) (suc n) zero h = absurd (omega arith)
digits_longer (suc k) (suc n) (suc m) h =
    let e = digits_longer k (suc n / 10) (suc m / 10) (omega arith) in
    simp length-append (omega arith)

decimal_some : (n : ℕ) → 1 ≤ length (decimal n)
unfolding decimal digits
decimal_some zero = omega arith
decimal_some (suc n) = simp length-append (omega arith)

-- a larger number has no fewer digits
pub decimal_longer : (n m : ℕ) → 1 ≤ m → n ≤ m → length (decimal n) ≤ length (decimal m)
decimal_longer zero m g h = rw (decimal_one 0 (omega arith)) (decimal_some m)
decimal_longer (suc n) m g h =
    rw (← decimal_bound m (suc n) (omega arith) h, ← decimal_bound m m g (omega arith)) (digits_longer m (suc n) m h)

-- four hex digits are those of the high byte and of the low byte
pub hex4_halves : (n : ℕ) → hex4 n ≡ hex2 (n / 256) ++ hex2 (n % 256)
hex4_halves n =
    let a : n / 256 / 16 ≡ n / 4096 = omega arith in
    let b : n % 256 / 16 % 16 ≡ n / 16 % 16 = omega arith in
    let d : n % 256 % 16 ≡ n % 16 = omega arith in
    rw (a, b, d)
