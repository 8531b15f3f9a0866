-- A bit of a flag byte named by its weight, 2 ^ k for bit k: at each weight these are `bit k` and `with_bit k` of rules. Assumes nothing.
use Rattle.std.specs.Prelude.{ℕ, ◌+◌, ◌*◌, ◌/◌, ◌%◌, ◌<◌, ◌≡◌}

-- the weight of one of the bits 0 to 6: twice the weight still fits a byte, and a byte's 256 values are a whole number of such
pub record Weight (w : ℕ) : Type 0 where
  pub positive : 0 < w
  pub below : w < 128
  pub whole : 256 % (w * 2) ≡ 0

abbrev pub bit_of : ℕ → ℕ → ℕ
bit_of w n = n / w % 2

abbrev pub with_bit_of : ℕ → ℕ → ℕ → ℕ
with_bit_of w v n = n / (w * 2) * (w * 2) + v * w + n % w
