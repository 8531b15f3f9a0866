-- Laws of the bytes of one entry: with another offset its fields are the same but for that, and its own offset put again gives its bytes.
-- Assumes nothing.
use mathlib.Core.Path.{◌≡◌, refl, ap}
use mathlib.Core.List.{List, [], ◌∷◌, ◌++◌}
use Prim.Native.Nat.{ℕ, ◌+◌, ◌*◌, ◌/◌, ◌%◌, ◌<◌, ◌≤◌}
use native.Mathlib.Nat.{div-add-mod'}
use native.Mathlib.Omega.{arith}
use lib.ListN.{length, take, drop}
use Rattle.rules.specs.Chip.{byte_at, word_at}
use Rattle.rules.specs.Move.{long_bytes}
use Rattle.sheet.specs.declared.table.Entry.{Entry}
use Rattle.sheet.specs.Entry.{fields_of}

-- an entry with another offset
abbrev pub with_offset : Entry → ℕ → Entry
with_offset e n =
    record {
      kind = e.kind;
      sad = e.sad;
      ead = e.ead;
      zero = e.zero;
      offset = n;
    }

-- four bytes are read as they were made
joined : (n a q b r c t : ℕ) → q * 256 + a ≡ n → r * 256 + b ≡ q → t * 256 + c ≡ r → a + 256 * b + 65536 * (c + 256 * t) ≡ n
joined n a q b r c t e f g = omega arith

long_read : (n : ℕ) → n < 4294967296
    → n % 256 + 256 * (n / 256 % 256) + 65536 * (n / 65536 % 256 + 256 * (n / 16777216 % 256)) ≡ n
long_read n h =
    let d : n / 256 / 256 ≡ n / 65536 = omega arith in
    let e : n / 65536 / 256 ≡ n / 16777216 = omega arith in
    let f : n / 16777216 % 256 ≡ n / 16777216 = omega arith in
    rw f
    (joined n (n % 256) (n / 256) (n / 256 % 256) (n / 65536) (n / 65536 % 256) (n / 16777216) (div-add-mod' n 256) (rw d at (div-add-mod' (n / 256) 256)) (rw e at (div-add-mod' (n / 65536) 256)))

pub fields_moved : (s : List ℕ) (n : ℕ) (later : List ℕ) → 8 ≤ length s → n < 4294967296
    → fields_of (take 8 s ++ (long_bytes n ++ later)) ≡ with_offset (fields_of s) n
fields_moved [] n later m o = absurd (omega arith)
fields_moved (a ∷ []) n later m o = absurd (omega arith)
fields_moved (a ∷ b ∷ []) n later m o = absurd (omega arith)
fields_moved (a ∷ b ∷ c ∷ []) n later m o = absurd (omega arith)
fields_moved (a ∷ b ∷ c ∷ d ∷ []) n later m o = absurd (omega arith)
fields_moved (a ∷ b ∷ c ∷ d ∷ e ∷ []) n later m o = absurd (omega arith)
fields_moved (a ∷ b ∷ c ∷ d ∷ e ∷ f ∷ []) n later m o = absurd (omega arith)
fields_moved (a ∷ b ∷ c ∷ d ∷ e ∷ f ∷ g ∷ []) n later m o = absurd (omega arith)
fields_moved (a ∷ b ∷ c ∷ d ∷ e ∷ f ∷ g ∷ h ∷ s) n later m o =
    ap (with_offset (fields_of (a ∷ b ∷ c ∷ d ∷ e ∷ f ∷ g ∷ h ∷ s))) (long_read n o)

-- and are made as they were read
module _ (a b c d n : ℕ) (is : n ≡ a + 256 * b + 65536 * (c + 256 * d)) (p : a < 256) (q : b < 256) (r : c < 256) (s : d < 256) where
  low : n % 256 ≡ a
  low = omega arith

  second : n / 256 % 256 ≡ b
  second = omega arith

  third : n / 65536 % 256 ≡ c
  third = omega arith

  high : n / 16777216 % 256 ≡ d
  high = omega arith

  pub long_made : long_bytes n ≡ a ∷ b ∷ c ∷ d ∷ []
  long_made = rw (low, second, third, high)

pub entry_again : (s : List ℕ) → 12 ≤ length s → ((x : ℕ) → byte_at s x < 256)
    → take 8 s ++ (long_bytes (word_at s 8 + 65536 * word_at s 10) ++ drop 12 s) ≡ s
entry_again [] m o = absurd (omega arith)
entry_again (a ∷ []) m o = absurd (omega arith)
entry_again (a ∷ b ∷ []) m o = absurd (omega arith)
entry_again (a ∷ b ∷ c ∷ []) m o = absurd (omega arith)
entry_again (a ∷ b ∷ c ∷ d ∷ []) m o = absurd (omega arith)
entry_again (a ∷ b ∷ c ∷ d ∷ e ∷ []) m o = absurd (omega arith)
entry_again (a ∷ b ∷ c ∷ d ∷ e ∷ f ∷ []) m o = absurd (omega arith)
entry_again (a ∷ b ∷ c ∷ d ∷ e ∷ f ∷ g ∷ []) m o = absurd (omega arith)
entry_again (a ∷ b ∷ c ∷ d ∷ e ∷ f ∷ g ∷ h ∷ []) m o = absurd (omega arith)
entry_again (a ∷ b ∷ c ∷ d ∷ e ∷ f ∷ g ∷ h ∷ i ∷ []) m o = absurd (omega arith)
entry_again (a ∷ b ∷ c ∷ d ∷ e ∷ f ∷ g ∷ h ∷ i ∷ j ∷ []) m o = absurd (omega arith)
entry_again (a ∷ b ∷ c ∷ d ∷ e ∷ f ∷ g ∷ h ∷ i ∷ j ∷ k ∷ []) m o = absurd (omega arith)
entry_again (a ∷ b ∷ c ∷ d ∷ e ∷ f ∷ g ∷ h ∷ i ∷ j ∷ k ∷ l ∷ s) m o =
    let made = long_made i j k l (i + 256 * j + 65536 * (k + 256 * l)) refl (o 8) (o 9) (o 10) (o 11) in
    ap (λ (x : List ℕ). a ∷ b ∷ c ∷ d ∷ e ∷ f ∷ g ∷ h ∷ (x ++ s)) made
