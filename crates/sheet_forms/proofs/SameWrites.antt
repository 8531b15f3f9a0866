-- Two sheets whose entries say the same kinds and blocks write the same pages: J13 is broken by both or by neither. Assumes nothing.
use mathlib.Core.Path.{◌≡◌, refl, ap}
use mathlib.Core.Bool.{Bool, ◌&&◌}
use mathlib.Core.List.{List}
use Prim.Native.Nat.{ℕ, zero, suc, ◌+◌, ◌<◌, ◌≤◌}
use native.Mathlib.Omega.{arith}
use lib.Dec.{eqb}
use Rattle.rules.specs.declared.Flash.{Flash}
use Rattle.rules.specs.Answers.{Range, Blocks, Invalid}
use Rattle.rules.specs.Chip.{blocks_from}
use Rattle.rules.specs.Sheet.{against, count, kind_at, range_at, written, any_from, any_written, writes_again, J13}

any_same : (p q : ℕ → Bool) (k left : ℕ) → ((i : ℕ) → k ≤ i → i < k + left → p i ≡ q i) → any_from p k left ≡ any_from q k left
unfolding any_from
any_same p q k zero h = refl
any_same p q k (suc left) h =
    rw (h k (omega arith) (omega arith), any_same p q (k + 1) left (λ i a b. h i (omega arith) (omega arith)))

module _ (s u : List ℕ) (n : ℕ) (kinds : (i : ℕ) → i < n → kind_at u i ≡ kind_at s i)
    (ranges : (i : ℕ) → i < n → range_at (against u) u i ≡ range_at (against s) s i) where
  written_same : (f : Flash) (b i : ℕ) → i ≤ n → written u f b i ≡ written s f b i
  unfolding written
  written_same f b zero h = refl
  written_same f b (suc i) h =
      rw (kinds i (omega arith), ranges i (omega arith), written_same f b i (omega arith))

  again_same : (i : ℕ) → i < n → (r : Range) → any_written u i r ≡ any_written s i r
  again_same i h (Blocks f a b) =
      any_same (λ (x : ℕ). written u f x i) (λ (x : ℕ). written s f x i) a.0 (blocks_from a b) (λ x _ _. written_same f x i (omega arith))
  again_same i h Invalid = refl

  pub twice_same : count u ≡ n → count s ≡ n → J13 u ≡ J13 s
  twice_same e f =
      rw (e, f)
      (any_same (writes_again u) (writes_again s) 0 n
      (λ i _ l.
      rw (kinds i (omega arith), ranges i (omega arith)) (ap (λ (b : Bool). eqb (kind_at s i) 2 && b) (again_same i (omega arith) (range_at (against s) s i)))))
