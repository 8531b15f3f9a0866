-- Laws of the two flashes together: one is changed, and the other stays. Assumes nothing.
use mathlib.Core.Path.{◌≡◌, refl, sym, ap}
use mathlib.Core.Bool.{Bool, true, false, cond}
use mathlib.Core.List.{List}
use Prim.Native.Nat.{ℕ}
use lib.Dec.{eqb}
use lib.ListN.{length}
use Rattle.rules.specs.declared.Chip.{Chip}
use Rattle.rules.specs.declared.Flash.{Flash}
use Rattle.rules.specs.declared.Flash.TheVariants.{Code, Data}
use Rattle.rules.specs.Chip.{Memory, flash_of, with_flash, fits, flash_size}

pub with_of : (m : Memory) (f : Flash) (xs : List ℕ) → flash_of (with_flash m f xs) f ≡ xs
with_of m Code xs = refl
with_of m Data xs = refl

pub with_own : (m : Memory) (f : Flash) → with_flash m f (flash_of m f) ≡ m
with_own m Code = refl
with_own m Data = refl

pub with_cond : (t : Bool) (m : Memory) (f : Flash) (xs : List ℕ)
    → cond t (with_flash m f xs) m ≡ with_flash m f (cond t xs (flash_of m f))
with_cond true m f xs = refl
with_cond false m f xs = sym (with_own m f)

-- a flash that keeps its length, and so does the other
pub with_lengths : (m : Memory) (f : Flash) (xs : List ℕ) (g : Flash) → length xs ≡ length (flash_of m f)
    → length (flash_of (with_flash m f xs) g) ≡ length (flash_of m g)
with_lengths m Code xs Code e = e
with_lengths m Code xs Data e = refl
with_lengths m Data xs Code e = refl
with_lengths m Data xs Data e = e

pub with_fits : (chip : Chip) (m : Memory) (f : Flash) (xs : List ℕ) (g : Flash) → length xs ≡ length (flash_of m f)
    → fits chip (with_flash m f xs) g ≡ fits chip m g
with_fits chip m f xs g e = ap (λ (n : ℕ). eqb n (flash_size chip g)) (with_lengths m f xs g e)
