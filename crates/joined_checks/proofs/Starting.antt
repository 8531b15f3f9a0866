-- Whether a player is at the beginning of a step whose frames it can count, test by test. Assumes nothing.
use mathlib.Core.Path.{◌≡◌, refl, sym}
use mathlib.Core.Bool.{Bool, true, false}
use mathlib.Core.List.{List}
use Prim.Native.Nat.{ℕ, ◌+◌, ◌-◌, ◌≤◌}
use native.Mathlib.Omega.{arith}
use lib.Dec.{leb}
use borrow.Author.Tests.{le-leb, lt-leb, leb-true, leb-false}
use Rattle.rules.specs.declared.Chip.{Chip}
use Rattle.rules.specs.declared.Player.{Player}
use Rattle.rules.specs.Sheet.{step_at}
use Rattle.rules.specs.Run.{most_frames}
use Rattle.joined_checks.specs.Checks.{is_ready, starts_step}

-- counted from the other end
room_left : (n most : ℕ) → most ≤ 524289 → leb n (0xFFFFFFFF - most) ≡ leb (n + most) 0xFFFFFFFF
room_left n most h = go (leb n (0xFFFFFFFF - most)) refl
  where
    go : (t : Bool) → leb n (0xFFFFFFFF - most) ≡ t → t ≡ leb (n + most) 0xFFFFFFFF
    go true e = let l = leb-true n (0xFFFFFFFF - most) e in sym (le-leb (n + most) 0xFFFFFFFF (omega arith))
    go false e = let l = leb-false n (0xFFFFFFFF - most) e in sym (lt-leb (n + most) 0xFFFFFFFF (omega arith))

module _ (chip : Chip) (s : List ℕ) (p : Player) where
  pub not_ready : is_ready p.stage ≡ false → starts_step chip s p ≡ false
  unfolding starts_step
  not_ready e = rw e

  pub by_frames : is_ready p.stage ≡ true → (most : ℕ) → most ≡ most_frames (step_at chip s p.step) → most ≤ 524289
      → leb p.frames (0xFFFFFFFF - most) ≡ starts_step chip s p
  unfolding starts_step
  by_frames ready most e h = rw (ready, ← e) (room_left p.frames most h)
