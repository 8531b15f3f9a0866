-- Which refusal a joined call names: one law for each. Assumes nothing.
use mathlib.Core.Path.{◌≡◌}
use mathlib.Core.Bool.{true, false}
use mathlib.Core.List.{List}
use Prim.Native.Nat.{ℕ, ◌<◌, ◌≤◌}
use borrow.Author.Tests.{lt-ltb, le-ltb}
use Rattle.rules.specs.declared.Chip.{Chip}
use Rattle.rules.specs.declared.Player.{Player}
use Rattle.rules.specs.declared.Refusal.{Refusal}
use Rattle.rules.specs.declared.Refusal.TheVariants.{P1, P2}
use Rattle.rules.specs.Answers.{Accepted, Refused}
use Rattle.rules.specs.First.{first}
use Rattle.rules.specs.StandIn.{lent_verdict}
use Rattle.rules.specs.Sheet.{verdict}
use Rattle.rules.specs.Player.{lost, player_verdict}
use Rattle.player_laws.proofs.PlaceInSheet.{call_allowed}
use Rattle.joined_checks.specs.declared.LentSizes.{LentSizes}
use Rattle.joined_checks.specs.Checks.{joined_verdict}

module _ (chip : Chip) (s : List ℕ) (p : Player) (l : LentSizes) where
  pub named_J : (n : Refusal) → verdict chip s l.sums ≡ Refused n → joined_verdict chip s p l ≡ Refused n
  unfolding joined_verdict player_verdict first
  named_J n e = rw e

  module _ (ok : verdict chip s l.sums ≡ Accepted) where
    pub named_P1 : l.frame < 260 → joined_verdict chip s p l ≡ Refused P1
    unfolding joined_verdict player_verdict first
    named_P1 h = rw (ok, lt-ltb l.frame 260 h)

    module _ (room : 260 ≤ l.frame) where
      pub named_P2 : lost chip s p ≡ true → joined_verdict chip s p l ≡ Refused P2
      unfolding joined_verdict player_verdict first
      named_P2 h = rw (ok, le-ltb l.frame 260 room, h)

      -- none of these: by what is lent
      pub as_lent : lost chip s p ≡ false → lent_verdict chip l.code l.«data» l.reply ≡ joined_verdict chip s p l
      unfolding joined_verdict
      as_lent h = rw (call_allowed chip s p l.frame l.sums ok room h)
