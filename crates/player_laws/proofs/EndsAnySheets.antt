-- When the sheet changes between calls: a refused call changes nothing, and each other leaves the player over or of higher rank,
-- so that it ends with any sheets and any replies. Assumes nothing.
use mathlib.Core.Path.{◌≡◌, refl, ap}
use mathlib.Core.List.{List, [], ◌∷◌}
use mathlib.Core.Logic.{◌⊎◌, inl, inr}
use Prim.Native.Nat.{ℕ, ◌+◌, ◌<◌, ◌≤◌}
use native.Mathlib.Omega.{arith}
use lib.ListN.{length}
use Rattle.rules.specs.declared.Chip.{Chip}
use Rattle.rules.specs.declared.Player.{Player}
use Rattle.rules.specs.declared.Refusal.{Refusal}
use Rattle.rules.specs.declared.Stage.TheVariants.{Over}
use Rattle.rules.specs.Answers.{Verdict, Accepted, Refused}
use Rattle.rules.specs.Chip.{small, large}
use Rattle.rules.specs.Player.{Called, player_verdict, called}
use Rattle.player_laws.specs.Calls.{Given, after_any, once, taken, rank, most_rank}
use Rattle.player_laws.proofs.Moves.{call_refused, call_over}
use Rattle.player_laws.proofs.CallAdvances.{call_onward}

-- ---- one call ----

module _ (chip : Chip) (s : List ℕ) (p : Player) (r buffer sums : List ℕ) where
  pub rises : player_verdict chip s p (length buffer) (length sums) ≡ Accepted
      → ((called chip s p r buffer sums).player.stage ≡ Over)
      ⊎ ((rank chip p < rank chip (called chip s p r buffer sums).player)
      × (rank chip (called chip s p r buffer sums).player < most_rank chip))
  rises e = (call_onward chip s p r buffer sums e).higher

  -- a refused call, and a call of a player that is over, leave the player
  pub refused_rests : (n : Refusal) → player_verdict chip s p (length buffer) (length sums) ≡ Refused n
      → (called chip s p r buffer sums).player ≡ p
  refused_rests n e = ap (λ (c : Called). c.player) (call_refused chip s p r buffer sums n e)

  pub over_rests : p.stage ≡ Over → (called chip s p r buffer sums).player ≡ p
  over_rests g = go (player_verdict chip s p (length buffer) (length sums)) refl
    where
      go : (v : Verdict) → player_verdict chip s p (length buffer) (length sums) ≡ v → (called chip s p r buffer sums).player ≡ p
      go Accepted e = ap (λ (c : Called). c.player) (call_over chip s p r buffer sums e g)
      go (Refused n) e = refused_rests n e

-- ---- calls one after the other, each with a sheet of its own ----

over_stays : (chip : Chip) (p : Player) (gs : List Given) → p.stage ≡ Over → (after_any chip p gs).stage ≡ Over
unfolding after_any
over_stays chip p [] h = h
over_stays chip p (g ∷ gs) h =
    let e = over_rests chip g.sheet p g.reply g.frame g.sums h in
    over_stays chip (called chip g.sheet p g.reply g.frame g.sums).player gs (rw e h)

-- a player that is high enough for the calls that are not refused
climbs : (chip : Chip) (p : Player) (gs : List Given) → 0 < taken chip p gs → most_rank chip ≤ rank chip p + taken chip p gs
    → (after_any chip p gs).stage ≡ Over
unfolding after_any taken
climbs chip p [] z h = absurd (omega arith)
climbs chip p (g ∷ gs) z h = go (climbs chip q gs) verdict_of refl
  where
    q : Player
    q = (called chip g.sheet p g.reply g.frame g.sums).player

    verdict_of : Verdict
    verdict_of = player_verdict chip g.sheet p (length g.frame) (length g.sums)

    counted : {v : Verdict} → verdict_of ≡ v → taken chip p (g ∷ gs) ≡ once v + taken chip q gs
    counted e = ap (λ (v : Verdict). once v + taken chip q gs) e

    go : (0 < taken chip q gs → most_rank chip ≤ rank chip q + taken chip q gs → (after_any chip q gs).stage ≡ Over)
        → (v : Verdict) → verdict_of ≡ v → (after_any chip q gs).stage ≡ Over
    go onward Accepted e = up (rises chip g.sheet p g.reply g.frame g.sums e)
      where
        up : (q.stage ≡ Over) ⊎ ((rank chip p < rank chip q) × (rank chip q < most_rank chip)) → (after_any chip q gs).stage ≡ Over
        up (inl o) = over_stays chip q gs o
        up (inr u) = onward (omega (arith, counted e, h, u)) (omega (arith, counted e, h, u))
    go onward (Refused n) e =
        let same : rank chip q ≡ rank chip p = ap (rank chip) (refused_rests chip g.sheet p g.reply g.frame g.sums n e) in
        onward (omega (arith, counted e, z)) (omega (arith, counted e, h, same))

-- THE LAW: any sheets, any replies, any player
pub ends_any : (chip : Chip) (p : Player) (gs : List Given) → most_rank chip ≤ taken chip p gs → (after_any chip p gs).stage ≡ Over
ends_any chip p gs h = climbs chip p gs (omega arith) (omega arith)

-- of the known chips: 64 steps of 129 or of 513 frames, and one call that has none to send
pub most_small : most_rank small ≡ 8257
most_small = refl

pub most_large : most_rank large ≡ 32833
most_large = refl
