-- Player and stand-in at the two ends of a line: what is shown. Assumes nothing.
use Rattle.std.specs.Prelude.{ℕ, List, take}
use Rattle.rules.specs.Answers.{Call}
use Rattle.rules.specs.Answers as call
use Rattle.rules.specs.Run.{Joined, joining}
use Rattle.chip_finder.specs.LentFlashes.{memory}
use Rattle.standin_engine.specs.View.{view}
use Rattle.joined.specs.declared.Rig.{Rig}

-- what player, stand-in and all that is lent show: the last answer stands at the beginning of the reply buffer
abbrev pub rigged : Rig → List ℕ → List ℕ → List ℕ → List ℕ → List ℕ → List ℕ → Joined
rigged r held code dat reply frame sums =
    joining r.player (view r.core held (memory code dat)) sums frame reply (take r.arrived reply)

-- how many bytes a byte call or a feeding answered
abbrev pub answer_size : Call → ℕ
answer_size (call.Refused r) = 0
answer_size (call.Answer n) = n
