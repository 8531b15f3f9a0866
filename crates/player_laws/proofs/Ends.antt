-- It ends whatever comes back: with one accepted sheet the player is over after so many calls. Assumes nothing.
use mathlib.Core.Path.{◌≡◌, refl}
use mathlib.Core.List.{List, [], ◌∷◌}
use Prim.Native.Nat.{ℕ, ◌+◌, ◌≤◌}
use native.Mathlib.Omega.{arith}
use lib.ListN.{length}
use Rattle.rules.specs.declared.Chip.{Chip}
use Rattle.rules.specs.declared.Player.{Player}
use Rattle.rules.specs.declared.Stage.{Stage}
use Rattle.rules.specs.declared.Stage.TheVariants.{New, Ready, Block, Commanded, Page, Paged, Over}
use Rattle.rules.specs.declared.Step.{Step}
use Rattle.rules.specs.Answers.{Accepted}
use Rattle.rules.specs.Sheet.{count, step_at, verdict}
use Rattle.rules.specs.Player.{frame_room, player_verdict, called}
use Rattle.rules.specs.Run.{most_from, most_calls}
use Rattle.player_laws.specs.Calls.{after_calls, left_by, later, calls_left}
use Rattle.player_laws.proofs.Lengths.{call_lengths}
use Rattle.player_laws.proofs.CallAdvances.{left_is, call_onward}
use Rattle.player_laws.proofs.PlaceInSheet.{stands_new, call_allowed, allowed_call}

-- where no call is left the player is over
none_left : (g : Stage) (t : Step) (at later all : ℕ) → left_by g t at later (1 + all) ≤ 0 → g ≡ Over
unfolding left_by
none_left New t at later all e = absurd (omega arith)
none_left Ready t at later all e = absurd (omega arith)
none_left Block t at later all e = absurd (omega arith)
none_left (Commanded k) t at later all e = absurd (omega arith)
none_left (Page k) t at later all e = absurd (omega arith)
none_left (Paged k) t at later all e = absurd (omega arith)
none_left Over t at later all e = refl

left_none : (chip : Chip) (s : List ℕ) (p : Player) → calls_left chip s p ≤ 0 → p.stage ≡ Over
unfolding calls_left
left_none chip s p e =
    none_left p.stage (step_at chip s p.step) p.at (later chip s p) (most_from chip s 0 (count s)) e

-- a player whose call is not refused is over after the calls that are left
pub ends_from : (chip : Chip) (s : List ℕ) (p : Player) (buffer sums : List ℕ) (rs : List (List ℕ))
    → player_verdict chip s p (length buffer) (length sums) ≡ Accepted
    → calls_left chip s p ≤ length rs
    → (after_calls chip s p buffer sums rs).stage ≡ Over
unfolding after_calls
ends_from chip s p buffer sums [] e h = left_none chip s p h
ends_from chip s p buffer sums (r ∷ rs) e h =
    let c = called chip s p r buffer sums in
    let a = allowed_call chip s p (length buffer) (length sums) e in
    let o = call_onward chip s p r buffer sums e in
    let n = call_lengths chip s p r buffer sums in
    let ok : player_verdict chip s c.player (length c.frame) (length c.sums) ≡ Accepted =
    rw (n.0, n.1) (call_allowed chip s c.player (length buffer) (length sums) a.0 a.1 o.stands) in
    ends_from chip s c.player c.frame c.sums rs ok (omega (arith, o.left, h))

-- THE LAW: one accepted sheet, a new player, any replies
pub ends : (chip : Chip) (s : List ℕ) (p : Player) (buffer sums : List ℕ)
    → verdict chip s (length sums) ≡ Accepted
    → frame_room ≤ length buffer
    → p.stage ≡ New
    → (rs : List (List ℕ))
    → most_calls chip s ≤ length rs
    → (after_calls chip s p buffer sums rs).stage ≡ Over
unfolding left_by
ends chip s p buffer sums ok room new rs h =
    ends_from chip s p buffer sums rs
    (call_allowed chip s p (length buffer) (length sums) ok room (stands_new chip s p new))
    (omega (arith, left_is chip s p new))
