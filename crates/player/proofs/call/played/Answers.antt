-- `player::call::played` meets its contract: refused by P2, or one part after the other. Assumes nothing.
use mathlib.Core.Path.{◌≡◌, refl, sym, ap, ◌∙◌}
use mathlib.Core.List.{List}
use Prim.Native.Nat.{ℕ}
use Rattle.std.specs.Prelude.{is_none}
use Rattle.rules.specs.declared.Chip.{Chip}
use Rattle.rules.specs.declared.Player.{Player}
use Rattle.rules.specs.declared.Step.{Step}
use Rattle.rules.specs.Sheet.{count, step_at}
use Rattle.player_emit.specs.Emitting.{emitted_at, emitted_into}
use Rattle.player.proofs.Refusals.{refused_P2, call_parts}
use Rattle.player.proofs.call.played.Goals as goal

-- the frame that was given, in the step that was read before or now
given_here : (chip : Chip) (s : List ℕ) (q : Player) (buffer : List ℕ) {n : ℕ} {t : Step} → n ≡ count s → t ≡ step_at chip s q.step
    → emitted_at n t s q buffer ≡ emitted_into chip s q buffer
given_here chip s q buffer {n = n} {t = t} h i =
    ap (λ (m : ℕ). emitted_at m t s q buffer) h ∙ ap (λ (u : Step). emitted_at (count s) u s q buffer) i

pub returns-in_default : goal.returns-in_default
returns-in_default c =
    let a = c.args in
    let k = c.absorb_or_lost-took.ensures in
    let e = c.in_default.is in
    sym
    (refused_P2 a.chip a.sheet.now a.p a.reply.now a.frame.now a.sums.now (sym c.in_ok-verdict.ensures.value) c.if-frame-lt-FRAME_ROOM.false
    (sym k.lost_value ∙ ap is_none e) a.p _ (rw e at k.sums_after))

pub returns : goal.returns
returns c =
    let a = c.args in
    let k = c.absorb_or_lost-took.ensures in
    let e = c.in-Some.is in
    let q = c.in-Some.after in
    call_parts a.chip a.sheet.now a.p a.reply.now a.frame.now a.sums.now (sym c.in_ok-verdict.ensures.value) c.if-frame-lt-FRAME_ROOM.false
    (sym k.lost_value ∙ ap is_none e) q _ (rw e at k.sums_after) _ _ _
    (c.emit_step.ensures ∙ given_here a.chip a.sheet.now q a.frame.now k.step_value.1 (c.step_now-t.ensures k.step_value.0))
    _ refl _ refl
