-- `text_capture::heard::hear_byte` meets its contract: what the byte changed, by its case. Assumes nothing.
use mathlib.Core.Path.{◌≡◌, refl, sym, ap, ◌∙◌}
use Prim.Native.Nat.{ℕ}
use mathlib.Core.List.{List}
use Rattle.std.specs.Prelude.{Ok}
use Rattle.rules.specs.StandIn.{Outcome}
use Rattle.rules.specs.Chip.{Memory}
use Rattle.standin_state.specs.declared.Core.{Core}
use Rattle.standin_engine.specs.Change.{change_outcome}
use Rattle.standin_engine.specs.Answers.{Change}
use Rattle.text_capture.proofs.Hearing.{byte_state, byte_answer, byte_room, byte_not_refused}
use Rattle.text_capture.proofs.heard.hear_byte.Goals as goal

-- what the call came to, of the change that it was
came_to : (c : Core) (o : Outcome) (r x : Change) (held : List ℕ) (m : Memory) (reply : List ℕ) → r ≡ x
    → change_outcome c r held m reply ≡ o → change_outcome c x held m reply ≡ o
came_to c o r x held m reply e p = ap (λ (y : Change). change_outcome c y held m reply) (sym e) ∙ p

pub returns-in_default : goal.returns-in_default
returns-in_default c =
    let a = c.args in
    let h = c.byte_change in
    let came = came_to _ _ _ _ _ _ _ c.in_default.is h.ensures.reply_after in
    absurd (byte_not_refused _ _ _ a.reply.now c.requires _ _ _ _ came _ refl)

pub returns-in-Held : goal.returns-in-Held
returns-in-Held c =
    let a = c.args in
    let h = c.byte_change in
    let came = came_to _ _ _ _ _ _ _ (c.in-Ok.is ∙ ap Ok c.in-Held.is) h.ensures.reply_after in
    record {
      data_after = byte_state _ _ _ a.reply.now c.requires _ _ _ _ came;
      reply_after = (byte_answer _ _ _ a.reply.now c.requires _ _ _ _ came 0 refl, byte_room _ _ _ a.reply.now c.requires _ _ _ _ came 0 refl);
    }

pub returns-in-Whole : goal.returns-in-Whole
returns-in-Whole c =
    let a = c.args in
    let h = c.byte_change in
    let came = came_to _ _ _ _ _ _ _ (c.in-Ok.is ∙ ap Ok c.in-Whole.is) h.ensures.reply_after in
    record {
      data_after = byte_state _ _ _ a.reply.now c.requires _ _ _ _ came;
      reply_after = (byte_answer _ _ _ a.reply.now c.requires _ _ _ _ came _ refl, byte_room _ _ _ a.reply.now c.requires _ _ _ _ came _ refl);
    }
