-- The command begun, and which frame is then awaited. Assumes nothing.
use mathlib.Core.Path.{◌≡◌, refl, sym, ap, subst, ◌∙◌}
use mathlib.Core.Bool.{Bool, true, false, cond}
use mathlib.Core.List.{List}
use Prim.Native.Nat.{ℕ}
use Rattle.rules.specs.declared.Chip.{Chip}
use Rattle.rules.specs.declared.Phase.{Phase}
use Rattle.rules.specs.declared.Phase.TheVariants.{Mode, Speed, Ident, Command, Silent}
use Rattle.rules.specs.declared.Pages.{Pages}
use Rattle.rules.specs.declared.Task.{Task}
use Rattle.rules.specs.declared.Task.TheVariants.{Idle, Programming, Verifying}
use Rattle.rules.specs.StandIn.{State, ahead, task_in, task_now, on_task, on_frame, on_command, on_page, on_compare}

-- the pages of a command begun are there
abbrev pub Ahead : Chip → Task → Type 0
Ahead chip Idle = Unit {0}
Ahead chip (Programming p) = ahead chip p ≡ true
Ahead chip (Verifying p) = ahead chip p ≡ true

in_ahead : (chip : Chip) (t : Task) → Ahead chip (task_in chip t)
in_ahead chip Idle = tt
in_ahead chip (Programming p) = go (ahead chip p) refl
  where
    go : (b : Bool) → ahead chip p ≡ b → Ahead chip (cond b (Programming p) Idle)
    go true e = e
    go false e = tt
in_ahead chip (Verifying p) = go (ahead chip p) refl
  where
    go : (b : Bool) → ahead chip p ≡ b → Ahead chip (cond b (Verifying p) Idle)
    go true e = e
    go false e = tt

now_ahead : (chip : Chip) (ph : Phase) (t : Task) → Ahead chip (task_now chip ph t)
unfolding task_now
now_ahead chip Mode t = tt
now_ahead chip Speed t = tt
now_ahead chip Ident t = tt
now_ahead chip Command t = in_ahead chip t
now_ahead chip Silent t = tt

pub begun_ahead : (chip : Chip) (ph : Phase) (t r u : Task) → r ≡ task_now chip ph t → r ≡ u → Ahead chip u
begun_ahead chip ph t r u e q = subst (Ahead chip) (sym e ∙ q) (now_ahead chip ph t)

-- the frame goes to the command begun, or is a command
module _ (chip : Chip) (s : State) (f : List ℕ) (r : Task) (e : r ≡ task_now chip s.phase s.task) where
  by_task : (u : Task) → r ≡ u → on_task u chip s f ≡ on_frame chip s f
  unfolding on_frame
  by_task u q = ap (λ (t : Task). on_task t chip s f) (sym q ∙ e)

  pub as_command : r ≡ Idle → on_command chip s f ≡ on_frame chip s f
  unfolding on_task
  as_command q = by_task Idle q

  pub as_page : (p : Pages) → r ≡ Programming p → on_page p s f ≡ on_frame chip s f
  unfolding on_task
  as_page p q = by_task (Programming p) q

  pub as_compare : (p : Pages) → r ≡ Verifying p → on_compare p s f ≡ on_frame chip s f
  unfolding on_task
  as_compare p q = by_task (Verifying p) q
