-- The two flashes keep the chip's lengths, whatever bytes a stand-in is fed. Assumes nothing.
use mathlib.Core.Path.{◌≡◌, refl, ◌∙◌}
use mathlib.Core.Bool.{Bool, true, false, cond, ◌&&◌}
use mathlib.Core.List.{List, [], ◌∷◌, ◌++◌}
use Prim.Native.Nat.{ℕ}
use native.Mathlib.Omega.{arith}
use lib.Dec.{leb, eqb}
use lib.ListN.{length, drop, length-drop}
use lib.Seq.{length-take-le}
use borrow.Author.Tests.{eqb-true}
use Rattle.rules.specs.declared.Chip.{Chip}
use Rattle.rules.specs.declared.Options.{Options}
use Rattle.rules.specs.declared.Phase.{Phase}
use Rattle.rules.specs.declared.Phase.TheVariants.{Mode, Speed, Ident, Command, Silent}
use Rattle.rules.specs.declared.Order.{Order}
use Rattle.rules.specs.declared.Order.TheVariants.{Reset, Verify, Erase, BlankCheck, Program, BaudRate, Identity, SecuritySet, SecurityGet, Release, WindowSet, WindowGet, Checksum}
use Rattle.rules.specs.Answers.{Judged, Faulty, Ordered}
use Rattle.rules.specs.declared.Pages.{Pages}
use Rattle.rules.specs.declared.Task.{Task}
use Rattle.rules.specs.declared.Task.TheVariants.{Idle, Programming, Verifying}
use Rattle.rules.specs.Frame.{body_size, frame_size, len_of, body_of, whole, status_byte, data_fault}
use Rattle.rules.specs.Command.{secured, done}
use Rattle.rules.specs.StandIn.{State, Out, rest, start_of, on_command, last_page, page_guarded, page_written, on_page, on_compare, ahead, task_now, on_task, on_frame, receive, takes, step, feed, on_judged}
use Rattle.rules.proofs.Choices.{both, chosen}
use Rattle.rules.specs.Options.{IFPR, security_set}
use Rattle.standin_pages.proofs.DataFrames.{page_in_lem, len_none}
use Rattle.standin_verdict.specs.Inside.{Inside}
use Rattle.standin_verdict.proofs.Readings.{Sound, judged_sound}
use Rattle.joined_laws.specs.Turns.{Fit}
use Rattle.joined_laws.proofs.Sizes.{fit_erased, fit_written}

-- ---- a whole frame ----

abbrev Kept : Chip → Out → Type 0
Kept chip o = Fit chip o.state.memory

-- a whole data frame judged well has a body of 256 bytes
module _ (last : Bool) (f : List ℕ) (w : whole f ≡ true) (well : status_byte (data_fault last f) ≡ 0x06) where
  body_long : length (body_of f) ≡ 256
  unfolding whole body_size frame_size
  body_long =
      let e = eqb-true (length f) (frame_size (len_of f)) (both (leb 2 (length f)) (eqb (length f) (frame_size (len_of f))) w).1 in
      let l : length f ≡ 260 = e ∙ rw (len_none last f well) in
      rw (len_none last f well) (length-take-le 256 (drop 2 f) (omega (arith, length-drop 2 f)))

module _ (chip : Chip) (s : State) (fit : Fit chip s.memory) (f : List ℕ) where
  secured_kept : (o : Options) → Kept chip (secured o s)
  unfolding secured
  secured_kept o = chosen (Kept chip) (eqb (IFPR o) 0) _ _ (λ _. fit) fit

  order_kept : (order : Order) → Inside chip order → Kept chip (done chip s order)
  unfolding done
  order_kept Reset i = fit
  order_kept (Verify g a b) i = fit
  order_kept (Erase g b) i = fit_erased chip s.memory fit g b i
  order_kept (BlankCheck g a b tar) i = fit
  order_kept (Program g a b) i = fit
  order_kept BaudRate i = fit
  order_kept Identity i = fit
  order_kept (SecuritySet sf1 sf2) i = secured_kept (security_set sf1 sf2 s.options)
  order_kept SecurityGet i = fit
  order_kept Release i = fit
  order_kept (WindowSet sws swe) i = fit
  order_kept WindowGet i = fit
  order_kept (Checksum g a b) i = fit

  judged_kept : (j : Judged) → Sound chip j → Kept chip (on_judged j chip s)
  unfolding on_judged
  judged_kept (Faulty v) i = fit
  judged_kept (Ordered order) i = order_kept order i

  command_kept : Kept chip (on_command chip s f)
  unfolding on_command
  command_kept = judged_kept _ (judged_sound chip s.phase s.options s.memory f)

  module _ (p : Pages) where
    compare_kept : Kept chip (on_compare p s f)
    unfolding on_compare
    compare_kept =
        chosen (Kept chip) (eqb (status_byte (data_fault (last_page p) f)) 0x06) _ _ (λ _. chosen (Kept chip) (last_page p) _ _ (λ _. fit) fit) fit

    module _ (w : whole f ≡ true) (h : ahead chip p ≡ true) where
      page_kept : Kept chip (on_page p s f)
      unfolding on_page
      page_kept =
          let line = eqb (status_byte (data_fault (last_page p) f)) 0x06 in
          let fine = eqb p.status 0x06 in
          let guarded = page_guarded s.options p in
          let kept : line && fine ≡ true → Fit chip (page_written guarded s.memory p (body_of f)) =
          λ e. fit_written chip s.memory fit guarded p (body_of f) (page_in_lem chip p h) (body_long (last_page p) f w (eqb-true _ _ (both line fine e).0)) in
          chosen (Kept chip) (line && fine) _ _ (λ e. chosen (Kept chip) (last_page p) _ _ (λ _. kept e) (kept e)) fit

  task_kept : whole f ≡ true → (ph : Phase) (t : Task) → Kept chip (on_task (task_now chip ph t) chip s f)
  unfolding on_task task_now
  task_kept w Mode t = command_kept
  task_kept w Speed t = command_kept
  task_kept w Ident t = command_kept
  task_kept w Command Idle = command_kept
  task_kept w Command (Programming p) = go (ahead chip p) refl
    where
      go : (b : Bool) → ahead chip p ≡ b → Kept chip (on_task (cond b (Programming p) Idle) chip s f)
      go true e = page_kept p w e
      go false e = command_kept
  task_kept w Command (Verifying p) = go (ahead chip p)
    where
      go : (b : Bool) → Kept chip (on_task (cond b (Verifying p) Idle) chip s f)
      go true = compare_kept p
      go false = command_kept
  task_kept w Silent t = command_kept

  frame_kept : whole f ≡ true → Kept chip (on_frame chip s f)
  unfolding on_frame
  frame_kept w = task_kept w s.phase s.task

-- ---- one byte, and many ----

module _ (chip : Chip) (s : State) (fit : Fit chip s.memory) (b : ℕ) where
  receive_kept : (g : List ℕ) → Kept chip (receive chip s g b)
  unfolding receive
  receive_kept [] = chosen (Kept chip) (eqb b (start_of (task_now chip s.phase s.task))) _ _ (λ _. fit) fit
  receive_kept (a ∷ g) =
      let f = a ∷ (g ++ (b ∷ [])) in
      chosen (Kept chip) (whole f) _ _ (λ w. frame_kept chip (rest s.phase s.task s.options s.memory) fit f w) fit

  takes_kept : (ph : Phase) → Kept chip (takes ph chip s b)
  unfolding takes
  takes_kept Mode = fit
  takes_kept Speed = receive_kept s.got
  takes_kept Ident = receive_kept s.got
  takes_kept Command = receive_kept s.got
  takes_kept Silent = fit

pub step_kept : (chip : Chip) (s : State) (b : ℕ) → Fit chip s.memory → Fit chip (step chip s b).state.memory
unfolding step
step_kept chip s b fit = takes_kept chip s fit b s.phase

pub feed_kept : (chip : Chip) (s : State) → Fit chip s.memory → (bs : List ℕ) → Fit chip (feed chip s bs).state.memory
unfolding feed
feed_kept chip s fit [] = fit
feed_kept chip s fit (b ∷ bs) = feed_kept chip (step chip s b).state (step_kept chip s b fit) bs
