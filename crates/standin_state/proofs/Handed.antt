-- A whole frame handed to a device: taken where what is lent fits, else all stands. Assumes nothing.
use mathlib.Core.Path.{◌≡◌, sym, ap, subst, ◌∙◌}
use mathlib.Core.Bool.{Bool, true, false, cond}
use mathlib.Core.List.{List, ◌++◌}
use Prim.Native.Nat.{ℕ, ◌≤◌}
use native.Mathlib.Omega.{arith}
use lib.ListN.{length, take, drop}
use Rattle.std.proofs.lemmas.List.{append_assoc, drop-append-le, length-take-le, take-append-drop}
use Rattle.rules.specs.declared.Chip.{Chip}
use Rattle.rules.specs.declared.Pages.{Pages}
use Rattle.rules.specs.declared.Refusal.{Refusal}
use Rattle.rules.specs.Answers.{Answer, Verdict, Accepted, Refused}
use Rattle.rules.specs.Chip.{Memory, over}
use Rattle.rules.specs.StandIn.{State, Out, Outcome, ahead, lent_verdict}
use Rattle.standin_state.specs.declared.Response.{Response}
use Rattle.standin_state.specs.View.{Comes, unanswered, handed, handed_page, Fits}
use Rattle.standin_state.proofs.Lending.{fits_lent}

module _ (h : Response) (m : Memory) (new old : List ℕ) (s : State) (v : Verdict) (x : Out) where
  pub stands : (n : Refusal) → Refused n ≡ v → Comes h m new (unanswered s) old → Comes h m new (handed v s x) old
  unfolding handed
  stands n e c = rw (← e) c

  pub taken : Accepted ≡ v → Comes h m new x old → Comes h m new (handed v s x) old
  unfolding handed
  taken e c = rw (← e) c

  pub handed_as : (y : Out) → x ≡ y → Comes h m new (handed v s x) old → Comes h m new (handed v s y) old
  handed_as y e c = rw (← e) c

  module _ (chip : Chip) (p : Pages) where
    pub page_taken : Accepted ≡ v → ahead chip p ≡ true → Comes h m new x old → Comes h m new (handed_page chip p v s x) old
    unfolding handed
    page_taken e t c = rw (← e, t) c

    pub no_page : Accepted ≡ v → ahead chip p ≡ false → Comes h m new (unanswered s) old → Comes h m new (handed_page chip p v s x) old
    unfolding handed
    no_page e t c = rw (← e, t) c

    pub page_handed : ahead chip p ≡ true → Comes h m new (handed_page chip p v s x) old → Comes h m new (handed v s x) old
    page_handed t c = subst (λ (b : Bool). Comes h m new (handed v s (cond b x (unanswered s))) old) t c

-- what is lent fits: the frame is taken
pub fits_taken : (chip : Chip) (code dat reply : List ℕ) → Fits chip code dat reply
    → (h : Response) (m : Memory) (new old : List ℕ) (s : State) (x : Out)
    → Comes h m new (handed (lent_verdict chip (length code) (length dat) (length reply)) s x) old → Comes h m new x old
unfolding handed
fits_taken chip code dat reply f h m new old s x c =
    subst (λ (v : Verdict). Comes h m new (handed v s x) old) (fits_lent chip code dat reply f) c

-- an answer, by what it comes to
pub same_out : (h : Response) (m : Memory) (new old : List ℕ) (x y : Out) → x ≡ y → Comes h m new x old → Comes h m new y old
same_out h m new old x y e c = rw (← e) c

-- ---- answers in the first 16 bytes of a reply buffer ----

module _ (old room : List ℕ) (long : 16 ≤ length old) (e : room ≡ take 16 old) where
  pub room_long : length room ≡ 16
  room_long = ap length e ∙ length-take-le 16 old long

  -- an answer that fits there leaves the bytes behind them
  module _ (h : Response) (m : Memory) (x : Out) (new : List ℕ) (short : length x.answer ≤ 16) where
    over_first : over x.answer room ++ drop 16 old ≡ over x.answer old
    unfolding over
    over_first =
        append_assoc x.answer (drop (length x.answer) room) (drop 16 old)
        ∙ ap (λ (ys : List ℕ). x.answer ++ ys) (sym (drop-append-le (length x.answer) room (drop 16 old) (omega (arith, room_long))))
        ∙ ap (λ (ys : List ℕ). x.answer ++ drop (length x.answer) (ys ++ drop 16 old)) e
        ∙ ap (λ (ys : List ℕ). x.answer ++ drop (length x.answer) ys) (take-append-drop 16 old)

    pub came_in_room : Comes h m new x room → Comes h m (new ++ drop 16 old) x old
    came_in_room c = (
      ap (λ (y : Outcome). record { state = y.state; call = y.call; reply = y.reply ++ drop 16 old; note = y.note }) c.0
          ∙ ap (λ (ys : List ℕ). record { state = x.state; call = Answer (length x.answer); reply = ys; note = x.note }) over_first,
      c.1,
    )

  pub room_fits : (chip : Chip) (code dat : List ℕ) → Fits chip code dat old → Fits chip code dat room
  room_fits chip code dat f =
      record { counts = f.counts; in_code = f.in_code; in_data = f.in_data; room = omega (arith, room_long) }
