-- The whole-frame engine is the byte engine fed with that frame, and E1 is due exactly where the frame is not awaited. Assumes nothing.
use mathlib.Core.Path.{◌≡◌, refl, sym, ap, subst, ◌∙◌}
use mathlib.Core.Bool.{Bool, true, false, cond, not, ◌&&◌}
use mathlib.Core.List.{List, [], ◌∷◌}
use Prim.Native.Nat.{ℕ, ◌≤◌}
use native.Mathlib.Omega.{arith}
use lib.Dec.{eqb, ltb}
use lib.ListN.{length}
use borrow.Author.Tests.{eqb-true, eq-eqb}
use Rattle.rules.specs.declared.Chip.{Chip}
use Rattle.rules.specs.declared.Flash.TheVariants.{Code, Data}
use Rattle.rules.specs.Answers.{Call, Refused, Answer, Verdict}
use Rattle.rules.specs.Notes.{Empty}
use Rattle.rules.specs.declared.Refusal.TheVariants.{D0, D1, D2, D3, E1}
use Rattle.rules.specs.Answers as v
use Rattle.rules.specs.First.{first, and_then}
use Rattle.rules.specs.Chip.{byte_at, known, flash_size}
use Rattle.rules.specs.Frame.{whole}
use Rattle.rules.specs.Command.{phase_number}
use Rattle.rules.specs.Numbers.{call_number, verdict_number}
use Rattle.rules.specs.StandIn.{State, Out, Outcome, rest, holding, listening, start_of, task_now, on_frame, outs, Fed, reply_room, flash_verdict, lent_verdict}
use Rattle.rules.specs.WholeFrame.{awaited, frame_call}
use Rattle.rules.proofs.Choices.{both}
use Rattle.standin_state.proofs.Lending.{lent_fits}
use Rattle.standin_engine.specs.View.{call_outcome}
use Rattle.standin_engine.proofs.Receives.{takes_frames}
use Rattle.standin.specs.Feeding.{feeding}
use Rattle.standin.proofs.Whole.{by_frame, feed_frame, fed_frame}
use Rattle.standin_frames.specs.Alike.{Lent, Awaited, OnlyLast, AsBytes, FramesAsBytes, E1Exactly, FromPowerOn, reached}
use Rattle.standin_frames.proofs.Frames.{whole_size, not_lent, not_awaited_lem, handed_on}

-- ---- what is awaited, as a test and as it is said ----

module _ (chip : Chip) (s : State) (input : List ℕ) where
  abbrev start : ℕ
  start = start_of (task_now chip s.phase s.task)

  abbrev asked : Bool
  asked = awaited chip s.phase s.task s.got input

  pub is_asked : Awaited chip s input → asked ≡ true
  unfolding awaited
  is_asked a =
      rw (a.listens, eq-eqb (length s.got) 0 (ap length a.fresh), a.one, eq-eqb (byte_at input 0) start a.start)

  none : (g : List ℕ) → length g ≡ 0 → g ≡ []
  none [] e = refl
  none (x ∷ g) e = absurd (omega arith)

  pub is_awaited : asked ≡ true → Awaited chip s input
  unfolding awaited
  is_awaited e =
      let c = both (listening s.phase && eqb (length s.got) 0 && whole input) (eqb (byte_at input 0) start) e in
      let b = both (listening s.phase && eqb (length s.got) 0) (whole input) c.0 in
      let a = both (listening s.phase) (eqb (length s.got) 0) b.0 in
      record {
        listens = a.0;
        fresh = none s.got (eqb-true (length s.got) 0 a.1);
        one = b.1;
        start = eqb-true (byte_at input 0) start c.1;
      }

-- ---- the frame, byte by byte ----

-- a whole frame by its first two bytes
pub record Begins (b : ℕ) (f : List ℕ) : Type 0 where
  pub len : ℕ
  pub later : List ℕ
  pub there : b ∷ len ∷ later ≡ f

begins : (b : ℕ) (f : List ℕ) → 2 ≤ length f → byte_at f 0 ≡ b → Begins b f
begins b [] l e = absurd (omega arith)
begins b (x ∷ []) l e = absurd (omega arith)
begins b (x ∷ y ∷ f) l e = record { len = y; later = f; there = ap (λ (z : ℕ). z ∷ y ∷ f) (sym e) }

module _ (chip : Chip) (s : State) (listens : phase_number s.phase ≡ 4 → ⊥) (moded : phase_number s.phase ≡ 0 → ⊥) where
  -- what the frame comes to
  abbrev done : List ℕ → Out
  done f = on_frame chip (rest s.phase s.task s.options s.memory) f

  -- what each byte of a whole frame comes to: nothing before the last
  outs_frame : s.got ≡ [] → (l : ℕ) (bs : List ℕ) → let f = start_of (task_now chip s.phase s.task) ∷ l ∷ bs in
      whole f ≡ true
      → OnlyLast (outs chip s f) (done f)
  unfolding outs
  outs_frame empty l bs w =
      let f = start_of (task_now chip s.phase s.task) ∷ l ∷ bs in
      subst (λ (g : List ℕ). OnlyLast (outs chip (holding s g).state f) (done f)) (sym empty)
      (by_frame chip s listens moded f w
      (λ g b cs. OnlyLast (outs chip (holding s g).state (b ∷ cs)) (done f))
      (λ g b e. e)
      (λ g b c cs e later. (ap (λ (o : Out). o.answer) e, ap (λ (o : Out). o.note) e, subst (λ (o : Out). OnlyLast (outs chip o.state (c ∷ cs)) (done f)) (sym e) later))
      l bs refl)

-- A WHOLE FRAME AS ITS BYTES
pub frames_as_bytes : FramesAsBytes
frames_as_bytes chip s reply input ok a =
    let p = begins (start_of (task_now chip s.phase s.task)) input (whole_size input a.one).0 a.start in
    subst (λ (f : List ℕ). AsBytes chip s reply f) p.there (go p.len p.later (ap whole p.there ∙ a.one))
  where
    go : (l : ℕ) (bs : List ℕ) → let f = start_of (task_now chip s.phase s.task) ∷ l ∷ bs in
        whole f ≡ true
        → AsBytes chip s reply f
    go l bs w =
        let f = start_of (task_now chip s.phase s.task) ∷ l ∷ bs in
        let takes = takes_frames s.phase a.listens in
        let now : Awaited chip s f = record { listens = a.listens; fresh = a.fresh; one = w; start = refl } in
        let o = on_frame chip (rest s.phase s.task s.options s.memory) f in
        let call = handed_on chip s reply f ok (is_asked chip s f now) in
        record {
          last = o;
          bytes = outs_frame chip s takes.0 takes.1 a.fresh l bs w;
          same = sym call;
          after =
              ap (λ (x : Fed). x.state) (feed_frame chip s takes.0 takes.1 a.fresh l bs w)
              ∙ ap (λ (x : Outcome). x.state) call;
          fed =
              fed_frame chip s takes.0 takes.1 a.fresh l bs w reply (lent_fits chip s.memory.code s.memory.«data» reply ok)
              ∙ ap (λ (x : Outcome). feeding x.state x.call (length f) x.reply) call;
        }

-- ---- E1 ----

-- what is lent is never refused with E1
never_E1 : (chip : Chip) (code dat reply : ℕ) → lent_verdict chip code dat reply ≡ v.Refused E1 → ⊥
unfolding lent_verdict flash_verdict first
never_E1 chip code dat reply e =
    go (not (known chip)) (not (eqb code (flash_size chip Code))) (not (eqb dat (flash_size chip Data))) (ltb reply reply_room) e
  where
    other : (x : Verdict) → x ≡ v.Refused E1 → (verdict_number x).letter ≡ 0x45
    other x q = ap (λ (y : Verdict). (verdict_number y).letter) q

    go : (k c d r : Bool)
        → and_then (cond k (v.Refused D0) (cond c (v.Refused D1) (cond d (v.Refused D2) v.Accepted))) (cond r (v.Refused D3) v.Accepted) ≡ v.Refused E1
        → ⊥
    go true c d r q = omega (arith, other (v.Refused D0) q)
    go false true d r q = omega (arith, other (v.Refused D1) q)
    go false false true r q = omega (arith, other (v.Refused D2) q)
    go false false false true q = omega (arith, other (v.Refused D3) q)
    go false false false false q = omega (arith, other v.Accepted q)

-- the refusal that a call names, as a verdict
abbrev refused_by : Call → Verdict
refused_by (Refused n) = v.Refused n
refused_by (Answer k) = v.Accepted

pub E1_exactly : E1Exactly
E1_exactly chip s reply input =
    record { due = λ ok other. due ok other (awaited chip s.phase s.task s.got input) refl; named = named }
  where
    verdict : Verdict
    verdict = lent_verdict chip (length s.memory.code) (length s.memory.«data») (length reply)

    due : Lent chip s reply → (Awaited chip s input → ⊥) → (t : Bool) → awaited chip s.phase s.task s.got input ≡ t
        → frame_call chip s reply input ≡ call_outcome s (Refused E1) Empty reply
    due ok other true e = absurd (other (is_awaited chip s input e))
    due ok other false e = sym (not_awaited_lem chip s reply input ok e)

    named : (frame_call chip s reply input).call ≡ Refused E1 → Lent chip s reply × (Awaited chip s input → ⊥)
    named e = go verdict refl
      where
        go : (x : Verdict) → verdict ≡ x → Lent chip s reply × (Awaited chip s input → ⊥)
        go (v.Refused n) q =
            let same : v.Refused n ≡ v.Refused E1 = ap refused_by (ap (λ (o : Outcome). o.call) (not_lent chip s reply input n q) ∙ e) in
            absurd (never_E1 chip _ _ _ (q ∙ same))
        go v.Accepted q = (
          q,
          λ a.
              let told = ap (λ (o : Outcome). (call_number o.call).letter) (handed_on chip s reply input q (is_asked chip s input a)) in
              let letter : (call_number (frame_call chip s reply input).call).letter ≡ 0x45 = ap (λ (c : Call). (call_number c).letter) e in
              omega (arith, told, letter),
        )

pub from_power_on : FromPowerOn
from_power_on chip o m sent reply input =
    (frames_as_bytes chip (reached chip o m sent) reply input, E1_exactly chip (reached chip o m sent) reply input)
