-- Nothing is told before the ID: of received bytes, of byte calls, and of the library's own. Assumes nothing.
use mathlib.Core.Path.{◌≡◌, refl, sym, ap, ◌∙◌}
use mathlib.Core.Bool.{Bool, true, false, cond, ◌&&◌, false≢true}
use mathlib.Core.List.{List, [], ◌∷◌, map}
use Prim.Native.Nat.{ℕ}
use lib.Dec.{eqb}
use lib.ListN.{length}
use Rattle.rules.specs.declared.Chip.{Chip}
use Rattle.rules.specs.declared.Options.{Options}
use Rattle.rules.specs.declared.Phase.{Phase}
use Rattle.rules.specs.declared.Phase.TheVariants.{Mode, Ident, Silent}
use Rattle.rules.specs.Answers.{Call, Answer, Verdict}
use Rattle.rules.specs.Answers as v
use Rattle.rules.specs.Chip.{Memory, over}
use Rattle.rules.specs.Options.{IFPR}
use Rattle.rules.specs.Command.{phase_number}
use Rattle.rules.specs.StandIn.{State, Outcome, Powered, step, powered_phase, powered, flash_verdict, power_by, power_on, lent_verdict, byte_by, byte_call, outs}
use Rattle.rules.specs.Numbers.{call_number}
use Rattle.standin_engine.proofs.Stays.{letter}
use Rattle.standin.specs.declared.call.Device.{Device}
use Rattle.standin.specs.declared.call.PoweredOn.{PoweredOn}
use Rattle.standin.specs.Shows.{shows}
use Rattle.standin_laws.specs.BeforeIdent.{Twins, in_command, accepts, until_ident, until_command, Same, Told, tells, after, NothingTold, CommandByIdent, Asked, calls, sees, left, SameSizes, NothingSeen, PowersOn, Back, outcome_of, Called, NothingGivenBack}
use Rattle.standin_laws.proofs.EarlyBytes.{at, Alike, stepped}

-- ---- one after the other: bytes, or byte calls ----

module _ (o : Options) (m n : Memory) {A B I : Type 0} (state_of : A → State) (tell : A → B) (act : State → I → A) (run : State → List I → List A)
    (nothing : (s : State) → run s [] ≡ [])
    (onward : (s : State) (i : I) (is : List I) → run s (i ∷ is) ≡ act s i ∷ run (state_of (act s i)) is)
    (alike : (ph : Phase) (g : List ℕ) → in_command ph ≡ false → (i : I) → Alike o m n state_of tell ph (act (at o ph g m) i) (act (at o ph g n) i)) where
  abbrev Both : List A → List A → Type 0
  Both xs ys = Same state_of tell o m n xs ys

  neither : Both [] []
  neither = record { told = refl; one = tt; other = tt }

  -- what comes of one more
  joined : (ph : Phase) (x y : A) (xs ys : List A) → Alike o m n state_of tell ph x y → Both xs ys → Both (x ∷ xs) (y ∷ ys)
  joined ph x y xs ys a later =
      record {
        told = rw (a.told, later.told);
        one = (ap (λ (s : State). s.options) a.one, ap (λ (s : State). s.memory) a.one, later.one);
        other = (ap (λ (s : State). s.options) a.other, ap (λ (s : State). s.memory) a.other, later.other);
      }

  -- behind the acceptance nothing is said
  cut : (t : Bool) (xs ys : List A) → (t ≡ false → Both xs ys) → Both (cond t [] xs) (cond t [] ys)
  cut true xs ys later = neither
  cut false xs ys later = later refl

  until : (is : List I) (ph : Phase) (g : List ℕ) → in_command ph ≡ false
      → Both (until_ident state_of ph (run (at o ph g m) is)) (until_ident state_of ph (run (at o ph g n) is))
  unfolding until_ident
  until [] ph g off = rw (nothing (at o ph g m), nothing (at o ph g n)) neither
  until (i ∷ is) ph g off =
      let x = act (at o ph g m) i in
      let y = act (at o ph g n) i in
      let a = alike ph g off i in
      rw (onward (at o ph g m) i is, onward (at o ph g n) i is)
      (joined ph x y _ _ a
      (rw (a.one, a.other) (cut (accepts ph a.to) _ _ (λ e. until is a.to a.got (a.early e)))))

  -- and the phase is not Command before it
  command_by_ident : (is : List I) (ph : Phase) (g : List ℕ) → in_command ph ≡ false
      → until_ident state_of ph (run (at o ph g m) is) ≡ until_command state_of (run (at o ph g m) is)
  unfolding until_ident until_command
  command_by_ident [] ph g off = rw (nothing (at o ph g m))
  command_by_ident (i ∷ is) ph g off =
      let x = act (at o ph g m) i in
      let a = alike ph g off i in
      rw (onward (at o ph g m) i is)
      (ap (λ (xs : List A). x ∷ xs)
      (rw a.one (go (eqb (phase_number ph) (phase_number Ident)) (in_command a.to) a.early _ _ (λ e. command_by_ident is a.to a.got (a.early e)))))
    where
      go : (t c : Bool) → ((t && c) ≡ false → c ≡ false) → (xs ys : List A) → ((t && c) ≡ false → xs ≡ ys) → cond (t && c) [] xs ≡ cond c [] ys
      go true true early xs ys later = refl
      go true false early xs ys later = later refl
      go false true early xs ys later = absurd (false≢true (sym (early refl)))
      go false false early xs ys later = later refl

-- ---- received bytes ----

-- no chip is powered on in Command
powered_off : (o : Options) → in_command (powered_phase o) ≡ false
powered_off o = go (eqb (IFPR o) 0)
  where
    go : (t : Bool) → in_command (cond t Silent Mode) ≡ false
    go true = refl
    go false = refl

pub nothing_told : NothingTold
unfolding outs
nothing_told chip o m n twins bytes =
    until o m n after tells (step chip) (outs chip) (λ s. refl) (λ s b bs. refl) (stepped o m n chip twins) bytes (powered_phase o) [] (powered_off o)

pub command_after_ident : CommandByIdent
unfolding outs
command_after_ident chip o asked m bytes =
    command_by_ident o m m after tells (step chip) (outs chip) (λ s. refl) (λ s b bs. refl) (stepped o m m chip (record { asked = asked; ident = refl })) bytes (powered_phase o) [] (powered_off o)

-- ---- byte calls ----

abbrev asks : Chip → State → Asked → Outcome
asks chip s a = byte_call chip s a.reply a.byte

module _ (o : Options) (m n : Memory) (chip : Chip) (twins : Twins o m n) (sizes : SameSizes m n) where
  asked_alike : (ph : Phase) (g : List ℕ) → in_command ph ≡ false → (a : Asked) → Alike o m n left sees ph (asks chip (at o ph g m) a) (asks chip (at o ph g n) a)
  unfolding byte_call byte_by
  asked_alike ph g off a =
      rw (sizes.0, sizes.1) (go (lent_verdict chip (length n.code) (length n.«data») (length a.reply)))
    where
      go : (x : Verdict) → Alike o m n left sees ph (byte_by x chip (at o ph g m) a.reply a.byte) (byte_by x chip (at o ph g n) a.reply a.byte)
      go v.Accepted =
          let s = stepped o m n chip twins ph g off a.byte in
          record {
            to = s.to;
            got = s.got;
            one = s.one;
            other = s.other;
            told =
                ap (λ (t : Told). record { call = Answer (length t.answer); note = t.note; reply = over t.answer a.reply; phase = t.phase }) s.told;
            early = s.early;
          }
      go (v.Refused r) = record { to = ph; got = g; one = refl; other = refl; told = refl; early = λ e. off }

pub nothing_seen : NothingSeen
unfolding calls
nothing_seen chip o m n twins sizes asked =
    until o m n left sees (asks chip) (calls chip) (λ s. refl) (λ s a more. refl) (asked_alike o m n chip twins sizes) asked (powered_phase o) [] (powered_off o)

-- ---- the library's own ----

-- calls that meet their promise are the definition's
called_so : (d : Device) (m : Memory) (asked : List Asked) (xs : List Back) → Called d m asked xs → map outcome_of xs ≡ calls d.chip (shows d m) asked
unfolding calls
called_so d m [] [] met = refl
called_so d m [] (b ∷ bs) met = absurd met
called_so d m (a ∷ more) [] met = absurd met
called_so d m (a ∷ more) (b ∷ bs) met =
    let later = called_so b.result.device b.memory more bs met.2 in
    rw (← met.1) (ap (λ (ys : List Outcome). outcome_of b ∷ ys) (later ∙ ap (λ (c : Chip). calls c (shows b.result.device b.memory) more) met.0))

-- a power-on answers by the lengths alone, and one that is not refused is a power-on
power_call : (x : Verdict) (s t : State) (o : Options) (m n : Memory) → (power_by x s o m).call ≡ (power_by x t o n).call
unfolding power_by
power_call v.Accepted s t o m n = refl
power_call (v.Refused r) s t o m n = refl

power_state : (x : Verdict) (s : State) (o : Options) (m : Memory) → (power_by x s o m).call ≡ Answer 0 → (power_by x s o m).state ≡ powered o m
unfolding power_by
power_state v.Accepted s o m e = refl
power_state (v.Refused r) s o m e = absurd (letter r (ap (λ (c : Call). (call_number c).letter) e))

-- a device that was powered on, and byte calls of it
on_then : (o : Options) (m : Memory) (d : Device) (p : PoweredOn) → PowersOn d o m p → p.call ≡ Answer 0
    → (asked : List Asked) (xs : List Back) → Called p.device m asked xs → map outcome_of xs ≡ calls d.chip (powered o m) asked
unfolding power_on
on_then o m d p on well asked xs met =
    let x = flash_verdict d.chip (length m.code) (length m.«data») in
    let e = power_state x (shows d m) o m (ap (λ (q : Powered). q.call) (sym on.is) ∙ well) in
    called_so p.device m asked xs met
    ∙ ap (λ (c : Chip). calls c (shows p.device m) asked) on.chip
    ∙ ap (λ (s : State). calls d.chip s asked) (ap (λ (q : Powered). q.state) on.is ∙ e)

pub nothing_given_back : NothingGivenBack
unfolding power_on
nothing_given_back o m n twins sizes d e chips p q on other =
    let x = flash_verdict e.chip (length n.code) (length n.«data») in
    let same-call : p.call ≡ q.call =
    ap (λ (r : Powered). r.call) on.is
    ∙ rw (chips, sizes.0, sizes.1) (power_call x (shows d m) (shows e n) o m n)
    ∙ ap (λ (r : Powered). r.call) (sym other.is) in (
      same-call,
      λ well asked xs ys met mets.
          rw (on_then o m d p on well asked xs met, on_then o n e q other (sym same-call ∙ well) asked ys mets, chips)
          (nothing_seen e.chip o m n twins sizes asked),
    )
