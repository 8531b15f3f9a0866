-- ID checking stays on through Release (02, M-102): what A2h comes to, and that the ID is asked for after it. Assumes nothing.
use mathlib.Core.Path.{◌≡◌, refl, sym, ap, ◌∙◌}
use mathlib.Core.Bool.{Bool, true, false, not, ◌||◌}
use mathlib.Core.List.{List, []}
use Prim.Native.Nat.{ℕ}
use native.Mathlib.Omega.{arith}
use lib.Dec.{eqb}
use borrow.Author.Tests.{eq-eqb, ne_eqb}
use Rattle.rules.specs.declared.Chip.{Chip}
use Rattle.rules.specs.declared.Options.{Options}
use Rattle.rules.specs.declared.Phase.TheVariants.{Command}
use Rattle.rules.specs.declared.Task.TheVariants.{Idle}
use Rattle.rules.specs.Faults.{NotBlank, Protected}
use Rattle.rules.specs.Notes.{Empty}
use Rattle.rules.specs.declared.Order.TheVariants.{Release}
use Rattle.rules.specs.Chip.{Memory, byte_at, total, known, blank_memory, ident_of}
use Rattle.rules.specs.Options.{BTPR, SEPR, IDEN, IFPR, release}
use Rattle.rules.specs.Frame.{sum_byte, frame, one}
use Rattle.rules.specs.Command.{commands, rows, lookup, read_as, order_checks, ack, done}
use Rattle.rules.specs.StandIn.{State, Out, out, rest, feed, powered}
use Rattle.rules.specs.Run.{waits}
use Rattle.rules.proofs.First.{applies, passed, none_applies}
use Rattle.rules.proofs.OptionBits.{iden_stays, ifpr_set}
use Rattle.standin.specs.Opening.{opening_bytes}
use Rattle.joined_laws.specs.Hears.{hears}
use Rattle.joined_laws.specs.Released.{release_bytes, AsksAgain, StillAsks}
use Rattle.joined_laws.specs.Turns.{Fit}
use Rattle.joined_laws.proofs.FramesHeard.{Fresh, fresh_command, waiting_phase, waiting_task, waiting_got, hears_well, hears_refused, rest_waits}
use Rattle.joined_laws.proofs.Opened.{ident_there, opens, rated_fed}
use Rattle.joined_laws.proofs.Run.{some_code}

-- ---- the next power-on ----

asks_again : (chip : Chip) (o : Options) (m : Memory) → IDEN o ≡ 0 → IFPR o ≡ 1 → AsksAgain chip (rest Command Idle o m)
asks_again chip o m asked free mode brt vdd good =
    ap (λ (s : State). s.phase) (rated_fed chip o m (λ z. omega arith) mode brt vdd good) ∙ rw (eq-eqb (IDEN o) 0 asked)

-- ---- A2h, to a stand-in that waits ----

module _ (chip : Chip) (s : State) (w : waits chip s ≡ true) where
  abbrev o : Options
  o = s.options

  abbrev m : Memory
  m = s.memory

  fresh : Fresh s Command
  fresh = fresh_command s (waiting_phase chip s w) (waiting_got chip s w)

  -- flash blank, SEPR and BTPR 1: released
  released_well : blank_memory m ≡ true → (eqb (SEPR o) 0 || eqb (BTPR o) 0) ≡ false → hears chip s release_bytes ≡ out (rest Command Idle (release o) m) ack
  unfolding commands rows lookup read_as order_checks frame sum_byte total done
  released_well blank free =
      hears_well chip s Command fresh (waiting_task chip s w) 0xA2 [] (omega arith) refl Release refl
      (passed _ _ _ _ (ap not blank) ∙ passed _ _ _ _ free ∙ none_applies _)

  -- else told why not
  used : blank_memory m ≡ false → hears chip s release_bytes ≡ out (rest Command Idle o m) (one 0x1B)
  unfolding commands rows lookup read_as order_checks frame sum_byte total
  used e =
      hears_refused chip s Command fresh (waiting_task chip s w) 0xA2 [] (omega arith) refl Release refl (NotBlank Empty) (λ z. omega arith)
      (applies _ _ _ _ (ap not e))

  guarded : blank_memory m ≡ true → (eqb (SEPR o) 0 || eqb (BTPR o) 0) ≡ true → hears chip s release_bytes ≡ out (rest Command Idle o m) (one 0x10)
  unfolding commands rows lookup read_as order_checks frame sum_byte total
  guarded blank e =
      hears_refused chip s Command fresh (waiting_task chip s w) 0xA2 [] (omega arith) refl Release refl Protected (λ z. omega arith)
      (passed _ _ _ _ (ap not blank) ∙ applies _ _ _ _ e)

  pub release_heard : blank_memory m ≡ true → SEPR o ≡ 1 → BTPR o ≡ 1 → hears chip s release_bytes ≡ out (rest Command Idle (release o) m) ack
  release_heard blank erasable writable =
      released_well blank (rw (ne_eqb (SEPR o) 0 (λ z. omega arith), ne_eqb (BTPR o) 0 (λ z. omega arith)))

  -- the status told is no ACK
  told : (status : ℕ) → (status ≡ 0x06 → ⊥) → hears chip s release_bytes ≡ out (rest Command Idle o m) (one status) → (hears chip s release_bytes).answer ≡ ack → ⊥
  unfolding frame
  told status n e a = n (ap (λ (xs : List ℕ). byte_at xs 2) (sym (ap (λ (x : Out). x.answer) e) ∙ a))

  only_released : (hears chip s release_bytes).answer ≡ ack → hears chip s release_bytes ≡ out (rest Command Idle (release o) m) ack
  only_released a = go (blank_memory m) refl (eqb (SEPR o) 0 || eqb (BTPR o) 0) refl
    where
      go : (b : Bool) → blank_memory m ≡ b → (g : Bool) → (eqb (SEPR o) 0 || eqb (BTPR o) 0) ≡ g → hears chip s release_bytes ≡ out (rest Command Idle (release o) m) ack
      go false e g f = absurd (told 0x1B (λ z. omega arith) (used e) a)
      go true e true f = absurd (told 0x10 (λ z. omega arith) (guarded e f) a)
      go true e false f = released_well e f

  -- RELEASED, for every stand-in that waits
  pub still_asks : IDEN o ≡ 0 → StillAsks chip s
  still_asks asked a =
      let e = ap (λ (x : Out). x.state) (only_released a) in
      (e, rw e (asks_again chip (release o) m (iden_stays o ∙ asked) (ifpr_set o)))

-- ---- from a power-on: a known chip, its flash blank, opened with its ID ----

module _ (chip : Chip) (k : known chip ≡ true) (o : Options) (m : Memory) (fit : Fit chip m) (blank : blank_memory m ≡ true) (asked : IDEN o ≡ 0) (free : IFPR o ≡ 1) where
  abbrev there : State
  there = (feed chip (powered o m) (opening_bytes o (ident_of m))).state

  came : there ≡ rest Command Idle o m
  came = opens chip o m (ident_there chip m (some_code chip k) fit) (λ z. omega arith)

  -- RELEASED, FROM A POWER-ON
  pub opened_still_asks : StillAsks chip there
  opened_still_asks = rw came (still_asks chip (rest Command Idle o m) (rest_waits chip o m free) asked)

  -- and A2h is answered so where SEPR and BTPR are 1
  pub opened_released : SEPR o ≡ 1 → BTPR o ≡ 1 → hears chip there release_bytes ≡ out (rest Command Idle (release o) m) ack
  opened_released erasable writable =
      rw came (release_heard chip (rest Command Idle o m) (rest_waits chip o m free) blank erasable writable)
