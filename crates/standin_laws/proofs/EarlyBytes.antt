-- Before the ID is accepted, two chips that differ in flash alone, but for the ID, answer a byte alike and stay so. By the table of commands Speed
-- has 9Ah alone, which reads no flash, and Ident 9Ch, which reads the ID. Assumes nothing.
use mathlib.Core.Path.{◌≡◌, refl, sym, ap}
use mathlib.Core.Bool.{Bool, true, false, cond, not, ◌&&◌, ◌||◌, false≢true}
use mathlib.Core.List.{List, [], ◌∷◌, ◌++◌, map}
use mathlib.Core.Logic.{◌⊎◌, inl, inr}
use Prim.Native.Nat.{ℕ}
use lib.Dec.{leb, eqb}
use lib.ListN.{take, drop}
use borrow.Author.Tests.{eq-eqb}
use Rattle.rules.specs.declared.Chip.{Chip}
use Rattle.rules.specs.declared.Options.{Options}
use Rattle.rules.specs.declared.Phase.{Phase}
use Rattle.rules.specs.declared.Phase.TheVariants.{Mode, Speed, Ident, Command, Silent}
use Rattle.rules.specs.declared.Task.TheVariants.{Idle}
use Rattle.rules.specs.Answers.{Row, Decoded, Is, Bad, Judged, Faulty, Ordered}
use Rattle.rules.specs.declared.Order.TheVariants.{BaudRate, Identity}
use Rattle.rules.specs.Faults.{Fault, EndByte, Sum, Code, Length, Parameter}
use Rattle.rules.specs.Faults as fault
use Rattle.rules.specs.Notes.{Note}
use Rattle.rules.specs.First.{rule, first, first_fault}
use Rattle.rules.specs.Chip.{Memory, same, ident_of, ident_size, byte_at}
use Rattle.rules.specs.Options.{IDEN}
use Rattle.rules.specs.Frame.{last_end, len_of, end_of, sum_holds, status_byte, whole}
use Rattle.rules.specs.Command.{Entry, columns, phase_number, commands, rows, lookup, allowed, len_due, read_as, decoded, code_of, frame_checks, order_checks, unless, judged_order, judged, after_speed, done}
use Rattle.rules.specs.StandIn.{State, Out, silences, phase_after, on_judged, on_command, task_now, on_task, on_frame, receive, after_mode, takes, step}
use Rattle.standin_laws.specs.BeforeIdent.{Twins, in_command, accepts, tells, after}

-- ---- a command frame that may be in a phase: what the table reads it as ----

-- of the entries of a phase
abbrev Only : (Decoded → Type 0) → Phase → Chip → List ℕ → List Entry → Type 0
Only Q ph chip f [] = Unit {0}
Only Q ph chip f (e ∷ es) =
    (eqb (phase_number e.phase) (phase_number ph) ≡ true → Q (e.reads chip f)) × Only Q ph chip f es

module _ (Q : Decoded → Type 0) (ph : Phase) (chip : Chip) (f : List ℕ) (code : ℕ) where
  reads_only : (es : List Entry) → Only Q ph chip f es → allowed ph (lookup (map columns es) code) ≡ true → Q (read_as es code chip f)
  unfolding lookup read_as
  reads_only [] all h = absurd (false≢true h)
  reads_only (e ∷ es) all h = go (eqb e.code code) (reads_only es all.1) h
    where
      go : (t : Bool) → (allowed ph (lookup (map columns es) code) ≡ true → Q (read_as es code chip f))
          → allowed ph (cond t (Row e.len (phase_number e.phase)) (lookup (map columns es) code)) ≡ true
          → Q (cond t (e.reads chip f) (read_as es code chip f))
      go true later k = all.0 k
      go false later k = later k

-- an entry of another phase
apart : {A B : Type 0} → B → (false ≡ true → A) × B
apart later = (λ e. absurd (false≢true e), later)

-- Speed has 9Ah alone, and Ident 9Ch
abbrev Rated : Decoded → Type 0
Rated d = (d ≡ Is BaudRate) ⊎ (d ≡ Bad)

module _ (chip : Chip) (f : List ℕ) where
  in_speed : allowed Speed (lookup rows (code_of f)) ≡ true → Rated (decoded chip f)
  unfolding commands rows
  in_speed h =
      reads_only Rated Speed chip f (code_of f) commands
      (apart (apart (apart (apart (apart (λ e. rated (leb (byte_at f 3) 3 && leb 0x10 (byte_at f 4) && leb (byte_at f 4) 0x37), apart (apart (apart (apart (apart (apart (apart tt))))))))))))
      h
    where
      rated : (t : Bool) → Rated (cond t (Is BaudRate) Bad)
      rated true = inl refl
      rated false = inr refl

  in_ident : allowed Ident (lookup rows (code_of f)) ≡ true → decoded chip f ≡ Is Identity
  unfolding commands rows
  in_ident h =
      reads_only (λ d. d ≡ Is Identity) Ident chip f (code_of f) commands
      (apart (apart (apart (apart (apart (apart (λ e. refl, apart (apart (apart (apart (apart (apart tt))))))))))))
      h

-- a frame without a fault of its own is allowed
frame_allowed : (ph : Phase) (f : List ℕ) → eqb (status_byte (first_fault (frame_checks ph f))) 0x06 ≡ true → allowed ph (lookup rows (code_of f)) ≡ true
unfolding frame_checks first
frame_allowed ph f e =
    let due = len_due (lookup rows (code_of f)) in
    go (not (eqb (end_of f) last_end)) (not (sum_holds f)) (allowed ph (lookup rows (code_of f))) (not (eqb (len_of f) due)) due (len_of f) e
  where
    go : (a b c d : Bool) (x y : ℕ) → eqb (status_byte (first_fault (rule EndByte a ∷ rule Sum b ∷ rule Code (not c) ∷ rule (Length x y) d ∷ []))) 0x06 ≡ true → c ≡ true
    go a b true d x y h = refl
    go true b false d x y h = absurd (false≢true h)
    go false true false d x y h = absurd (false≢true h)
    go false false false d x y h = absurd (false≢true h)

-- ---- two states that differ in memory alone, before the ID is accepted ----

abbrev pub at : Options → Phase → List ℕ → Memory → State
at o ph g m = record { phase = ph; task = Idle; options = o; got = g; memory = m }

module _ (o : Options) (m n : Memory) where
  -- what comes of one byte on both sides: the same is told, and both go on to such states; to Command only by the ID
  pub record Alike {A B : Type 0} (state_of : A → State) (tell : A → B) (ph : Phase) (x y : A) : Type 0 where
    pub to : Phase
    pub got : List ℕ
    pub one : state_of x ≡ at o to got m
    pub other : state_of y ≡ at o to got n
    pub told : tell x ≡ tell y
    pub early : accepts ph to ≡ false → in_command to ≡ false

  -- what is made of one telling
  made : (ph to : Phase) (g answer : List ℕ) (note : Note) → (accepts ph to ≡ false → in_command to ≡ false)
      → Alike after tells ph (record { state = at o to g m; answer = answer; note = note }) (record { state = at o to g n; answer = answer; note = note })
  made ph to g answer note e =
      record { to = to; got = g; one = refl; other = refl; told = refl; early = e }

  -- by either of two outcomes
  either_way : (ph : Phase) (t : Bool) (x y z w : Out) → Alike after tells ph x y → Alike after tells ph z w → Alike after tells ph (cond t x z) (cond t y w)
  either_way ph true x y z w p q = p
  either_way ph false x y z w p q = q

  module _ (chip : Chip) (twins : Twins o m n) where
    -- ---- a whole frame ----

    module _ (ph : Phase) (off : in_command ph ≡ false) (f : List ℕ) where
      abbrev AlikeBy : Judged → Judged → Type 0
      AlikeBy i j = Alike after tells ph (on_judged i chip (at o ph [] m)) (on_judged j chip (at o ph [] n))

      faulty : (x : Fault) → AlikeBy (Faulty x) (Faulty x)
      unfolding on_judged
      faulty x = made ph (phase_after ph x) [] _ _ (λ e. stays ph off)
        where
          kept : (t : Bool) (p : Phase) → in_command p ≡ false → in_command (cond t Silent p) ≡ false
          kept true p h = refl
          kept false p h = h

          stays : (p : Phase) → in_command p ≡ false → in_command (phase_after p x) ≡ false
          stays Mode h = h
          stays Speed h = kept (silences x) Speed h
          stays Ident h = kept (silences x) Ident h
          stays Command h = h
          stays Silent h = h

      rated : AlikeBy (Ordered BaudRate) (Ordered BaudRate)
      unfolding on_judged done
      rated = made ph (after_speed o) [] _ _ (λ e. ap (λ (t : Bool). in_command (cond t Ident Command)) (eq-eqb (IDEN o) 0 twins.asked))

      -- where no row of the frame's own applies, by what its information orders
      by_order : (allowed ph (lookup rows (code_of f)) ≡ true → AlikeBy (judged_order o m f (decoded chip f)) (judged_order o n f (decoded chip f)))
          → Alike after tells ph (on_command chip (at o ph [] m) f) (on_command chip (at o ph [] n) f)
      unfolding on_command judged unless
      by_order ordered = go (eqb (status_byte (first_fault (frame_checks ph f))) 0x06) (λ e. ordered (frame_allowed ph f e))
        where
          go : (t : Bool) → (t ≡ true → AlikeBy (judged_order o m f (decoded chip f)) (judged_order o n f (decoded chip f)))
              → AlikeBy (cond t (judged_order o m f (decoded chip f)) (Faulty (first_fault (frame_checks ph f)))) (cond t (judged_order o n f (decoded chip f)) (Faulty (first_fault (frame_checks ph f))))
          go true k = k refl
          go false k = faulty (first_fault (frame_checks ph f))

    -- 9Ah reads neither flash
    on_speed : (f : List ℕ) → Alike after tells Speed (on_command chip (at o Speed [] m) f) (on_command chip (at o Speed [] n) f)
    unfolding judged_order order_checks unless first
    on_speed f = by_order Speed refl f (λ h. go (decoded chip f) (in_speed chip f h))
      where
        go : (d : Decoded) → Rated d → AlikeBy Speed refl f (judged_order o m f d) (judged_order o n f d)
        go d (inl e) = rw e (rated Speed refl f)
        go d (inr e) = rw e (faulty Speed refl f Parameter)

    -- 9Ch reads the ID alone
    on_ident : (f : List ℕ) → Alike after tells Ident (on_command chip (at o Ident [] m) f) (on_command chip (at o Ident [] n) f)
    unfolding on_judged judged_order order_checks unless first done
    on_ident f =
        by_order Ident refl f (λ h. rw (in_ident chip f h, twins.ident) (go (same (take ident_size (drop 3 f)) (ident_of n))))
      where
        go : (t : Bool) → let j = unless (first_fault (rule fault.Ident (not t) ∷ [])) (Ordered Identity) in AlikeBy Ident refl f j j
        go true = made Ident Command [] _ _ (λ e. absurd (false≢true (sym e)))
        go false = faulty Ident refl f fault.Ident

    -- ---- one byte ----

    -- bytes of a frame in hand, or a whole one
    module _ (ph : Phase) (off : in_command ph ≡ false) (idle : task_now chip ph Idle ≡ Idle)
        (framed : (f : List ℕ) → Alike after tells ph (on_command chip (at o ph [] m) f) (on_command chip (at o ph [] n) f)) where
      received : (g : List ℕ) (b : ℕ) → Alike after tells ph (receive chip (at o ph g m) g b) (receive chip (at o ph g n) g b)
      unfolding receive on_frame on_task
      received [] b =
          rw idle (either_way ph (eqb b 0x01) _ _ _ _ (made ph ph (b ∷ []) [] _ (λ h. off)) (made ph ph [] [] _ (λ h. off)))
      received (a ∷ g) b =
          let f = a ∷ (g ++ (b ∷ [])) in
          rw idle (either_way ph (whole f) _ _ _ _ (framed f) (made ph ph f [] _ (λ h. off)))

    pub stepped : (ph : Phase) (g : List ℕ) → in_command ph ≡ false → (b : ℕ) → Alike after tells ph (step chip (at o ph g m) b) (step chip (at o ph g n) b)
    unfolding step takes task_now
    stepped Mode g off b = made Mode (after_mode b) [] [] _ (λ e. moded (eqb b 0x3A || eqb b 0x00))
      where
        moded : (t : Bool) → in_command (cond t Speed Silent) ≡ false
        moded true = refl
        moded false = refl
    stepped Speed g off b = received Speed off refl on_speed g b
    stepped Ident g off b = received Ident off refl on_ident g b
    stepped Command g off b = absurd (false≢true (sym off))
    stepped Silent g off b = made Silent Silent g [] _ (λ e. off)
