-- What refuses an order behind its information: what such a fault tells, and which phase it leaves. Assumes nothing.
use mathlib.Core.Path.{◌≡◌, refl, ap, subst, ◌∙◌}
use mathlib.Core.Bool.{Bool, true, false, not, ◌&&◌, ◌||◌}
use mathlib.Core.List.{List, [], ◌∷◌}
use Prim.Native.Nat.{ℕ}
use lib.Dec.{eqb}
use lib.ListN.{take, drop}
use Rattle.std.proofs.Common.{Ok, Err, Option, Some, None}
use Rattle.std.specs.Option.{MatchOption, IsSomeAnd}
use Rattle.rules.specs.declared.Chip.{Chip}
use Rattle.rules.specs.declared.Block.{Block}
use Rattle.rules.specs.declared.Fault.{Fault as Row}
use Rattle.rules.specs.Faults.{Fault}
use Rattle.rules.specs.Faults as fault
use Rattle.rules.specs.declared.Flash.{Flash}
use Rattle.rules.specs.Notes.{Note, Empty, Bits}
use Rattle.rules.specs.declared.Options.{Options}
use Rattle.rules.specs.declared.Order.{Order}
use Rattle.rules.specs.declared.Order.TheVariants.{Erase, BlankCheck, Identity, Release, WindowSet}
use Rattle.rules.specs.declared.Phase.{Phase}
use Rattle.rules.specs.declared.Pages.{Pages}
use Rattle.rules.specs.declared.Task.{Task}
use Rattle.rules.specs.declared.Task.TheVariants.{Idle}
use Rattle.rules.specs.Chip.{Memory, blank, same, blank_memory, bytes_from, ident_size, ident_of}
use Rattle.rules.specs.First.{rule, first, first_fault}
use Rattle.rules.specs.Frame.{one, status_byte, note_of}
use Rattle.rules.specs.Options.{SEPR, BTPR, FSPR, erase_protected, blank_options}
use Rattle.rules.specs.State.{Out, out, noted, rest}
use Rattle.rules.specs.Answers.{Judged, Is, Ordered, Range, Blocks, Invalid}
use Rattle.rules.specs.Command.{order_checks, over_blocks, pages_awaited, ack_task, used_in, judged_order, done}
use Rattle.rules.specs.StandIn.{silences, phase_after, on_judged}
use Rattle.standin_state.specs.declared.Core.{Core}
use Rattle.standin_state.specs.View.{idle}
use Rattle.standin_verdict.proofs.Silencing.{phase_stays}
use Rattle.standin_verdict.proofs.Verdicts.{stopped_by, well_on}
use Rattle.standin_command.specs.Ordered.{awaited, begun, on_order}

-- a fault answered: by its own note, phase and status byte
abbrev pub answered_as : Phase → Options → Memory → Fault → Out
answered_as ph o m v = noted (note_of v) (out (rest (phase_after ph v) Idle o m) (one (status_byte v)))

pub refused_kept : (ph : Phase) (o : Options) (m : Memory) (v : Fault) (st : ℕ) (n : Note)
    → silences v ≡ false → st ≡ status_byte v → n ≡ note_of v
    → noted n (out (rest ph Idle o m) (one st)) ≡ answered_as ph o m v
refused_kept ph o m v st n h s e = rw (s, e, ← phase_stays ph v h)

-- an ID is refused with the phase that it leaves
pub answered_ident : (ph after : Phase) (o : Options) (m : Memory) (v : Fault) (st : ℕ)
    → v ≡ fault.Ident → st ≡ status_byte v → after ≡ phase_after ph fault.Ident
    → out (rest after Idle o m) (one st) ≡ answered_as ph o m v
answered_ident ph after o m v st e s p = rw (s, p, e)

-- and with no note
abbrev pub Quiet : Fault → Type 0
Quiet v = (silences v ≡ false) × (Empty ≡ note_of v)

pub quiet_as : (v w : Fault) → v ≡ w → Quiet w → Quiet v
quiet_as v w e q = rw e q

protected_row : (b : Bool) → Quiet (first_fault (rule fault.Protected b ∷ []))
unfolding first
protected_row true = (refl, refl)
protected_row false = (refl, refl)

release_rows : (b p : Bool) → Quiet (first_fault (rule (fault.NotBlank Empty) b ∷ rule fault.Protected p ∷ []))
unfolding first
release_rows true p = (refl, refl)
release_rows false p = protected_row p

blank_rows_lem : (n : Note) (b p : Bool) → silences (first_fault (rule (fault.NotBlank n) b ∷ rule (fault.NotBlank Bits) p ∷ [])) ≡ false
unfolding first
blank_rows_lem n true p = refl
blank_rows_lem n false true = refl
blank_rows_lem n false false = refl

-- of the orders
module _ (o : Options) (m : Memory) (f : List ℕ) where
  pub erase_quiet : (g : Flash) (b : Block) → Quiet (first_fault (order_checks o m f (Erase g b)))
  unfolding order_checks
  erase_quiet g b = protected_row (erase_protected o g b)

  pub window_quiet : (sws swe : ℕ) → Quiet (first_fault (order_checks o m f (WindowSet sws swe)))
  unfolding order_checks
  window_quiet sws swe = protected_row (eqb (FSPR o) 0)

  pub release_quiet : Quiet (first_fault (order_checks o m f Release))
  unfolding order_checks
  release_quiet = release_rows (not (blank_memory m)) (eqb (SEPR o) 0 || eqb (BTPR o) 0)

  pub blank_keeps : (g : Flash) (a b : Block) (tar : ℕ) → silences (first_fault (order_checks o m f (BlankCheck g a b tar))) ≡ false
  unfolding order_checks
  blank_keeps g a b tar = blank_rows_lem (used_in m g a b) (not (blank (bytes_from m g a b))) (eqb tar 1 && not (blank_options o))

  -- an ID is refused by nothing else
  pub ident_refused : (v : Fault) → v ≡ first_fault (order_checks o m f Identity) → (status_byte v ≡ 0x06 → ⊥) → v ≡ fault.Ident
  unfolding order_checks first
  ident_refused v e n = go (not (same (take ident_size (drop 3 f)) (ident_of m))) e
    where
      go : (b : Bool) → v ≡ first_fault (rule fault.Ident b ∷ []) → v ≡ fault.Ident
      go true e = e
      go false e = absurd (n (ap status_byte e))

-- ---- what an order comes to, by its own rows ----

module _ (chip : Chip) (k : Core) (m : Memory) (f : List ℕ) (order : Order) where
  -- none of them applies
  pub order_done : Ok tt ≡ first_fault (order_checks k.options m f order) → done chip (idle k m) order ≡ on_order chip k m f (Is order)
  unfolding on_judged judged_order
  order_done e = ap (λ (j : Judged). on_judged j chip (idle k m)) (well_on _ _ e (Ordered order) refl)

  -- one of them does
  module _ (x : Row) (e : Err x ≡ first_fault (order_checks k.options m f order)) where
    pub order_refused : answered_as k.phase k.options m (Err x) ≡ on_order chip k m f (Is order)
    unfolding on_judged judged_order
    order_refused = ap (λ (j : Judged). on_judged j chip (idle k m)) (stopped_by _ _ e (Ordered order) x refl)

    -- and leaves the phase, with no note
    pub quiet_refused : Quiet (first_fault (order_checks k.options m f order)) → (st : ℕ) → st ≡ status_byte (Err x)
        → out (rest k.phase Idle k.options m) (one st) ≡ on_order chip k m f (Is order)
    quiet_refused q st s =
        let z = quiet_as _ _ e q in
        refused_kept _ _ m _ _ Empty z.0 s z.1 ∙ order_refused

-- ---- a command that waits for pages ----

module _ (chip : Chip) (k : Core) (m : Memory) (f : List ℕ) (order : Flash → Block → Block → Order) (begins : Pages → Task)
    (free : (g : Flash) (a b : Block) → ack_task (begins (pages_awaited g a b)) (idle k m) ≡ on_order chip k m f (Is (order g a b))) where
  by_range : (r : Range) (o : Option Task) → MatchOption (awaited r) (o ≡ None) (λ p. IsSomeAnd o (λ t. t ≡ begins p))
      → begun o (idle k m) ≡ on_order chip k m f (over_blocks order r)
  unfolding on_judged judged_order
  by_range (Blocks g a b) (Some t) e = ap (λ (x : Task). ack_task x (idle k m)) e ∙ free g a b
  by_range (Blocks g a b) None e = absurd e
  by_range Invalid o e = rw e refl

  pub range_begun : (r : Range) (w : Option Pages) (o : Option Task) → w ≡ awaited r
      → MatchOption w (o ≡ None) (λ p. IsSomeAnd o (λ t. t ≡ begins p))
      → begun o (idle k m) ≡ on_order chip k m f (over_blocks order r)
  range_begun r w o e is =
      by_range r o (subst (λ (v : Option Pages). MatchOption v (o ≡ None) (λ p. IsSomeAnd o (λ t. t ≡ begins p))) e is)
