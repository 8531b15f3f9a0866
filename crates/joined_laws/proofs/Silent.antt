-- After a play the chip is Silent exactly where the last step was a lock that clears IFPR. Assumes nothing.
use mathlib.Core.Path.{◌≡◌, refl, sym, ap, ◌∙◌}
use mathlib.Core.Bool.{Bool, true, false, false≢true}
use mathlib.Core.List.{List}
use Prim.Native.Nat.{ℕ, zero, suc, ◌+◌}
use native.Mathlib.Omega.{arith}
use lib.Dec.{eqb}
use lib.ListN.{length, set}
use borrow.Author.Tests.{eqb-true, eqb-false, ne_eqb}
use Rattle.rules.specs.declared.Chip.{Chip}
use Rattle.rules.specs.declared.Kind.{Kind}
use Rattle.rules.specs.declared.Kind.TheVariants.{Erase, Write, Verify, Sum, Blank, Lock}
use Rattle.rules.specs.declared.Options.{Options}
use Rattle.rules.specs.declared.Phase.{Phase}
use Rattle.rules.specs.declared.Phase.TheVariants.{Mode, Speed, Ident, Command, Silent}
use Rattle.rules.specs.declared.Stage.TheVariants.{New}
use Rattle.rules.specs.declared.Status.TheVariants.{Byte}
use Rattle.rules.specs.declared.Step.{Step}
use Rattle.rules.specs.Answers.{Accepted}
use Rattle.rules.specs.Chip.{Memory}
use Rattle.rules.specs.Options.{IFPR}
use Rattle.rules.specs.StandIn.{State}
use Rattle.rules.specs.Sheet.{count, verdict, clears, step_at}
use Rattle.rules.specs.Meaning.{Done, Ended, step_done, step_meaning, options_by, options_after, meaning_from, meaning}
use Rattle.rules.specs.Player.{report_of}
use Rattle.rules.specs.Run.{clean, Joined, run, is_silent, waits, settled}
use Rattle.sheet.proofs.Accepted.{sound}
use Rattle.joined_laws.specs.Turns.{Fit}
use Rattle.joined_laws.specs.Silent.{LastClears, SilentExactly}
use Rattle.joined_laws.proofs.FramesHeard.{waiting_phase, waiting_open, settled_waits}
use Rattle.joined_laws.proofs.Open.{ifpr_one, lock_shuts, step_leaves_open}
use Rattle.joined_laws.proofs.Run.{known_run}

-- ---- the options behind a step ----

-- a lock is never refused
lock_done : (o : Options) (s : List ℕ) (t : Step) (m : Memory) → t.kind ≡ Lock → (step_meaning o s t m).status ≡ 0x06
unfolding step_meaning step_done
lock_done o s t m k = rw k

-- one that leaves IFPR 0 is a lock that clears it
shuts : (t : Step) (o : Options) → IFPR o ≡ 1 → IFPR (options_after t o) ≡ 0 → (t.kind ≡ Lock) × (clears t.flags ≡ true)
unfolding options_after options_by
shuts t o i z = go t.kind refl (clears t.flags) refl
  where
    same : IFPR o ≡ 0 → ⊥
    same e = omega (arith, e, i)

    go : (k : Kind) → t.kind ≡ k → (b : Bool) → clears t.flags ≡ b → (t.kind ≡ Lock) × (clears t.flags ≡ true)
    go Erase e b c = absurd (same (rw e at z))
    go Write e b c = absurd (same (rw e at z))
    go Verify e b c = absurd (same (rw e at z))
    go Sum e b c = absurd (same (rw e at z))
    go Blank e b c = absurd (same (rw e at z))
    go Lock e true c = (e, c)
    go Lock e false c =
        let open-still = step_leaves_open t o i (λ _ x. false≢true (sym c ∙ x)) in
        absurd (omega (arith, z, open-still))

clearing_shuts : (t : Step) (o : Options) → t.kind ≡ Lock → clears t.flags ≡ true → IFPR (options_after t o) ≡ 0
unfolding options_after options_by
clearing_shuts t o k c = rw k (lock_shuts o t.flags c)

-- ---- step after step ----

byte_same : (a b : ℕ) → Byte a ≡ Byte b → a ≡ b
byte_same a b e = cc

module _ (chip : Chip) (s : List ℕ) (room : ℕ) (ok : verdict chip s room ≡ Accepted) where
  -- before step i: IFPR is 0 exactly where all steps are done and the last clears it
  record Before (i : ℕ) (o : Options) : Type 0 where
    shut : IFPR o ≡ 0 → (i ≡ count s) × LastClears chip s
    shuts : i ≡ count s → LastClears chip s → IFPR o ≡ 0

  -- and after a play
  record After (e : Ended) : Type 0 where
    shut : IFPR e.options ≡ 0 → (e.report.status ≡ Byte 0x06) × LastClears chip s
    shuts : e.report.status ≡ Byte 0x06 → LastClears chip s → IFPR e.options ≡ 0

  module _ (i left : ℕ) (all : i + suc left ≡ count s) (o : Options) (m : Memory) (b : Before i o) where
    abbrev t : Step
    t = step_at chip s i

    abbrev d : Done
    d = step_meaning o s t m

    ifpr : IFPR o ≡ 1
    ifpr = ifpr_one o (λ z. omega (arith, (b.shut z).0, all))

    ends : t.kind ≡ Lock → clears t.flags ≡ true → i + 1 ≡ count s
    ends = (sound chip s room ok i (omega (arith, all))).ends

    here : i + 1 ≡ count s → LastClears chip s → (t.kind ≡ Lock) × (clears t.flags ≡ true)
    here e l =
        let same : l.last ≡ i = omega (arith, e, l.all) in
        (ap (λ (k : ℕ). (step_at chip s k).kind) (sym same) ∙ l.lock, ap (λ (k : ℕ). clears (step_at chip s k).flags) (sym same) ∙ l.clearing)

    last_is : IFPR (options_after t o) ≡ 0 → (i + 1 ≡ count s) × LastClears chip s
    last_is z =
        let k = shuts t o ifpr z in
        let e = ends k.0 k.1 in
        (e, record { last = i; all = e; lock = k.0; clearing = k.1 })

    next : Before (i + 1) (options_after t o)
    next = record { shut = last_is; shuts = λ e l. let k = here e l in clearing_shuts t o k.0 k.1 }

  after : (left i n : ℕ) (o : Options) (m : Memory) (sums : List ℕ) → i + left ≡ count s → Before i o → After (meaning_from chip s o m i n sums left)
  unfolding meaning_from
  after zero i n o m sums e b = record { shut = λ z. (refl, (b.shut z).1); shuts = λ _ l. b.shuts (omega (arith, e)) l }
  after (suc left) i n o m sums e b =
      go (eqb (step_meaning o s (step_at chip s i) m).status 0x06) refl
      (after left (i + 1) (n + (step_meaning o s (step_at chip s i) m).frames) (options_after (step_at chip s i) o) (step_meaning o s (step_at chip s i) m).memory (set sums i (step_meaning o s (step_at chip s i) m).sum) (omega (arith, e)) (next i left e o m b))
    where
      go : (x : Bool) → eqb (step_meaning o s (step_at chip s i) m).status 0x06 ≡ x
          → After (meaning_from chip s (options_after (step_at chip s i) o) (step_meaning o s (step_at chip s i) m).memory (i + 1) (n + (step_meaning o s (step_at chip s i) m).frames) (set sums i (step_meaning o s (step_at chip s i) m).sum) left)
          → After (meaning_from chip s o m i n sums (suc left))
      go true h later = rw h later
      go false h later =
          let bad = eqb-false _ 0x06 h in
          rw h
          (record {
            shut = λ z. absurd (bad (lock_done o s (step_at chip s i) m (shuts (step_at chip s i) o (ifpr i left e o m b) z).0));
            shuts = λ st _. absurd (bad (byte_same _ _ st));
          })

-- ---- the run ----

silent_not : Silent ≡ Command → ⊥
silent_not e = let z : ◌≡◌ {A = ℕ} 0 1 = cc in omega arith

is_silent_lem : (p : Phase) → is_silent p ≡ true → p ≡ Silent
is_silent_lem Mode e = absurd (false≢true e)
is_silent_lem Speed e = absurd (false≢true e)
is_silent_lem Ident e = absurd (false≢true e)
is_silent_lem Command e = absurd (false≢true e)
is_silent_lem Silent e = refl

-- a settled stand-in is Silent exactly where IFPR is 0
settled_silent : (chip : Chip) (x : State) → settled chip x ≡ true → IFPR x.options ≡ 0 → x.phase ≡ Silent
unfolding settled
settled_silent chip x e z = is_silent_lem x.phase (rw (ne_eqb (IFPR x.options) 1 (λ i. omega (arith, z, i))) at e)

silent_settled : (chip : Chip) (x : State) → settled chip x ≡ true → x.phase ≡ Silent → IFPR x.options ≡ 0
silent_settled chip x e p = go (eqb (IFPR x.options) 0) refl
  where
    go : (b : Bool) → eqb (IFPR x.options) 0 ≡ b → IFPR x.options ≡ 0
    go true h = eqb-true (IFPR x.options) 0 h
    go false h =
        let i = ifpr_one x.options (eqb-false (IFPR x.options) 0 h) in
        absurd (silent_not (sym p ∙ waiting_phase chip x (settled_waits chip x e i)))

-- THE LAW
pub silent_exactly : (chip : Chip) (s : List ℕ) (j : Joined) → j.player.stage ≡ New → verdict chip s (length j.sums) ≡ Accepted
    → waits chip j.state ≡ true → Fit chip j.state.memory → SilentExactly chip s (run clean chip s j)
unfolding meaning
silent_exactly chip s j new ok w fit =
    let c = known_run chip s j new ok w fit in
    let o = j.state.options in
    let i = waiting_open chip j.state w in
    let r = run clean chip s j in
    let none : Before chip s (length j.sums) ok 0 o =
    record { shut = λ z. absurd (omega (arith, z, i)); shuts = λ e l. absurd (omega (arith, e, l.all)) } in
    let a = after chip s (length j.sums) ok (count s) 0 0 o j.state.memory j.sums (omega arith) none in
    let options : r.reached.state.options ≡ (meaning chip s o j.state.memory j.sums).options = ap (λ (e : Ended). e.options) c.end in
    let status : (report_of r.reached.player).status ≡ (meaning chip s o j.state.memory j.sums).report.status =
    ap (λ (e : Ended). e.report.status) c.end in (
      λ p. let q = a.shut (ap IFPR (sym options) ∙ silent_settled chip r.reached.state c.settled p) in (status ∙ q.0, q.1),
      λ d l. settled_silent chip r.reached.state c.settled (ap IFPR options ∙ a.shuts (sym status ∙ d) l),
    )
