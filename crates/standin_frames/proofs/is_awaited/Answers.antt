-- `standin_frames::is_awaited` meets its contract: each test is one of the definition's. Assumes nothing.
use mathlib.Core.Path.{◌≡◌, sym, ap, ◌∙◌}
use mathlib.Core.Bool.{Bool, ◌&&◌}
use Prim.Native.Nat.{ℕ, ◌<◌, ◌≤◌}
use mathlib.Core.List.{List}
use native.Mathlib.Omega.{arith}
use lib.Dec.{eqb}
use lib.ListN.{length}
use Rattle.rules.specs.Chip.{byte_at}
use Rattle.rules.specs.Frame.{whole}
use Rattle.rules.specs.StandIn.{received, listening, start_of}
use Rattle.standin_engine.specs.View.{held_count}
use Rattle.standin_frames.proofs.Frames.{held_length, whole_size, by_tests, not_by_tests, last_test}
use Rattle.standin_frames.proofs.is_awaited.Goals as goal
use Rattle.standin_frames.proofs.is_awaited.Goals.{Joined-held_count-eq0, then-listens, else-listens, then-held_count-eq0, else-held_count-eq0}

-- how many bytes are held, as the code counted them
counted : (have n : ℕ) (held : List ℕ) → (n ≡ held_count have held) × (n < 260) → length held ≡ 260 → n ≡ length (received have held)
counted have n held e l =
    let room : held_count have held ≤ length held = omega (arith, e.0, e.1, l) in
    sym (held_length have held room ∙ sym e.0)

-- the first three tests, one after the other
tested : (c : Joined-held_count-eq0)
    → c.if-held_count-eq0.value ≡ (listening c.args.c.phase && eqb (length (received c.args.c.have c.args.held.now)) 0 && whole c.args.input.now)
tested c =
    let a = c.args in
    let none = eqb (length (received a.c.have a.held.now)) 0 in
    let long : length a.held.now ≡ 260 = omega arith in
    let two : c.if-listens.value ≡ (listening a.c.phase && none) =
    elim c.if-listens.branch [
      | then-listens w ↦
          w.value-is
          ∙ ap (λ (k : ℕ). eqb k 0) (counted _ _ _ w.held_count.ensures long)
          ∙ ap (λ (t : Bool). t && none) (sym w.if-listens.true ∙ c.listens.ensures)
      | else-listens w ↦ w.value-is ∙ w.if-listens.false ∙ ap (λ (t : Bool). t && none) (sym w.if-listens.false ∙ c.listens.ensures)
    ] in
    elim c.if-held_count-eq0.branch [
      | then-held_count-eq0 w ↦ w.value-is ∙ w.is_whole.ensures.0 ∙ ap (λ (t : Bool). t && whole a.input.now) (sym w.if-held_count-eq0.true ∙ two)
      | else-held_count-eq0 w ↦ w.value-is ∙ w.if-held_count-eq0.false ∙ ap (λ (t : Bool). t && whole a.input.now) (sym w.if-held_count-eq0.false ∙ two)
    ]

pub bounds-input-0 : goal.bounds-input-0
bounds-input-0 c =
    let a = c.args in
    let w = last_test a.chip a.c.phase a.c.task (received a.c.have a.held.now) a.input.now (sym (tested (goal.at.bounds-input-0 c).Joined-held_count-eq0) ∙ c.if-is_whole.true) in
    omega (arith, (whole_size a.input.now w).0)

pub returns-then-is_whole-clause-value : goal.returns-then-is_whole-clause-value
returns-then-is_whole-clause-value c =
    ap (λ (k : ℕ). eqb (byte_at c.args.input.now 0) k) (c.start_of.ensures ∙ ap start_of c.task_now.ensures)
    ∙ by_tests _ _ _ _ _ (sym (tested (goal.at.returns-then-is_whole-clause-value c).Joined-held_count-eq0) ∙ c.if-is_whole.true)

pub returns-else-is_whole-clause-value : goal.returns-else-is_whole-clause-value
returns-else-is_whole-clause-value c =
    c.if-is_whole.false
    ∙ not_by_tests _ _ _ _ _ (sym (tested (goal.at.returns-else-is_whole-clause-value c).Joined-held_count-eq0) ∙ c.if-is_whole.false)
