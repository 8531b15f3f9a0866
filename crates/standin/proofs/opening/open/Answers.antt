-- `standin::opening::open` meets its contract: refused before a byte is sent, or fed with room for all answers. Assumes nothing.
use mathlib.Core.Path.{◌≡◌, refl, sym, ap, ◌∙◌}
use Prim.Native.Nat.{ℕ, ◌≤◌}
use native.Mathlib.Omega.{arith}
use lib.ListN.{length, take}
use lib.Seq.{length-take-le, take-length}
use Rattle.rules.specs.declared.Refusal.{Refusal}
use Rattle.rules.specs.Answers.{Verdict, Accepted, Refused}
use Rattle.rules.specs.Numbers.{verdict_number}
use Rattle.chip_finder.specs.LentFlashes.{memory}
use Rattle.standin_engine.specs.View.{view}
use Rattle.standin_engine.proofs.Stays.{letter}
use Rattle.standin.specs.Opening.{opening_bytes}
use Rattle.standin.proofs.FeedingAdvances.{numbered}
use Rattle.standin.proofs.Opens.{with_ident_lem, without_ident, opening_refused, opening_came, opening_roomy}
use borrow.Author.Rules.{rules}
use Rattle.standin.proofs.opening.open.Goals as goal
use Rattle.standin.proofs.opening.open.Goals.{then-iden-eq0, else-iden-eq0}

-- a verdict does not both accept and refuse
apart : (x : Verdict) (n : Refusal) → x ≡ Accepted → x ≡ Refused n → ⊥
apart x n e f = letter n (ap (λ (y : Verdict). (verdict_number y).letter) (sym f ∙ e))

pub returns-in-Err : goal.returns-in-Err
returns-in-Err c =
    let a = c.args in
    let e = numbered _ _
    (opening_refused a.chip (view a.c a.held.now (memory a.code.now a.«data».now)) a.answers.now a.id.now _ (sym c.in-Err.ensures)) in record {
      answers_after = e.0;
      call_value = e.1;
      stands = λ refused. refl;
      stands_2 = λ refused. refl;
      call_value_2 = λ ok. absurd (apart _ _ ok (sym c.in-Err.ensures));
    }

pub returns : goal.returns
returns c =
    let f = c.feed in
    let a = c.args in
    let b = c.all_bytes-bytes in
    let n = c.if-iden-eq0.sent in
    let ok = sym c.in_default.ensures in
    let long : length b.result ≡ 23 = search rules in
    let v = view a.c a.held.now (memory a.code.now a.«data».now) in
    let sent : (take n b.result ≡ opening_bytes a.c.options a.id.now) × (n ≤ 23) =
    elim c.if-iden-eq0.branch [
      | then-iden-eq0 w ↦ (
        ap (λ (k : ℕ). take k b.result) (w.sent-is ∙ sym long)
            ∙ take-length b.result
            ∙ with_ident_lem a.c.options a.id.now _ b.ensures (sym c.iden.ensures ∙ w.if-iden-eq0.true),
        omega (arith, w.sent-is),
      )
      | else-iden-eq0 w ↦ (
        ap (λ (k : ℕ). take k b.result) w.sent-is
            ∙ without_ident a.c.options a.id.now _ b.ensures (λ z. w.if-iden-eq0.false (c.iden.ensures ∙ z)),
        omega (arith, w.sent-is),
      )
    ] in
    let e = numbered _ _ (opening_came a.chip v a.answers.now a.id.now _ sent.0 ok _ f.ensures.answers_after) in
    let well = f.ensures.call_value_2 (opening_roomy a.chip v a.answers.now a.id.now (take n b.result) ok (omega (arith, sent.1, length-take-le n b.result (omega (arith, long, sent.1))))) in record {
      answers_after = e.0;
      call_value = e.1;
      stands = λ refused. absurd (refused well);
      stands_2 = λ refused. absurd (refused well);
      call_value_2 = λ accepted. well;
    }
