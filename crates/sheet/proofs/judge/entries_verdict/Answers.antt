-- `sheet::judge::entries_verdict` meets its contract: the entries that are left judge the sheet. Assumes nothing.
use mathlib.Core.Path.{◌≡◌, refl, sym, ap, ◌∙◌}
use mathlib.Core.List.{[]}
use Prim.Native.Nat.{ℕ, ◌+◌, ◌-◌, ◌<◌}
use native.Mathlib.Omega.{arith}
use Rattle.std.specs.Prelude.{Ok}
use Rattle.std.proofs.lemmas.Result.{err_from_is_err_and}
use Rattle.rules.specs.Sheet.{count, body_end, offset_due, entries_verdict}
use Rattle.sheet.specs.Entry.{ended}
use Rattle.sheet.proofs.Entries.{none_left, one_refused, one_accepted}
use Rattle.sheet.proofs.Fields.{says, due_first, due_later}
use Rattle.sheet.proofs.judge.entries_verdict.Goals as goal

pub loop-i-init : goal.loop-i-init
loop-i-init c =
    let a = c.args in
    record {
      rest = ap (entries_verdict a.chip a.sheet.bytes.now 0) (omega arith);
      due = c.table_end-due.ensures ∙ sym (due_first a.sheet.bytes.now 0 refl);
    }

pub entry_verdict-requires-clause-entry_value : goal.entry_verdict-requires-clause-entry_value
entry_verdict-requires-clause-entry_value c =
    let there : c.loop-i.i < count c.args.sheet.bytes.now = omega (arith, c.entries-bytes-items.ensures.0) in
    (there, c.whole_entry-e.ensures ∙ c.entries-bytes-items.ensures.1 c.loop-i.i [] there)

pub entry_verdict-requires-clause-due_value : goal.entry_verdict-requires-clause-due_value
entry_verdict-requires-clause-due_value c = c.loop-i.invariant.due

pub returns-in_err-entry_verdict : goal.returns-in_err-entry_verdict
unfolding ended
returns-in_err-entry_verdict c =
    let s = c.args.sheet.bytes.now in
    let l = c.loop-i in
    let n = count s in
    let p = err_from_is_err_and c.from_residual.result c.from_residual.ensures.1 in
    rw (p.1, p.2, l.invariant.rest ∙ one_refused c.args.chip s l.i (n - l.i) (n - (l.i + 1)) (omega (arith, c.entries-bytes-items.ensures.0)) _ (sym c.in_err-entry_verdict.ensures))

pub loop-i-preserved : goal.loop-i-preserved
loop-i-preserved c =
    let s = c.args.sheet.bytes.now in
    let l = c.loop-i in
    let n = count s in
    let there : l.i < n = omega (arith, c.entries-bytes-items.ensures.0) in
    let e = says s l.i _ (c.whole_entry-e.ensures ∙ c.entries-bytes-items.ensures.1 l.i [] there) in
    let z : l.i ≡ l.i + 1 - 1 = omega arith in
    record {
      rest = l.invariant.rest ∙ one_accepted c.args.chip s l.i (n - l.i) (n - (l.i + 1)) (omega arith) (sym c.in_ok-entry_verdict.ensures);
      due = c.body_end-due.ensures ∙ e.end ∙ ap (body_end s) z ∙ sym (due_later s (l.i + 1) (λ z. omega arith));
    }

pub returns : goal.returns
unfolding ended
returns c =
    let s = c.args.sheet.bytes.now in
    let l = c.loop-i in
    let last : l.i ≡ count s = omega (arith, c.entries-bytes-items.ensures.0) in
    rw (l.invariant.rest ∙ none_left c.args.chip s l.i (count s - l.i) (omega arith)) (ap (λ (m : ℕ). Ok m) (l.invariant.due ∙ ap (offset_due s) last))
