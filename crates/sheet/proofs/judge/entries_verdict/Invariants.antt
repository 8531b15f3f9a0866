-- `sheet::judge::entries_verdict` meets its contract: the entries that are left judge the sheet. Assumes nothing.
use mathlib.Core.Path.{◌≡◌}
use Prim.Native.Nat.{◌-◌}
use Rattle.rules.specs.Sheet.{count, offset_due, entries_verdict}
use Rattle.sheet.proofs.judge.entries_verdict.Given as goal

abbrev pub invariant-loop-i : goal.invariant-loop-i
invariant-loop-i l =
    record {
      rest : entries_verdict l.chip l.sheet.bytes.now 0 (count l.sheet.bytes.now) ≡ entries_verdict l.chip l.sheet.bytes.now l.i (count l.sheet.bytes.now - l.i);
      due : l.due ≡ offset_due l.sheet.bytes.now l.i;
    }
