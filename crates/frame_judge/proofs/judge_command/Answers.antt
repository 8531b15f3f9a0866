-- `frame_judge::judge_command` meets its contract: each return is the first check that applies. Assumes nothing.
use Rattle.std.proofs.Common.{◌≡◌, ◌∙◌, [], ◌∷◌, Err, ℕ, cond, not, eqb, List, refl, ap, rules, eq-eqb, ne_eqb}
use denote.Enum.Bare.{sameb}
use denote.Enum.Declared.{tag_of}
use Rattle.rules.specs.contracts.Phase.{the_type}
use Rattle.rules.specs.declared.Phase.{Phase}
use Rattle.rules.specs.declared.Phase.TheVariants as phase
use Rattle.rules.specs.Answers.{CodeRow}
use Rattle.rules.specs.Faults.{Fault, Well, EndByte, Sum, Code, Length}
use Rattle.rules.specs.First.{rule, first, first_fault}
use Rattle.rules.specs.Frame.{last_end, len_of, end_of, sum_holds}
use Rattle.rules.specs.Command.{rows, lookup, code_of, allowed, len_due, phase_number, frame_checks}
use Rattle.frame_build.specs.Buffer.{frame_in}
use Rattle.frame_build.proofs.Frames.{checks_in}
use Rattle.frame_judge.proofs.Checks.{and_then, ends_first}
use Rattle.frame_judge.proofs.judge_command.Goals as goal

-- rows 3 and 4, at the row of the table that the code has
abbrev coded : Phase → CodeRow → ℕ → Fault
coded p row len = cond (not (allowed p row)) Code (cond (not (eqb len (len_due row))) (Length (len_due row) len) Well)

-- the checks in their order, of the frame that a buffer holds
told : (p : Phase) (f : List ℕ) → first_fault (frame_checks p (frame_in f))
    ≡ and_then (cond (eqb (end_of f) last_end) (cond (sum_holds f) Well Sum) EndByte) (coded p (lookup rows (code_of f)) (len_of f))
unfolding frame_checks first
told p f =
    let row = lookup rows (code_of f) in
    ap first_fault (checks_in f p)
    ∙ ends_first last_end f (rule Code (not (allowed p row)) ∷ rule (Length (len_due row) (len_of f)) (not (eqb (len_of f) (len_due row))) ∷ [])

pub returns-in_err-judge_ends : goal.returns-in_err-judge_ends
returns-in_err-judge_ends c =
    let r : c.from_residual.result ≡ Err c.in_err-judge_ends.field-0.0 = search rules in
    rw (r, told c.args.phase c.args.frame.now, ← c.judge_ends.ensures, c.in_err-judge_ends.was)

pub returns-in_err-due : goal.returns-in_err-due
returns-in_err-due c =
    let r : c.from_residual-in_err-due.result ≡ Code = search rules in
    rw (r, told c.args.phase c.args.frame.now, ← c.judge_ends.ensures, c.in_ok-judge_ends.was, ← c.row_of.ensures, c.in_err-due.ensures.ok_part)

pub returns-then-number-phase_number : goal.returns-then-number-phase_number
returns-then-number-phase_number c =
    rw (told c.args.phase c.args.frame.now, ← c.judge_ends.ensures, c.in_ok-judge_ends.was, ← c.row_of.ensures, c.in_ok-due.ensures.ok_part, ← c.phase_number.ensures, ne_eqb _ _ c.if-number-phase_number.true)

pub returns-then-len-due : goal.returns-then-len-due
returns-then-len-due c =
    rw (told c.args.phase c.args.frame.now, ← c.judge_ends.ensures, c.in_ok-judge_ends.was, ← c.row_of.ensures, c.in_ok-due.ensures.ok_part, ← c.phase_number.ensures, eq-eqb _ _ c.if-number-phase_number.false, ne_eqb _ _ c.if-len-due.true)

pub returns : goal.returns
returns c =
    rw (told c.args.phase c.args.frame.now, ← c.judge_ends.ensures, c.in_ok-judge_ends.was, ← c.row_of.ensures, c.in_ok-due.ensures.ok_part, ← c.phase_number.ensures, eq-eqb _ _ c.if-number-phase_number.false, eq-eqb _ _ c.if-len-due.false)
