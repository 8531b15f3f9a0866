-- `frame_judge::judge_data` meets its contract: each return is the first check that applies. Assumes nothing.
use Rattle.std.proofs.Common.{◌≡◌, ℕ, Bool, Err, cond, not, eqb, List, [], ◌∷◌, ◌∙◌, rules, eq-eqb, ne_eqb}
use Rattle.rules.specs.Faults.{Well, EndByte, Sum, Length}
use Rattle.rules.specs.First.{rule, first}
use Rattle.rules.specs.Frame.{len_of, end_of, end_due, sum_holds, data_fault}
use Rattle.frame_build.specs.Buffer.{frame_in}
use Rattle.frame_build.proofs.Frames.{data_in}
use Rattle.frame_judge.proofs.Checks.{and_then, ends_first}
use Rattle.frame_judge.proofs.judge_data.Goals as goal

-- the checks in their order, of the frame that a buffer holds
told : (last : Bool) (f : List ℕ) → data_fault last (frame_in f)
    ≡ and_then (cond (eqb (end_of f) (end_due last)) (cond (sum_holds f) Well Sum) EndByte) (cond (not (eqb (len_of f) 0x00)) (Length 0x00 (len_of f)) Well)
unfolding data_fault first
told last f = data_in f last ∙ ends_first (end_due last) f (rule (Length 0x00 (len_of f)) (not (eqb (len_of f) 0x00)) ∷ [])

pub returns-in_err-judge_ends : goal.returns-in_err-judge_ends
returns-in_err-judge_ends c =
    let r : c.from_residual.result ≡ Err c.in_err-judge_ends.field-0.0 = search rules in
    rw (r, told c.args.last c.args.frame.now, ← c.end_due.ensures, ← c.judge_ends.ensures, c.in_err-judge_ends.was)

pub returns-then-len-ne0 : goal.returns-then-len-ne0
returns-then-len-ne0 c =
    rw (told c.args.last c.args.frame.now, ← c.end_due.ensures, ← c.judge_ends.ensures, c.in_ok-judge_ends.was, ne_eqb _ _ c.if-len-ne0.true)

pub returns : goal.returns
returns c =
    rw (told c.args.last c.args.frame.now, ← c.end_due.ensures, ← c.judge_ends.ensures, c.in_ok-judge_ends.was, eq-eqb _ _ c.if-len-ne0.false)
