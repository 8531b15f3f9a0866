-- `text_hex::told::put_refusal` meets its contract: by its case. Assumes nothing.
use Rattle.rules.specs.declared.hex.HexRefusal.TheVariants.{BadForm, WrongSum, OtherType, Outside, Twice, AfterEnd, NoEnd, ManySteps, ManyBytes, ShortBuffer}
use Rattle.text_hex.specs.Told.{refusal_told}
use Rattle.text_hex.proofs.Refusals.{told_as}
use Rattle.text_hex.proofs.told.put_refusal.Goals as goal

pub returns-in-BadForm : goal.returns-in-BadForm
unfolding refusal_told
returns-in-BadForm c = told_as _ (BadForm c.in-BadForm.n) c.in-BadForm.is _ c.args.buf.now _ c.put_line.ensures

pub returns-in-WrongSum : goal.returns-in-WrongSum
unfolding refusal_told
returns-in-WrongSum c = told_as _ (WrongSum c.in-WrongSum.n) c.in-WrongSum.is _ c.args.buf.now _ c.put_line-in-WrongSum.ensures

pub returns-in-OtherType : goal.returns-in-OtherType
unfolding refusal_told
returns-in-OtherType c = told_as _ (OtherType c.in-OtherType.n) c.in-OtherType.is _ c.args.buf.now _ c.put_line-in-OtherType.ensures

pub returns-in-Outside : goal.returns-in-Outside
unfolding refusal_told
returns-in-Outside c = told_as _ (Outside c.in-Outside.n) c.in-Outside.is _ c.args.buf.now _ c.put_line-in-Outside.ensures

pub returns-in-Twice : goal.returns-in-Twice
unfolding refusal_told
returns-in-Twice c = told_as _ (Twice c.in-Twice.n) c.in-Twice.is _ c.args.buf.now _ c.put_line-in-Twice.ensures

pub returns-in-AfterEnd : goal.returns-in-AfterEnd
unfolding refusal_told
returns-in-AfterEnd c = told_as _ (AfterEnd c.in-AfterEnd.n) c.in-AfterEnd.is _ c.args.buf.now _ c.put_line-in-AfterEnd.ensures

pub returns-in-NoEnd : goal.returns-in-NoEnd
unfolding refusal_told
returns-in-NoEnd c = told_as _ NoEnd c.in-NoEnd.is _ c.args.buf.now _ c.put_bytes.ensures

pub returns-in-ManySteps : goal.returns-in-ManySteps
unfolding refusal_told
returns-in-ManySteps c = told_as _ ManySteps c.in-ManySteps.is _ c.args.buf.now _ c.put_bytes-in-ManySteps.ensures

pub returns-in-ManyBytes : goal.returns-in-ManyBytes
unfolding refusal_told
returns-in-ManyBytes c = told_as _ ManyBytes c.in-ManyBytes.is _ c.args.buf.now _ c.put_bytes-in-ManyBytes.ensures

pub returns-in-ShortBuffer : goal.returns-in-ShortBuffer
unfolding refusal_told
returns-in-ShortBuffer c = told_as _ ShortBuffer c.in-ShortBuffer.is _ c.args.buf.now _ c.put_bytes-in-ShortBuffer.ensures
