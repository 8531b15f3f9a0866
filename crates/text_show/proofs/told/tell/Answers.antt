-- `text_show::told::tell` meets its contract: the form, and what the verdict says. Assumes nothing.
use native.Mathlib.Omega.{arith}
use Rattle.text_out.specs.Out.{Filled}
use Rattle.text_out.proofs.Appended.{add_append, filled}
use Rattle.text_show.specs.Show.{show_text}
use Rattle.text_show.proofs.Room.{show_fits}
use Rattle.text_show.proofs.told.tell.Goals as goal

pub returns : goal.returns
unfolding show_text
returns c =
    let f : Filled (show_text c.args.sheet.now) c.args.text.now c.put_judged.result c.put_judged.new.buf =
    filled _ _ _ _ (simp add_append (rw (c.put_judged.ensures, c.put_form-at.ensures, c.sheet_verdict-verdict.ensures))) in
    record { filled = f; text_after = λ room. f.2 (omega (arith, show_fits c.args.sheet.now, room)) }
