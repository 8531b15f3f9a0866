-- `text_show::told::put_judged` meets its contract: by the verdict, which the match knows. Assumes nothing.
use Rattle.text_show.specs.Show.{judged_text}
use Rattle.text_show.proofs.told.put_judged.Goals as goal

pub returns-in-Ok : goal.returns-in-Ok
unfolding judged_text
returns-in-Ok c = rw c.in-Ok.is c.put_job.ensures

pub returns-in-Err : goal.returns-in-Err
unfolding judged_text
returns-in-Err c = rw c.in-Err.is c.put_refused.ensures
