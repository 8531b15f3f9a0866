-- `text_show::refused::put_meaning` meets its contract: of a rule that is not a sheet's own nothing is told. Assumes nothing.
use Rattle.std.proofs.Common.{rules}
use Rattle.text_out.specs.Out.{add}
use Rattle.text_show.specs.Refused.{meaning}
use Rattle.text_show.proofs.refused.put_meaning.Goals as goal

pub returns-in_default : goal.returns-in_default
unfolding meaning add
returns-in_default c = search rules
