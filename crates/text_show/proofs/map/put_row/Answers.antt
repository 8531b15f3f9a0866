-- `text_show::map::put_row` meets its contract: the texts of the calls, one behind the other. Assumes nothing.
use Rattle.text_out.proofs.Appended.{add_append}
use Rattle.text_show.specs.Map.{row_text}
use Rattle.text_show.proofs.map.put_row.Goals as goal

pub returns : goal.returns
unfolding row_text
returns c =
    simp add_append (rw (c.put.ensures, c.put_marks-at.ensures, c.put-at-2.ensures, c.put_hex5-at.ensures, c.put-at.ensures, c.put_flash-at.ensures, c.address_of-address.ensures))
