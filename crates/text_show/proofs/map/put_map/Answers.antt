-- `text_show::map::put_map` meets its contract: the texts of the calls, one behind the other. Assumes nothing.
use Rattle.text_out.proofs.Appended.{add_append}
use Rattle.text_show.specs.Map.{map_text}
use Rattle.text_show.proofs.map.put_map.Goals as goal

pub returns : goal.returns
unfolding map_text
returns c =
    simp add_append (rw (c.put_row.ensures, c.put_code_rows-at.ensures, c.put_bytes-at.ensures, c.page_count-pages.ensures, c.page_count-rows.ensures))
