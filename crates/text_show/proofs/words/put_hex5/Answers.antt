-- `text_show::words::put_hex5` meets its contract: the first digit, and the four of the low word. Assumes nothing.
use Rattle.text_show.proofs.Lines.{address_put}
use Rattle.text_show.proofs.words.put_hex5.Goals as goal

pub returns : goal.returns
returns c =
    address_put c.args.n _ _ _ _ c.hex_digit-first.ensures c.put-at.ensures c.put_hex4.ensures
