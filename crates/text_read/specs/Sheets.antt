-- The sheet that lines put together in a buffer. Assumes nothing.
use Rattle.std.specs.Prelude.{ℕ, true, false, cond, List, drop}
use Rattle.rules.specs.Text.{ascii}
use Rattle.rules.specs.Lines.{starts_with, row_bytes}
use Rattle.text_read.specs.declared.in_hand.InHand.{InHand}
use Rattle.text_read.specs.Bytes.{Stored, stored}

-- the sheet in hand, and the buffer that holds it
pub record Held : Type 0 where
  pub hand : InHand
  pub bytes : List ℕ

abbrev pub no_sheet : InHand
no_sheet = record { growing = false; size = 0 }

-- where the bytes of the next line of a sheet go: behind those of a sheet that grows
unfoldable pub beginning : InHand → ℕ
beginning h = cond h.growing h.size 0

abbrev pub grown : Stored → Held
grown s = record { hand = record { growing = true; size = s.end }; bytes = s.bytes }

-- after a good line: `sheet HH HH ..` adds its bytes, or begins a new sheet; any other closes the sheet
unfoldable pub after_line : InHand → List ℕ → List ℕ → Held
after_line h l b =
    cond (starts_with (ascii "sheet") l)
    (grown (stored (beginning h) (row_bytes (drop 5 l)) b))
    (record { hand = record { growing = false; size = h.size }; bytes = b })
