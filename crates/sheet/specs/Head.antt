-- The head of a sheet, as it is read once. Assumes nothing.
use Rattle.std.specs.Prelude.{ℕ, Bool, cond, List}
use Rattle.rules.specs.Sheet.{form_two, Form, two, one, head_size, count}
use Rattle.sheet.specs.declared.table.Head.{Head}

abbrev pub head_in : List ℕ → Head
head_in s = record { two = form_two s; size = head_size s; count = count s }

-- `form`, by whether it is form 2
abbrev pub form_of : Bool → Form
form_of b = cond b two one
