-- The two ways that a sheet can be moved, up and down. Assumes nothing.
use Rattle.std.specs.Prelude.{ℕ, ◌+◌, ◌-◌, Bool, true, false, cond, List}
use Rattle.rules.specs.Move.{up_closed, down_closed, moved_up, moved_down}
use Rattle.sheet_moves.specs.declared.way.Way.{Way}
use Rattle.sheet_moves.specs.declared.way.Way.TheVariants.{Up, Down}

abbrev pub is_up : Way → Bool
is_up Up = true
is_up Down = false

-- J15
abbrev pub closed : Way → List ℕ → Bool
closed Up s = up_closed s
closed Down s = down_closed s

-- the moved sheet
abbrev pub moved : Way → List ℕ → List ℕ
moved Up s = moved_up s
moved Down s = moved_down s

-- an offset counts the bytes of the head, and that of form 2 has four more
abbrev pub shifted : Bool → ℕ → ℕ
shifted up n = cond up (n + 4) (n - 4)
