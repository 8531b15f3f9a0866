-- The values of M-110, by computing them; and so every column of every row is an equation. Assumes nothing.
use mathlib.Core.Path.{◌≡◌, refl}
use mathlib.Core.Bool.{true}
use Rattle.rules.specs.Compute.{everything}
use Rattle.trials_rows.specs.Rows.{comes_last, state_after, exchanged, holds, all_hold}
use Rattle.trials_rows.proofs.Rows.{All, Held, all_held}
use Rattle.joined_blocks.specs.Values.{sevens, block_sessions}

pub block_sessions_lem : all_hold block_sessions ≡ true
unfolding everything comes_last state_after exchanged holds all_hold sevens block_sessions
block_sessions_lem = refl

pub block_sessions_say : All Held block_sessions
block_sessions_say = all_held block_sessions block_sessions_lem
