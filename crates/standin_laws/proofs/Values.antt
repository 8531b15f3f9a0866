-- The values of M-113, by computing them; and so every column of every row is an equation. Assumes nothing.
use mathlib.Core.Path.{◌≡◌, refl}
use mathlib.Core.Bool.{true}
use Rattle.rules.specs.Compute.{everything}
use Rattle.trials_rows.specs.Rows.{comes_last, state_after, exchanged, holds, all_hold, ask_ident}
use Rattle.trials_rows.proofs.Rows.{All, Held, all_held}
use Rattle.standin_laws.specs.BeforeIdent.{Twins}
use Rattle.standin_laws.specs.Values.{empty, full, ident_sessions}

pub ident_sessions_lem : all_hold ident_sessions ≡ true
unfolding everything comes_last state_after exchanged holds all_hold ident_sessions
ident_sessions_lem = refl

pub ident_sessions_say : All Held ident_sessions
ident_sessions_say = all_held ident_sessions ident_sessions_lem

-- of these two the statement speaks
pub values_twins : Twins ask_ident empty full
values_twins = record { asked = refl; ident = refl }
