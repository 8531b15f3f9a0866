-- The tables of trials hold, by computing them; and so every column of every row is an equation. Assumes nothing.
use mathlib.Core.Path.{◌≡◌, refl}
use mathlib.Core.Bool.{true}
use Rattle.rules.specs.Compute.{everything}
use Rattle.trials_rows.specs.Rows.{comes_last, state_after, exchanged, holds, all_hold, plays, all_play, lends, all_lend, calls, all_call}
use Rattle.trials_frames.specs.Starred.{starred}
use Rattle.trials_frames.specs.Trials.{further, sheets, lengths, player_calls}
use Rattle.trials_rows.proofs.Rows.{All, Held, all_held, Played, all_played_lem, Lent, all_lent, Answers, all_answer}
use Rattle.trials_frames.proofs.WholeFrames.{Hands, all_hand_lem}
use Rattle.rules.specs.Texts.{printed}
use Rattle.trials_frames.specs.Texts.{all_print, texts}
use Rattle.trials_frames.specs.Blank.{blank_checks}
use Rattle.trials_frames.specs.BadFrames.{bad_frames}
use Rattle.trials_frames.specs.WholeFrames.{hands, all_hand, whole_frames}
use Rattle.trials_frames.specs.Chips.{chip_lengths, chip_sessions, chip_sheets}
use Rattle.trials_frames.specs.Twice.{entries_laid, bodies_laid, twice_sheets, once_plays}
use Rattle.trials_frames.specs.Forms.{form_sheets, form_plays, form_calls, moves, all_move, form_moves}

-- THE STARRED TRIALS, 1 to 12
pub starred_trials : all_hold starred ≡ true
unfolding everything comes_last state_after exchanged holds all_hold starred
starred_trials = refl

-- further sessions, trials 13 and 14 and every status byte among them
pub further_sessions : all_hold further ≡ true
unfolding everything comes_last state_after exchanged holds all_hold further
further_sessions = refl

-- sheets, trials 15 and 16 among them
pub sheet_trials : all_play sheets ≡ true
unfolding everything plays all_play sheets
sheet_trials = refl

-- single calls: the refusals D, and the player's
pub length_trials : all_lend lengths ≡ true
unfolding everything lends all_lend lengths
length_trials = refl

pub call_trials : all_call player_calls ≡ true
unfolding everything calls all_call player_calls
call_trials = refl

-- what is printed, trials 15 and 16 among them
pub text_trials : all_print texts ≡ true
unfolding everything all_print printed texts
text_trials = refl

-- M-105: both chips, and other counts
pub chip_lengths_lem : all_lend chip_lengths ≡ true
unfolding everything lends all_lend chip_lengths
chip_lengths_lem = refl

pub chip_sessions_lem : all_hold chip_sessions ≡ true
unfolding everything comes_last state_after exchanged holds all_hold chip_sessions
chip_sessions_lem = refl

pub chip_sheets_lem : all_play chip_sheets ≡ true
unfolding everything plays all_play chip_sheets
chip_sheets_lem = refl

-- M-106: form 2, the new kinds, and moves
pub form_sheets_lem : all_play form_sheets ≡ true
unfolding everything plays all_play form_sheets
form_sheets_lem = refl

pub form_plays_lem : all_play form_plays ≡ true
unfolding everything plays all_play form_plays
form_plays_lem = refl

pub form_calls_lem : all_call form_calls ≡ true
unfolding everything calls all_call form_calls
form_calls_lem = refl

pub form_moves_lem : all_move form_moves ≡ true
unfolding everything moves all_move entries_laid bodies_laid form_moves
form_moves_lem = refl

-- M-107: sheets that write a page twice, and sheets that do not
pub twice_sheets_lem : all_play twice_sheets ≡ true
unfolding everything plays all_play entries_laid bodies_laid twice_sheets
twice_sheets_lem = refl

pub once_plays_lem : all_play once_plays ≡ true
unfolding everything plays all_play entries_laid bodies_laid once_plays
once_plays_lem = refl

-- M-100: Blank Check, and the notes
pub blank_checks_lem : all_hold blank_checks ≡ true
unfolding everything comes_last state_after exchanged holds all_hold blank_checks
blank_checks_lem = refl

-- M-101: bad frames, and which fault the note names
pub bad_frames_lem : all_hold bad_frames ≡ true
unfolding everything comes_last state_after exchanged holds all_hold bad_frames
bad_frames_lem = refl

-- M-109: whole frames handed over
pub whole_frames_lem : all_hand whole_frames ≡ true
unfolding everything hands all_hand whole_frames
whole_frames_lem = refl

-- ---- what the rows say ----

pub starred_say : All Held starred
starred_say = all_held starred starred_trials

pub further_say : All Held further
further_say = all_held further further_sessions

pub sheets_say : All Played sheets
sheets_say = all_played_lem sheets sheet_trials

pub lengths_say : All Lent lengths
lengths_say = all_lent lengths length_trials

pub calls_say : All Answers player_calls
calls_say = all_answer player_calls call_trials

pub chip_lengths_say : All Lent chip_lengths
chip_lengths_say = all_lent chip_lengths chip_lengths_lem

pub chip_sessions_say : All Held chip_sessions
chip_sessions_say = all_held chip_sessions chip_sessions_lem

pub chip_sheets_say : All Played chip_sheets
chip_sheets_say = all_played_lem chip_sheets chip_sheets_lem

pub twice_say : All Played twice_sheets
twice_say = all_played_lem twice_sheets twice_sheets_lem

pub once_say : All Played once_plays
once_say = all_played_lem once_plays once_plays_lem

pub blank_checks_say : All Held blank_checks
blank_checks_say = all_held blank_checks blank_checks_lem

pub bad_frames_say : All Held bad_frames
bad_frames_say = all_held bad_frames bad_frames_lem

pub whole_frames_say : All Hands whole_frames
whole_frames_say = all_hand_lem whole_frames whole_frames_lem
