-- The tables of HEX texts and of captures hold, by computing them; and so every column of every row is an equation. Assumes nothing.
use mathlib.Core.Path.{◌≡◌, refl}
use mathlib.Core.Bool.{true}
use Rattle.rules.specs.Compute.{everything}
use Rattle.trials_rows.proofs.Rows.{All}
use Rattle.trials_texts.specs.HexTexts.{makes, all_make, pairs_of, record_of, one_each, hex_texts, hex_blocks}
use Rattle.trials_texts.specs.Captures.{looks, all_look, row_text, line_text, captures}
use Rattle.trials_texts.proofs.HexTexts.{Makes, all_made}
use Rattle.trials_texts.proofs.Captures.{Looks, all_look_lem}

-- M-103: HEX texts and what comes of them
pub hex_trials : all_make hex_texts ≡ true
unfolding everything makes all_make pairs_of record_of one_each hex_texts
hex_trials = refl

pub hex_block_trials : all_make hex_blocks ≡ true
unfolding everything makes all_make pairs_of record_of one_each hex_blocks
hex_block_trials = refl

-- M-111: captures and the verdicts on them
pub capture_trials : all_look captures ≡ true
unfolding everything looks all_look row_text line_text captures
capture_trials = refl

-- ---- what the rows say ----

pub hex_say : All Makes hex_texts
hex_say = all_made hex_texts hex_trials

pub hex_blocks_say : All Makes hex_blocks
hex_blocks_say = all_made hex_blocks hex_block_trials

pub captures_say : All Looks captures
captures_say = all_look_lem captures capture_trials
