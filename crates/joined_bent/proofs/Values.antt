-- The values of M-108, by computing them. Assumes nothing.
use mathlib.Core.Path.{◌≡◌, refl}
use mathlib.Core.Bool.{true}
use mathlib.Core.List.{[]}
use Rattle.rules.specs.Chip.{small}
use Rattle.rules.specs.Options.{fresh_options}
use Rattle.rules.specs.Compute.{everything}
use Rattle.trials_rows.specs.Rows.{blank_flash}
use Rattle.joined_bent.specs.Bent.{after, answer_to, copied}
use Rattle.joined_bent.specs.Values.{begins, bends, all_bend, writing, first_pages, three_pages, locking, bent_writes, bent_others, bent_sums}

pub bent_writes_lem : all_bend bent_writes ≡ true
unfolding everything copied bends all_bend writing bent_writes
bent_writes_lem = refl

pub bent_others_lem : all_bend bent_others ≡ true
unfolding everything bends all_bend bent_others
bent_others_lem = refl

pub bent_sums_lem : all_bend bent_sums ≡ true
unfolding everything bends all_bend bent_sums
bent_sums_lem = refl

-- the pages copied are the step's, in its order
pub three_copied : first_pages 3 blank_flash ≡ three_pages blank_flash
unfolding everything copied writing
three_copied = refl

-- a lock that clears IFPR gets no answer, so no byte of it can be bent
pub no_answer : answer_to small (locking 0xFF 0xFB) (begins fresh_options blank_flash) 0 ≡ []
unfolding everything after answer_to
no_answer = refl
