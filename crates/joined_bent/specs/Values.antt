-- 02, M-108: values. A play to a small chip that was opened, over a line that changes one byte of one answer. Assumes nothing.
use Rattle.std.specs.Prelude.{ℕ, ◌+◌, Bool, true, ◌&&◌, List, [], ◌∷◌, ◌++◌, map, replicate}
use Rattle.rules.specs.declared.Options.{Options}
use Rattle.rules.specs.Chip.{Memory, small}
use Rattle.rules.specs.Options.{fresh_options}
use Rattle.rules.specs.Sheet.{step_at}
use Rattle.rules.specs.Player.{report_of}
use Rattle.rules.specs.Run.{Joined, Ran, joined_at_start, run}
use Rattle.trials_rows.specs.Rows.{same_memory, L, reports, no_sums, opened, blank_flash, no_erase, filled, paged, entry}
use Rattle.joined_bent.specs.Bent.{bent, copied}

-- what is bent, and what it comes to: L1 behind so many finished steps, one frame more than answers before, so many pieces, and that flash
pub record Bend : Type 0 where
  pub options : Options
  pub memory : Memory
  pub sheet : List ℕ
  pub answer : ℕ
  pub place : ℕ
  pub by : ℕ
  pub steps : ℕ
  pub pieces : ℕ
  pub memory_after : Memory

-- a play about to begin, with a chip that was opened
abbrev pub begins : Options → Memory → Joined
begins o m = joined_at_start (opened small o m) (replicate 260 0) (replicate 16 0) no_sums

abbrev pub ran_bent : Bend → Ran
ran_bent t = run (bent t.answer t.place t.by) small t.sheet (begins t.options t.memory)

unfoldable pub bends : Bend → Bool
bends t =
    let ran = ran_bent t in
    ran.complete
    && reports (report_of ran.reached.player) (L 1) t.steps (t.answer + 1) t.pieces
    && same_memory ran.reached.state.memory t.memory_after

unfoldable pub all_bend : List Bend → Bool
all_bend [] = true
all_bend (t ∷ ts) = bends t && all_bend ts

abbrev bending : Options → Memory → List ℕ → ℕ → ℕ → ℕ → ℕ → ℕ → Memory → Bend
bending o m sheet answer place by steps pieces after =
    record {
      options = o;
      memory = m;
      sheet = sheet;
      answer = answer;
      place = place;
      by = by;
      steps = steps;
      pieces = pieces;
      memory_after = after;
    }

-- ---- a write of F1000h to F12FFh: three pages, A1h, A2h and A3h ----

unfoldable pub writing : List ℕ
writing = 0x01 ∷ 0x00 ∷ (entry 2 0x10 0x12 14 ++ (filled 0xA1 ++ (filled 0xA2 ++ filled 0xA3)))

-- its first so many pages copied
abbrev pub first_pages : ℕ → Memory → Memory
first_pages n m = copied writing (step_at small writing 0) n m

abbrev pub three_pages : Memory → Memory
three_pages m = paged 2 0xA3 (paged 1 0xA2 (paged 0 0xA1 m))

abbrev written : Memory → ℕ → ℕ → ℕ → ℕ → ℕ → Bend
written m answer place by pieces pages = bending fresh_options m writing answer place by 0 pieces (first_pages pages m)

-- the second page is used, and the third
abbrev used_two : Memory
used_two = paged 1 0x00 blank_flash

abbrev used_three : Memory
used_three = paged 2 0x00 blank_flash

-- a change in answer 0, 1, 2 and 3: at the end of each row the pieces, and the pages copied
unfoldable pub bent_writes : List Bend
bent_writes =
    written blank_flash 0 0 0x01 0 0
    ∷ written blank_flash 1 1 0xFF 0 1
    ∷ written blank_flash 2 4 0x80 0 2
    ∷ written blank_flash 3 5 0x01 1 3
    ∷ written used_two 0 2 0x0A 0 0
    ∷ written used_two 1 3 0x16 0 1
    ∷ written used_two 2 0 0xFF 0 1
    -- 1Ch becomes 06h
    ∷ written used_two 3 3 0xEA 1 1
    ∷ written used_three 0 4 0x14 0 0
    ∷ written used_three 1 5 0x14 0 1
    ∷ written used_three 2 2 0x01 0 2
    ∷ written used_three 3 3 0xEA 1 2
    ∷ []

-- ---- other steps ----

-- an erase, a verify of one page of FFh, and a sum, each from F1000h on
abbrev erasing : List ℕ
erasing = 0x01 ∷ 0x00 ∷ entry 1 0x10 0x11 14

abbrev verifying : List ℕ
verifying = 0x01 ∷ 0x00 ∷ (entry 3 0x10 0x10 14 ++ filled 0xFF)

abbrev summing : List ℕ
summing = 0x01 ∷ 0x00 ∷ entry 4 0x10 0x11 14

-- in form 2: a blank check, a lock, and an erase before a write of one page
abbrev form_two : ℕ → List ℕ → List ℕ
form_two steps more = 0xFE ∷ 0x02 ∷ 0x01 ∷ 0x00 ∷ steps ∷ 0x00 ∷ more

abbrev checking : List ℕ
checking = form_two 1 (entry 5 0x10 0x11 18)

abbrev pub locking : ℕ → ℕ → List ℕ
locking sf1 sf2 = form_two 1 (0x06 ∷ sf1 ∷ sf2 ∷ 0x00 ∷ 0x00 ∷ 0x00 ∷ 0x00 ∷ 0x00 ∷ 0x12 ∷ 0x00 ∷ 0x00 ∷ 0x00 ∷ [])

abbrev two_steps : List ℕ
two_steps = form_two 2 (entry 1 0x10 0x10 30 ++ (entry 2 0x10 0x10 30 ++ filled 0xA5))

abbrev used : Memory
used = paged 0 0x00 (paged 1 0x00 blank_flash)

unfoldable pub bent_others : List Bend
bent_others =
    -- the second block's answer: both are erased, and one is sure
    bending fresh_options used erasing 1 2 0x0A 0 1 blank_flash
    -- 10h of a protected block becomes 06h
    ∷ bending no_erase used erasing 0 2 0xF6 0 0 used
    -- 0Fh of a difference becomes 06h
    ∷ bending fresh_options used verifying 1 3 0xF7 0 0 used
    -- 1Bh of a blank check becomes 06h
    ∷ bending fresh_options used checking 0 2 0xEB 0 0 used
    -- a lock that leaves IFPR 1
    ∷ bending fresh_options used (locking 0xFB 0xFF) 0 4 0x14 0 0 used
    -- behind an erase, the page's answer of a write
    ∷ bending fresh_options used two_steps 2 2 0x01 1 0 (paged 0 0xA5 used)
    ∷ []

-- any of the eleven bytes of a sum's answer
unfoldable pub bent_sums : List Bend
bent_sums =
    map (λ place. bending fresh_options used summing 0 place 0x01 0 0 used) (0 ∷ 1 ∷ 2 ∷ 3 ∷ 4 ∷ 5 ∷ 6 ∷ 7 ∷ 8 ∷ 9 ∷ 10 ∷ [])
