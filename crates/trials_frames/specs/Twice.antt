-- 02, M-107: sheets that write a page twice, and sheets that do not; what they come to by the definitions. Assumes nothing.
use Rattle.std.specs.Prelude.{ℕ, ◌+◌, ◌*◌, List, [], ◌∷◌, ◌++◌, length, drop}
use Rattle.rules.specs.declared.Options.{Options}
use Rattle.rules.specs.Chip.{Memory, small, large}
use Rattle.rules.specs.Options.{fresh_options}
use Rattle.trials_rows.specs.Rows.{plain, J, Play, refused_by, no_sums, unreached, blank_flash, no_erase, filled, paged, entry_in}

-- ---- sheets by their steps ----

-- a step: the high byte of its flash, its kind, the middle bytes of both addresses, its body
pub record Line : Type 0 where
  pub high : ℕ
  pub kind : ℕ
  pub from : ℕ
  pub upto : ℕ
  pub body : List ℕ

abbrev line : ℕ → ℕ → ℕ → ℕ → List ℕ → Line
line high kind from upto body = record { high = high; kind = kind; from = from; upto = upto; body = body }

unfoldable pub entries_laid : ℕ → List Line → List ℕ
entries_laid at [] = []
entries_laid at (l ∷ ls) = entry_in l.high l.kind l.from l.upto at ++ entries_laid (at + length l.body) ls

unfoldable pub bodies_laid : List Line → List ℕ
bodies_laid [] = []
bodies_laid (l ∷ ls) = l.body ++ bodies_laid ls

-- behind a head of so many bytes
abbrev laid : ℕ → ℕ → List Line → List ℕ
laid head n ls = entries_laid (head + 12 * n) ls ++ bodies_laid ls

-- a form 1 sheet of n steps, and one of form 2 for a chip
abbrev pub form_one : ℕ → List Line → List ℕ
form_one n ls = n ∷ 0x00 ∷ laid 2 n ls

abbrev pub form_two : ℕ → ℕ → List Line → List ℕ
form_two chip n ls = 0xFE ∷ 0x02 ∷ chip ∷ 0x00 ∷ n ∷ 0x00 ∷ laid 6 n ls

-- steps over data blocks, by the middle bytes of their addresses: writes and a verify of pages of one byte's copies, and the others
abbrev pub write : ℕ → ℕ → List Line
write a b = line 0x0F 2 a a (filled b) ∷ []

abbrev write_pair : ℕ → ℕ → List Line
write_pair a b = line 0x0F 2 a (a + 1) (filled b ++ filled b) ∷ []

abbrev erase : ℕ → ℕ → List Line
erase a z = line 0x0F 1 a z [] ∷ []

abbrev verify : ℕ → ℕ → List Line
verify a b = line 0x0F 3 a a (filled b) ∷ []

abbrev other : ℕ → ℕ → List Line
other kind a = line 0x0F kind a a [] ∷ []

-- code block 0: its eight pages
abbrev code_pages : ℕ → List ℕ
code_pages b = filled b ++ filled b ++ filled b ++ filled b ++ filled b ++ filled b ++ filled b ++ filled b

abbrev write_code : ℕ → List Line
write_code b = line 0x00 2 0x00 0x07 (code_pages b) ∷ []

abbrev erase_code : List Line
erase_code = line 0x00 1 0x00 0x07 [] ∷ []

-- ---- J13 ----

abbrev again : ℕ → List Line → Play
again n ls = refused_by small (form_one n ls) (J 13)

unfoldable pub twice_sheets : List Play
twice_sheets =
    -- the same page twice; also where the first body is all FFh
    again 2 (write 0x10 0xA5 ++ write 0x10 0x5A)
    ∷ again 2 (write 0x10 0xFF ++ write 0x10 0x5A)
    -- an erase only before, only after, of another block, of one of the two, of the other flash
    ∷ again 3 (erase 0x10 0x10 ++ write 0x10 0xA5 ++ write 0x10 0x5A)
    ∷ again 3 (write 0x10 0xA5 ++ write 0x10 0x5A ++ erase 0x10 0x10)
    ∷ again 3 (write 0x10 0xA5 ++ erase 0x11 0x17 ++ write 0x10 0x5A)
    ∷ again 3 (write_pair 0x10 0xA5 ++ erase 0x10 0x10 ++ write_pair 0x10 0x5A)
    ∷ again 3 (write_pair 0x10 0xA5 ++ erase 0x11 0x11 ++ write_pair 0x10 0x5A)
    ∷ again 3 (write 0x10 0xA5 ++ erase_code ++ write 0x10 0x5A)
    ∷ again 3 (write_code 0xA5 ++ erase 0x10 0x10 ++ write_code 0x5A)
    -- verify and sum between; in form 2 a blank check (a lock: Forms)
    ∷ again 3 (write 0x10 0xA5 ++ verify 0x10 0xA5 ++ write 0x10 0x5A)
    ∷ again 3 (write 0x10 0xA5 ++ other 4 0x10 ++ write 0x10 0x5A)
    ∷ refused_by small (form_two 1 3 (write 0x10 0xA5 ++ other 5 0x10 ++ write 0x10 0x5A)) (J 13)
    -- overlap at an end; the last blocks; another write between; an erase between the first two of three
    ∷ again 2 (write_pair 0x10 0xA5 ++ write_pair 0x11 0x5A)
    ∷ again 2 (write_pair 0x11 0xA5 ++ write_pair 0x10 0x5A)
    ∷ again 2 (write 0x17 0xA5 ++ write_pair 0x16 0x5A)
    ∷ again 3 (write 0x10 0xA5 ++ write 0x11 0x5A ++ write 0x10 0x5A)
    ∷ again 4 (write 0x10 0xA5 ++ erase 0x10 0x10 ++ write 0x10 0xA5 ++ write 0x10 0xA5)
    -- the large chip's last blocks
    ∷ refused_by large (form_two 2 2 (write 0x2F 0xA5 ++ write 0x2F 0x5A)) (J 13)
    ∷ refused_by large (form_two 2 2 (line 0x01 2 0xF8 0xFF (code_pages 0xA5) ∷ line 0x01 2 0xF8 0xFF (code_pages 0x5A) ∷ [])) (J 13)
    -- after J9, before J14 and J10
    ∷ refused_by small (form_one 2 (write 0x10 0xA5 ++ write 0x10 0x5A) ++ (0x00 ∷ [])) (J 9)
    ∷ refused_by large (form_one 2 (write 0x10 0xA5 ++ write 0x10 0x5A)) (J 13)
    ∷ refused_by small (form_two 2 2 (write 0x10 0xA5 ++ write 0x10 0x5A)) (J 13)
    ∷ again 5 (other 4 0x10 ++ other 4 0x10 ++ other 4 0x10 ++ write 0x10 0xA5 ++ write 0x10 0x5A)
    ∷ []

-- ---- sheets that write no page twice, played ----

abbrev playing : Options → List ℕ → ℕ → ℕ → ℕ → List ℕ → Memory → Play
playing o s status steps frames each after =
    record {
      chip = small;
      options = o;
      memory = blank_flash;
      sheet = s;
      verdict = plain 0;
      status = plain status;
      steps = steps;
      frames = frames;
      pieces = 0;
      sums = no_sums;
      each = each;
      options_after = o;
      memory_after = after;
    }

unfoldable pub once_plays : List Play
once_plays =
    -- an erase between, of the block alone and of more; two erases that together cover
    playing fresh_options (form_one 3 (write 0x10 0xA5 ++ erase 0x10 0x10 ++ write 0x10 0x5A)) 0x06 3 5 (2 ∷ 1 ∷ 2 ∷ unreached ∷ []) (paged 0 0x5A blank_flash)
    ∷ playing fresh_options (form_one 3 (write 0x11 0xA5 ++ erase 0x10 0x17 ++ write 0x11 0x5A)) 0x06 3 12 (2 ∷ 8 ∷ 2 ∷ unreached ∷ []) (paged 1 0x5A blank_flash)
    ∷ playing fresh_options (form_one 4 (write_pair 0x10 0xA5 ++ erase 0x11 0x11 ++ erase 0x10 0x10 ++ write_pair 0x10 0x5A)) 0x06 4 8 (3 ∷ 1 ∷ 1 ∷ 3 ∷ []) (paged 0 0x5A (paged 1 0x5A blank_flash))
    -- neighbours; code block 0 and data block 0
    ∷ playing fresh_options (form_one 2 (write 0x10 0xA5 ++ write 0x11 0x5A)) 0x06 2 4 (2 ∷ 2 ∷ unreached ∷ unreached ∷ []) (paged 0 0xA5 (paged 1 0x5A blank_flash))
    ∷ playing fresh_options (form_one 2 (write_code 0xA5 ++ write 0x10 0x5A)) 0x06 2 11 (9 ∷ 2 ∷ unreached ∷ unreached ∷ []) (record { code = code_pages 0xA5 ++ drop 2048 blank_flash.code; «data» = (paged 0 0x5A blank_flash).«data» })
    -- an erase counts by its range, also where it is refused in the play
    ∷ playing no_erase (form_one 3 (write 0x10 0xA5 ++ erase 0x10 0x10 ++ write 0x10 0x5A)) 0x10 1 3 (2 ∷ 1 ∷ unreached ∷ unreached ∷ []) (paged 0 0xA5 blank_flash)
    ∷ []
