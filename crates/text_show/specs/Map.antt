-- A map of both flashes, a character a page: what the steps of a sheet do there. Assumes nothing.
use Rattle.std.specs.Prelude.{ℕ, zero, suc, ◌+◌, ◌*◌, ◌/◌, cond, List, [], ◌∷◌, ◌++◌, eqb}
use Rattle.rules.specs.declared.Chip.{Chip}
use Rattle.rules.specs.declared.Flash.{Flash}
use Rattle.rules.specs.declared.Flash.TheVariants.{Code, Data}
use Rattle.rules.specs.declared.Kind.{Kind}
use Rattle.rules.specs.declared.Kind.TheVariants.{Erase, Write, Verify, Sum, Blank, Lock}
use Rattle.rules.specs.Answers.{Blocks}
use Rattle.rules.specs.declared.Step.{Step}
use Rattle.rules.specs.Chip.{start, page_size, pages, block_of_page}
use Rattle.rules.specs.Sheet.{count, covers, step_at}
use Rattle.rules.specs.Text.{ascii, flash_text}
use Rattle.text_show.specs.Words.{hex5}

-- ---- the characters, by their ASCII codes ----

-- `.` no step touches the page
abbrev pub untouched : ℕ
untouched = 0x2E

-- `e` erased, `w` written: by the last step that changes it
abbrev pub erased : ℕ
erased = 0x65

abbrev pub filled : ℕ
filled = 0x77

-- `v` written, and verified behind that
abbrev pub verified : ℕ
verified = 0x76

-- `c` not changed, but looked at: verified, summed or blank checked
abbrev pub checked : ℕ
checked = 0x63

abbrev pub legend : List ℕ
legend = ascii ". untouched  e erased  w written  v written and verified  c checked only\n"

-- ---- a page ----

-- a look at a page leaves what is known of it
unfoldable pub looked_at : ℕ → ℕ
looked_at c = cond (eqb c untouched) checked c

-- a step of that kind that covers a page, of which c was told before. A lock covers none
unfoldable pub touched : Kind → ℕ → ℕ
touched Erase c = erased
touched Write c = filled
touched Verify c = cond (eqb c filled) verified (looked_at c)
touched Sum c = looked_at c
touched Blank c = looked_at c
touched Lock c = c

-- a step over block b of a flash
unfoldable pub mark_by : Step → Flash → ℕ → ℕ → ℕ
mark_by t f b c = cond (covers (Blocks t.flash t.first t.last) f b) (touched t.kind c) c

-- after so many steps
unfoldable pub mark_after : Chip → List ℕ → Flash → ℕ → ℕ → ℕ
mark_after chip s f b zero = untouched
mark_after chip s f b (suc i) = mark_by (step_at chip s i) f b (mark_after chip s f b i)

-- page k of a flash: steps cover whole blocks
abbrev pub page_mark : Chip → List ℕ → Flash → ℕ → ℕ
page_mark chip s f k = mark_after chip s f (block_of_page f k).0 (count s)

-- ---- rows ----

-- page k and those behind it, so many
unfoldable pub marks_from : Chip → List ℕ → Flash → ℕ → ℕ → List ℕ
marks_from chip s f k zero = []
marks_from chip s f k (suc left) = (page_mark chip s f k ∷ []) ++ marks_from chip s f (k + 1) left

-- `data F1000 eewv....`: so many pages from page k on, behind the address of the first
unfoldable pub row_text : Chip → List ℕ → Flash → ℕ → ℕ → List ℕ
row_text chip s f k n =
    flash_text f ++ ascii " " ++ hex5 (start f + k * page_size) ++ ascii " " ++ marks_from chip s f k n ++ ascii "\n"

-- a row of code flash has 64 pages, 16,384 bytes
abbrev pub row_pages : ℕ
row_pages = 64

unfoldable pub code_rows : Chip → List ℕ → ℕ → ℕ → List ℕ
code_rows chip s r zero = []
code_rows chip s r (suc left) = row_text chip s Code (r * row_pages) row_pages ++ code_rows chip s (r + 1) left

-- THE MAP: the legend, code flash row by row, and data flash in one row
unfoldable pub map_text : Chip → List ℕ → List ℕ
map_text chip s = legend ++ code_rows chip s 0 (pages chip Code / row_pages) ++ row_text chip s Data 0 (pages chip Data)
