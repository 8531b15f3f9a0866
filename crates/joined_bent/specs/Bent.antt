-- 02, M-108: "if the line changes exactly one byte of one answer, and is otherwise clean, the player reports L1, never 06h; and .. a stopped write
-- step leaves flash as if just its first m pages had been copied, m being at least the pieces reported and at most two more". What is said: of
-- the line, of a run over it, and from a power-on. Assumes nothing.
use Rattle.std.specs.Prelude.{ℕ, zero, suc, ◌+◌, ◌%◌, ◌<◌, ◌≤◌, ◌≡◌, true, cond, List, eqb, length, set}
use Rattle.rules.specs.declared.Chip.{Chip}
use Rattle.rules.specs.declared.Kind.TheVariants.{Write}
use Rattle.rules.specs.declared.Options.{Options}
use Rattle.rules.specs.declared.Stage.TheVariants.{New, Over}
use Rattle.rules.specs.declared.Status.TheVariants.{L1}
use Rattle.rules.specs.declared.Step.{Step}
use Rattle.rules.specs.Answers.{Accepted}
use Rattle.rules.specs.Chip.{Memory, byte_at, ident_of, first_page, put_page}
use Rattle.rules.specs.Options.{IFPR}
use Rattle.rules.specs.StandIn.{powered, feed}
use Rattle.rules.specs.Sheet.{count, verdict, step_at, step_pages, body_page}
use Rattle.rules.specs.Meaning.{meaning_from}
use Rattle.rules.specs.Player.{emitted, report_of}
use Rattle.rules.specs.Run.{Line, clean, Joined, joined_at_start, taken_in, turned, Ran, run, waits}
use Rattle.standin.specs.Opening.{opening_bytes}
use Rattle.player_laws.specs.Bytes.{Bytes}
use Rattle.joined_laws.specs.Hears.{hears}
use Rattle.joined_laws.specs.Turns.{Fit}

-- ---- the line ----

-- a byte moved on by d, 255 being followed by 0
abbrev pub moved : ℕ → ℕ → ℕ
moved byte d = (byte + d) % 256

-- byte i of an answer moved on by d, and no other
abbrev pub changed : ℕ → ℕ → List ℕ → List ℕ
changed i d answer = set answer i (moved (byte_at answer i) d)

-- THE LINE: byte i of answer k is moved on by d, and every other answer comes through as it is
abbrev pub bent : ℕ → ℕ → ℕ → Line
bent k i d n answer = cond (eqb n k) (changed i d answer) answer

-- d from 1 to 255
pub record Change (d : ℕ) : Type 0 where
  pub low : 1 ≤ d
  pub high : d ≤ 255

-- one byte value becomes another by exactly one d
pub record ByOne (a b : ℕ) : Type 0 where
  pub d : ℕ
  pub change : Change d
  pub makes : moved a d ≡ b
  pub only : (x : ℕ) → Change x → moved a x ≡ b → x ≡ d

-- EVERY CHANGE of a byte to another byte value is exactly one such d; and such a d makes another byte value of every byte
abbrev pub EveryChange : Type 0
EveryChange =
    ((a b : ℕ) → a < 256 → b < 256 → (a ≡ b → ⊥) → ByOne a b)
    × ((a d : ℕ) → a < 256 → Change d → (moved a d < 256) × (moved a d ≡ a → ⊥))

-- and so every answer of bytes that differs from another in byte i alone is that one with byte i moved on
abbrev pub EveryOther : Type 0
EveryOther =
    (answer other : List ℕ) (i : ℕ)
    → Bytes answer
    → Bytes other
    → length other ≡ length answer
    → (byte_at answer i ≡ byte_at other i → ⊥)
    → ((j : ℕ) → (j ≡ i → ⊥) → byte_at other j ≡ byte_at answer j)
    → (d : ℕ) × Change d × (changed i d answer ≡ other)

-- NOTHING ELSE is touched: no other answer, no other byte of this one, and none is lost or added
pub record OnlyThere (k i d : ℕ) : Type 0 where
  pub others : (n : ℕ) (answer : List ℕ) → (n ≡ k → ⊥) → bent k i d n answer ≡ answer
  pub there : (answer : List ℕ) → i < length answer → byte_at (bent k i d k answer) i ≡ moved (byte_at answer i) d
  pub beside : (answer : List ℕ) (j : ℕ) → (j ≡ i → ⊥) → byte_at (bent k i d k answer) j ≡ byte_at answer j
  pub long : (n : ℕ) (answer : List ℕ) → length (bent k i d n answer) ≡ length answer

abbrev pub NothingElse : Type 0
NothingElse = (k i d : ℕ) → OnlyThere k i d

-- ---- the answers of a play ----

-- a play over a clean line, behind its first n frames and their answers
unfoldable pub after : Chip → List ℕ → Joined → ℕ → Joined
after chip s j zero = taken_in chip s j
after chip s j (suc n) = turned clean chip s n (after chip s j n)

-- answer k: all bytes given to frame k; where no frame is sent any more, none
unfoldable pub answer_to : Chip → List ℕ → Joined → ℕ → List ℕ
answer_to chip s j k =
    let there = after chip s j k in
    (hears chip there.state (emitted chip s there.player).bytes).answer

-- ---- flash ----

-- the flash that the first n steps leave: the meaning of the sheet, of so many steps
unfoldable pub sure : Chip → List ℕ → Joined → ℕ → Memory
sure chip s j n = (meaning_from chip s j.state.options j.state.memory 0 0 j.sums n).memory

-- "as if just its first m pages had been copied"
unfoldable pub copied : List ℕ → Step → ℕ → Memory → Memory
copied s t zero m = m
copied s t (suc n) m =
    let f = t.flash in
    let before = copied s t n m in
    put_page before f (first_page f t.first + n) (body_page s t n)

-- "m being at least the pieces reported and at most two more"; they are pages of that step
pub record Copies (s : List ℕ) (t : Step) (before m : Memory) (pieces : ℕ) : Type 0 where
  pub pages : ℕ
  pub least : pieces ≤ pages
  pub most : pages ≤ pieces + 2
  pub there : pages ≤ step_pages t
  pub flash : m ≡ copied s t pages before

-- ---- what is said ----

-- STOPPED BY ANSWER K: the run ends with L1 and k + 1 frames, in a step of the sheet; and if that is a write, flash is as said
pub record StoppedAt (chip : Chip) (s : List ℕ) (j : Joined) (k : ℕ) (r : Ran) : Type 0 where
  pub complete : r.complete ≡ true
  pub over : r.reached.player.stage ≡ Over
  pub status : (report_of r.reached.player).status ≡ L1
  pub frames : (report_of r.reached.player).frames ≡ k + 1
  pub steps : (report_of r.reached.player).steps ≡ (after chip s j k).player.step
  pub inside : (report_of r.reached.player).steps < count s
  pub write : let report = report_of r.reached.player in
      (step_at chip s report.steps).kind ≡ Write
      → Copies s (step_at chip s report.steps) (sure chip s j report.steps) r.reached.state.memory report.pieces

-- of any byte of any answer, by any change
abbrev pub StopsAlways : Chip → List ℕ → Joined → Type 0
StopsAlways chip s j =
    (k i d : ℕ)
    → i < length (answer_to chip s j k)
    → Change d
    → StoppedAt chip s j k (run (bent k i d) chip s j)

-- ONE BAD BYTE, by the premise of demand 3: a new player, a sheet accepted for the chip, a stand-in that waits, flashes of the chip's lengths
abbrev pub OneBadByte : Type 0
OneBadByte =
    (chip : Chip) (s : List ℕ) (j : Joined)
    → j.player.stage ≡ New
    → verdict chip s (length j.sums) ≡ Accepted
    → waits chip j.state ≡ true
    → Fit chip j.state.memory
    → StopsAlways chip s j

-- and so from a power-on: by any bytes after which the stand-in waits, and by the opening where IFPR is 1
abbrev pub OneBadByteFromPowerOn : Type 0
OneBadByteFromPowerOn =
    (chip : Chip) (o : Options) (m : Memory)
    → Fit chip m
    → (s frame reply sums : List ℕ)
    → verdict chip s (length sums) ≡ Accepted
    → ((bytes : List ℕ)
    → let there = (feed chip (powered o m) bytes).state in waits chip there ≡ true
    → StopsAlways chip s (joined_at_start there frame reply sums))
    × ((IFPR o ≡ 0 → ⊥)
    → StopsAlways chip s (joined_at_start (feed chip (powered o m) (opening_bytes o (ident_of m))).state frame reply sums))
