-- 02, M-103, THE THEOREM of a HEX text, of the definitions: whatever text is accepted, the reader accepts its sheet, and meaning and run of that
-- sheet on an unprotected small chip leave the flashes programmed with the text's bytes. Assumes nothing.
use Rattle.std.specs.Prelude.{ℕ, ◌≤◌, ◌≡◌, true, List, length, take}
use Rattle.rules.specs.declared.Options.{Options}
use Rattle.rules.specs.declared.Stage.TheVariants.{New}
use Rattle.rules.specs.Answers.{Accepted, Sheet}
use Rattle.rules.specs.Chip.{Memory, small, ident_of}
use Rattle.rules.specs.Options.{IFPR}
use Rattle.rules.specs.Sheet.{count, verdict}
use Rattle.rules.specs.Meaning.{meaning}
use Rattle.rules.specs.StandIn.{feed, powered}
use Rattle.rules.specs.Hex.{no_cells, hex_read, hex_made}
use Rattle.rules.specs.Run.{Joined, joined_at_start, clean, run, waits}
use Rattle.standin.specs.Opening.{opening_bytes}
use Rattle.joined_laws.specs.Turns.{Fit}
use Rattle.hex_laws.specs.Programmed.{Unprotected, Finished, Runs}

-- the call answered a sheet of so many bytes
abbrev pub Accepts : List ℕ → List ℕ → ℕ → Type 0
Accepts text out n = (hex_made text out).made ≡ Sheet n

-- the sheet: so many bytes in front of the output buffer
abbrev pub made_sheet : List ℕ → List ℕ → ℕ → List ℕ
made_sheet text out n = take n (hex_made text out).out

-- the bytes that the text gives
abbrev pub cells_of : List ℕ → Memory
cells_of text = (hex_read text no_cells).cells

-- THE SHEET IS ACCEPTED: room for sums is all that is asked
abbrev pub HexAccepted : Type 0
HexAccepted =
    (text out : List ℕ) (n : ℕ) → Accepts text out n → let s = made_sheet text out n in
    (room : ℕ) → count s ≤ room → verdict small s room ≡ Accepted

-- ITS MEANING
abbrev pub HexMeans : Type 0
HexMeans =
    (text out : List ℕ) (n : ℕ) → Accepts text out n → let s = made_sheet text out n in
    (o : Options) → Unprotected o → (m : Memory) → Fit small m → (sums : List ℕ)
    → Finished s (cells_of text) o m (meaning small s o m sums)

-- ITS RUN, by a new player with a stand-in that waits
abbrev pub HexRuns : Type 0
HexRuns =
    (text out : List ℕ) (n : ℕ) → Accepts text out n → let s = made_sheet text out n in
    (j : Joined) → j.player.stage ≡ New → waits small j.state ≡ true → Fit small j.state.memory → Unprotected j.state.options
    → count s ≤ length j.sums
    → Runs s (cells_of text) j.state.options j.state.memory (run clean small s j)

-- FROM A POWER-ON: by the opening with the flash's own ID, where IFPR is 1
abbrev pub HexRunsOpened : Type 0
HexRunsOpened =
    (text out : List ℕ) (n : ℕ) → Accepts text out n → let s = made_sheet text out n in
    (o : Options) → Unprotected o → (IFPR o ≡ 0 → ⊥) → (m : Memory) → Fit small m
    → (frame reply sums : List ℕ) → count s ≤ length sums
    → let there = (feed small (powered o m) (opening_bytes o (ident_of m))).state in
    Runs s (cells_of text) o m (run clean small s (joined_at_start there frame reply sums))

-- and by any bytes after which the stand-in waits and is unprotected
abbrev pub HexRunsFed : Type 0
HexRunsFed =
    (text out : List ℕ) (n : ℕ) → Accepts text out n → let s = made_sheet text out n in
    (o : Options) (m : Memory) → Fit small m → (frame reply sums : List ℕ) → count s ≤ length sums → (bytes : List ℕ)
    → let there = (feed small (powered o m) bytes).state in
    waits small there ≡ true → Unprotected there.options
    → Runs s (cells_of text) there.options there.memory (run clean small s (joined_at_start there frame reply sums))
