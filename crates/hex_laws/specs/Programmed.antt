-- 02, M-103: what the sheet of a HEX text leaves in the flashes, byte by byte. Assumes nothing.
use Rattle.std.specs.Prelude.{ℕ, ◌/◌, ◌<◌, ◌≡◌, Bool, true, false, List}
use Rattle.rules.specs.declared.Flash.{Flash}
use Rattle.rules.specs.declared.Options.{Options}
use Rattle.rules.specs.declared.Stage.TheVariants.{Over}
use Rattle.rules.specs.declared.Status.TheVariants.{Byte}
use Rattle.rules.specs.Chip.{Memory, small, byte_at, blank_byte, block_size, flash_size, flash_of}
use Rattle.rules.specs.Options.{BTPR, SEPR, WRPR}
use Rattle.rules.specs.Sheet.{count}
use Rattle.rules.specs.Hex.{not_given, any_given, block_cells}
use Rattle.rules.specs.Meaning.{Ended}
use Rattle.rules.specs.Run.{Ran}
use Rattle.joined_laws.specs.Turns.{Fit, Settled, end_of}

-- ---- the bytes of the flashes ----

-- the text gives byte k of that flash
abbrev pub Given : Memory → Flash → ℕ → Type 0
Given cells f k = byte_at (flash_of cells f) k < not_given

-- byte k lies in a block that is named: one that holds a given byte
abbrev pub in_named : Memory → Flash → ℕ → Bool
in_named cells f k = any_given (block_cells cells f (k / block_size f))

-- before and after, for every byte of both flashes: "every given byte as given", "bytes not given are FFh" in the blocks named, and no other
-- byte is changed
pub record Programmed (cells before after : Memory) : Type 0 where
  pub fit : Fit small after
  pub given : (f : Flash) (k : ℕ) → k < flash_size small f → Given cells f k
      → byte_at (flash_of after f) k ≡ byte_at (flash_of cells f) k
  pub gap : (f : Flash) (k : ℕ) → k < flash_size small f → (Given cells f k → ⊥) → in_named cells f k ≡ true
      → byte_at (flash_of after f) k ≡ blank_byte
  pub other : (f : Flash) (k : ℕ) → k < flash_size small f → in_named cells f k ≡ false
      → byte_at (flash_of after f) k ≡ byte_at (flash_of before f) k

-- ---- the end ----

-- "an unprotected chip"
pub record Unprotected (o : Options) : Type 0 where
  pub btpr : BTPR o ≡ 1
  pub sepr : SEPR o ≡ 1
  pub wrpr : WRPR o ≡ 1

-- a play of that sheet with those cells, from that memory and those options, has ended: all its steps are finished
pub record Finished (s : List ℕ) (cells : Memory) (o : Options) (before : Memory) (e : Ended) : Type 0 where
  pub flashes : Programmed cells before e.memory
  pub options : e.options ≡ o
  pub status : e.report.status ≡ Byte 0x06
  pub steps : e.report.steps ≡ count s
  pub pieces : e.report.pieces ≡ 0

-- and so has a run: the player is at its end, and the stand-in waits for a command
pub record Runs (s : List ℕ) (cells : Memory) (o : Options) (before : Memory) (r : Ran) : Type 0 where
  pub complete : r.complete ≡ true
  pub end : Finished s cells o before (end_of r.reached)
  pub over : r.reached.player.stage ≡ Over
  pub settled : Settled small r.reached.state
