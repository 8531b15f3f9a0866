-- 02, M-110: "For two neighbouring ranges in one flash, the sum of the joined range is the two sums added modulo 65,536". What is said: by
-- blocks, by addresses, block by block, and as a stand-in answers. Assumes nothing.
use Rattle.std.specs.Prelude.{ℕ, zero, suc, ◌+◌, ◌%◌, ◌<◌, ◌≤◌, ◌≡◌, true, List, ◌∷◌, ◌++◌}
use Rattle.rules.specs.declared.Chip.{Chip}
use Rattle.rules.specs.declared.Flash.{Flash}
use Rattle.rules.specs.declared.Address.{Address}
use Rattle.rules.specs.declared.Block.{Block}
use Rattle.rules.specs.Answers.{Blocks}
use Rattle.rules.specs.Chip.{Memory, known, block, blocks, blocks_from, first_byte, last_byte, address_bytes, word_bytes, range, bytes_from, checksum}
use Rattle.rules.specs.Frame.{data_start, last_end, frame}
use Rattle.rules.specs.Command.{checksum_code, ack}
use Rattle.rules.specs.Player.{command}
use Rattle.rules.specs.StandIn.{State}
use Rattle.rules.specs.Run.{waits}
use Rattle.joined_laws.specs.Hears.{hears}

-- the sum of the blocks from first to last: 01's Checksum of their bytes
abbrev pub sum_of : Memory → Flash → Block → Block → ℕ
sum_of m f first last = checksum (bytes_from m f first last)

-- "the two sums added modulo 65,536"
abbrev pub added : ℕ → ℕ → ℕ
added x y = (x + y) % 65536

-- the block behind another: where a neighbouring range begins
abbrev pub behind : Block → Block
behind b = block (b.0 + 1)

-- BY BLOCKS: from a to b, and from the block behind b to c; of any memory
abbrev pub SumsAdd : Type 0
SumsAdd =
    (m : Memory) (f : Flash) (a b c : Block)
    → a.0 ≤ b.0
    → b.0 < c.0
    → sum_of m f a c ≡ added (sum_of m f a b) (sum_of m f (behind b) c)

-- BY ADDRESSES, as the command takes them: two valid pairs in one flash, the second from the byte behind the first's last; the joined pair
-- is valid, and its sum is the two added
abbrev pub SumsAddAsked : Type 0
SumsAddAsked =
    (chip : Chip)
    → known chip ≡ true
    → (m : Memory) (f : Flash) (sad mid next ead : Address) (a b c d : Block)
    → range chip sad mid ≡ Blocks f a b
    → range chip next ead ≡ Blocks f c d
    → next.0 ≡ mid.0 + 1
    → (range chip sad ead ≡ Blocks f a d) × (sum_of m f a d ≡ added (sum_of m f a b) (sum_of m f c d))

-- so many blocks' own sums, added one after the other from block n on
unfoldable pub added_from : Memory → Flash → ℕ → ℕ → ℕ
added_from m f n zero = 0
added_from m f n (suc left) = added (sum_of m f (block n) (block n)) (added_from m f (n + 1) left)

-- BLOCK BY BLOCK, as the office adds them
abbrev pub SumsByBlocks : Type 0
SumsByBlocks =
    (m : Memory) (f : Flash) (first last : Block)
    → sum_of m f first last ≡ added_from m f first.0 (blocks_from first last)

-- ---- on the wire ----

-- the Checksum command for a range of blocks, and the answer with a sum
abbrev pub sum_frame : Flash → Block → Block → List ℕ
sum_frame f first last = command (checksum_code ∷ (address_bytes (first_byte f first) ++ address_bytes (last_byte f last)))

abbrev pub sum_told : ℕ → List ℕ
sum_told n = ack ++ frame data_start last_end (word_bytes n)

-- three sums asked of one stand-in: two neighbours and the joined range
pub record Told (chip : Chip) (s : State) (f : Flash) (a b c : Block) : Type 0 where
  pub low : ℕ
  pub high : ℕ
  pub first : (hears chip s (sum_frame f a b)).answer ≡ sum_told low
  pub second : (hears chip s (sum_frame f (behind b) c)).answer ≡ sum_told high
  pub joined : (hears chip s (sum_frame f a c)).answer ≡ sum_told (added low high)

-- AS A STAND-IN ANSWERS that waits for a command: of every known chip, and of blocks that are there
abbrev pub SumsAddTold : Type 0
SumsAddTold =
    (chip : Chip)
    → known chip ≡ true
    → (s : State)
    → waits chip s ≡ true
    → (f : Flash) (a b c : Block)
    → a.0 ≤ b.0
    → b.0 < c.0
    → c.0 < blocks chip f
    → Told chip s f a b c
