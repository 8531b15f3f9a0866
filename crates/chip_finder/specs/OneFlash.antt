-- What the finder gives over one flash, over the start, the size and the number of its parts. Assumes nothing.
use Rattle.std.specs.Prelude.{ℕ, ◌+◌, ◌-◌, ◌*◌, ◌/◌, ◌%◌, Bool, cond, ◌&&◌, List, [], ltb, leb, eqb, length, take, drop}
use Rattle.rules.specs.declared.Chip.{Chip}
use Rattle.rules.specs.declared.Flash.{Flash}
use Rattle.rules.specs.declared.Address.{Address}
use Rattle.rules.specs.Answers.{Found, In, Nowhere, Range, Blocks, Invalid}
use Rattle.chip_finder.specs.Answers.{Spot, At, Outside, Place, Bytes, Missing}
use Rattle.rules.specs.Chip.{block, block_size, start, blocks, within, block_at, pair_in}

-- the byte with address a, in a flash of so many blocks of that size
unfoldable pub spot_in : ℕ → ℕ → ℕ → ℕ → Spot
spot_in from size count a =
    cond (leb from a && ltb a (from + count * size)) (At (block ((a - from) / size)) ((a - from) % size)) Outside

abbrev pub spot_of : Chip → Flash → Address → Spot
spot_of chip f a = spot_in (start f) (block_size f) (blocks chip f) a.0

-- one flash's share of `erase_address` and of `range`
unfoldable pub byte_in : Chip → Flash → ℕ → Address → Found
byte_in chip f offset a =
    cond (within chip f a && eqb ((a.0 - start f) % block_size f) offset) (In f (block_at f a)) Nowhere

unfoldable pub pair_of : Chip → Flash → Address → Address → Range
pair_of chip f sad ead = cond (pair_in chip f sad ead) (Blocks f (block_at f sad) (block_at f ead)) Invalid

-- the blocks that two addresses lie in, whether they begin and end one, and as if the flash had no end
abbrev pub held_in : Flash → Address → Address → Range
held_in f sad ead = Blocks f (block_at f sad) (block_at f ead)

-- a flash of that length has part number n, and the parts from first to last
abbrev pub is_there : ℕ → ℕ → ℕ → ℕ → Bool
is_there len size count n = eqb len (count * size) && ltb n count

abbrev pub are_there : ℕ → ℕ → ℕ → ℕ → ℕ → Bool
are_there len size count first last = is_there len size count last && leb first last

unfoldable pub place_of : ℕ → ℕ → ℕ → ℕ → ℕ → Place
place_of len size count first last =
    cond (are_there len size count first last) (Bytes (first * size) ((last + 1) * size)) Missing

unfoldable pub parts_shown : ℕ → ℕ → ℕ → ℕ → List ℕ → List ℕ
parts_shown size count first last flash =
    cond (are_there (length flash) size count first last)
    (take ((last + 1 - first) * size) (drop (first * size) flash))
    []
