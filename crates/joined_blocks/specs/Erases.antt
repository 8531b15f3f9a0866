-- 02, M-110: "Erasing two different blocks gives the same flash in either order, and erasing one twice is as once, where none is protected".
-- What is said: of memory, and of a stand-in by its frames. Assumes nothing.
use Rattle.std.specs.Prelude.{ℕ, ◌<◌, ◌≡◌, true, false, List, [], ◌∷◌}
use Rattle.rules.specs.declared.Chip.{Chip}
use Rattle.rules.specs.declared.Flash.{Flash}
use Rattle.rules.specs.declared.Block.{Block}
use Rattle.rules.specs.declared.Options.{Options}
use Rattle.rules.specs.Chip.{Memory, known, blocks, first_byte, address_bytes, erase_block}
use Rattle.rules.specs.Options.{erase_protected}
use Rattle.rules.specs.Command.{erase_code, ack}
use Rattle.rules.specs.Player.{command}
use Rattle.rules.specs.StandIn.{State, powered, feed}
use Rattle.rules.specs.Run.{waits}
use Rattle.joined_laws.specs.Hears.{hears}
use Rattle.joined_laws.specs.Turns.{Fit}

-- ---- on memory: any two blocks that are there, different in number or in flash (or one and the same, where there is no order) ----

abbrev pub ErasesCommute : Type 0
ErasesCommute =
    (chip : Chip) (m : Memory)
    → Fit chip m
    → (f g : Flash) (a b : Block)
    → a.0 < blocks chip f
    → b.0 < blocks chip g
    → erase_block (erase_block m f a) g b ≡ erase_block (erase_block m g b) f a

abbrev pub EraseTwice : Type 0
EraseTwice =
    (chip : Chip) (m : Memory)
    → Fit chip m
    → (f : Flash) (b : Block)
    → b.0 < blocks chip f
    → erase_block (erase_block m f b) f b ≡ erase_block m f b

-- ---- on a stand-in, by its frames ----

-- Block Erase
abbrev pub erase_frame : Flash → Block → List ℕ
erase_frame f b = command (erase_code ∷ address_bytes (first_byte f b))

-- two frames, one after the other: both answers, and the state then
pub record Heard : Type 0 where
  pub answers : List (List ℕ)
  pub state : State

abbrev pub in_turn : Chip → State → List ℕ → List ℕ → Heard
in_turn chip s x y =
    record {
      answers = (hears chip s x).answer ∷ (hears chip (hears chip s x).state y).answer ∷ [];
      state = (hears chip (hears chip s x).state y).state;
    }

-- a block that is there and not protected
pub record Free (chip : Chip) (o : Options) (f : Flash) (b : Block) : Type 0 where
  pub there : b.0 < blocks chip f
  pub free : erase_protected o f b ≡ false

-- IN EITHER ORDER: both are acknowledged, and the end is the same
pub record EitherOrder (chip : Chip) (s : State) (x y : List ℕ) : Type 0 where
  pub told : (in_turn chip s x y).answers ≡ ack ∷ ack ∷ []
  pub turned : (in_turn chip s y x).answers ≡ ack ∷ ack ∷ []
  pub end : (in_turn chip s x y).state ≡ (in_turn chip s y x).state

-- TWICE IS AS ONCE
pub record AsOnce (chip : Chip) (s : State) (x : List ℕ) : Type 0 where
  pub told : (in_turn chip s x x).answers ≡ ack ∷ ack ∷ []
  pub end : (in_turn chip s x x).state ≡ (hears chip s x).state

-- all blocks that are there and not protected: different in number or in flash, and one by itself
abbrev pub ErasesWell : Chip → State → Type 0
ErasesWell chip s =
    (f g : Flash) (a b : Block)
    → Free chip s.options f a
    → Free chip s.options g b
    → EitherOrder chip s (erase_frame f a) (erase_frame g b) × AsOnce chip s (erase_frame f a)

-- a stand-in of a known chip that waits for a command
abbrev pub ErasesHeard : Type 0
ErasesHeard =
    (chip : Chip)
    → known chip ≡ true
    → (s : State)
    → waits chip s ≡ true
    → Fit chip s.memory
    → ErasesWell chip s

-- and so from a power-on, by any bytes after which it waits
abbrev pub ErasesFromPowerOn : Type 0
ErasesFromPowerOn =
    (chip : Chip)
    → known chip ≡ true
    → (o : Options) (m : Memory)
    → Fit chip m
    → (bytes : List ℕ)
    → let s = (feed chip (powered o m) bytes).state in waits chip s ≡ true
    → ErasesWell chip s
