-- Erases of two blocks in either order, and of one twice: on memory, and on a stand-in by its frames. Assumes nothing.
use mathlib.Core.Path.{◌≡◌, refl, sym, ap, ◌∙◌}
use mathlib.Core.Bool.{Bool, true, false}
use mathlib.Core.List.{List, [], ◌∷◌}
use Prim.Native.Nat.{ℕ, ◌*◌, ◌<◌}
use lib.Dec.{eqb}
use lib.ListN.{length, replicate, length-replicate}
use borrow.Author.Tests.{eqb-true, eqb-false}
use Rattle.rules.specs.declared.Chip.{Chip}
use Rattle.rules.specs.declared.Flash.{Flash}
use Rattle.rules.specs.declared.Flash.TheVariants.{Code, Data}
use Rattle.rules.specs.declared.Block.{Block}
use Rattle.rules.specs.declared.Phase.TheVariants.{Command}
use Rattle.rules.specs.declared.Task.TheVariants.{Idle}
use Rattle.rules.specs.Chip.{Memory, known, blocks, block_size, blank_byte, flash_of, with_flash, put_part, erase_block}
use Rattle.rules.specs.Command.{ack}
use Rattle.rules.specs.StandIn.{State, Out, out, rest, powered, feed}
use Rattle.rules.specs.Run.{waits}
use Rattle.chip_finder.proofs.Parts.{inside}
use Rattle.joined_laws.specs.Hears.{hears}
use Rattle.joined_laws.specs.Turns.{Fit}
use Rattle.joined_laws.proofs.FramesHeard.{hears_erase_free, rest_waits, waiting_open}
use Rattle.joined_laws.proofs.LengthsKept.{feed_kept}
use Rattle.joined_laws.proofs.Run.{known_sized}
use Rattle.joined_blocks.specs.Erases.{ErasesCommute, EraseTwice, erase_frame, Heard, in_turn, Free, EitherOrder, AsOnce, ErasesHeard, ErasesFromPowerOn}
use Rattle.joined_blocks.proofs.PartsPut.{put_twice, put_either}

-- ---- on memory ----

-- part i filled with FFh: one flash's share of an erase
abbrev filled : ℕ → ℕ → List ℕ → List ℕ
filled size i flash = put_part size i (replicate size blank_byte) flash

-- over the size and the number of parts
module _ (size count : ℕ) (flash : List ℕ) (e : length flash ≡ count * size) where
  filled_twice : (i : ℕ) → i < count → filled size i (filled size i flash) ≡ filled size i flash
  filled_twice i h =
      put_twice size i flash (replicate size blank_byte) (replicate size blank_byte) (inside size count i e h) (length-replicate size blank_byte)

  filled_either : (i j : ℕ) → i < count → j < count → filled size j (filled size i flash) ≡ filled size i (filled size j flash)
  filled_either i j h g = go (eqb i j) refl
    where
      go : (t : Bool) → eqb i j ≡ t → filled size j (filled size i flash) ≡ filled size i (filled size j flash)
      go true q = rw (eqb-true i j q)
      go false q =
          put_either size flash (replicate size blank_byte) (replicate size blank_byte) (length-replicate size blank_byte) (length-replicate size blank_byte) i j (eqb-false i j q) (inside size count i e h) (inside size count j e g)

-- two erases in one flash, and in both
in_one : (m : Memory) (f : Flash) (a b : Block)
    → erase_block (erase_block m f a) f b ≡ with_flash m f (filled (block_size f) b.0 (filled (block_size f) a.0 (flash_of m f)))
in_one m Code a b = refl
in_one m Data a b = refl

one_flash : (chip : Chip) (m : Memory) → Fit chip m → (f : Flash) (a b : Block) → a.0 < blocks chip f → b.0 < blocks chip f
    → erase_block (erase_block m f a) f b ≡ erase_block (erase_block m f b) f a
one_flash chip m fit f a b h g =
    in_one m f a b ∙ ap (with_flash m f) (filled_either (block_size f) (blocks chip f) (flash_of m f) (fit f) a.0 b.0 h g) ∙ sym (in_one m f b a)

pub erases_commute : ErasesCommute
erases_commute chip m fit Code Code a b h g = one_flash chip m fit Code a b h g
erases_commute chip m fit Code Data a b h g = refl
erases_commute chip m fit Data Code a b h g = refl
erases_commute chip m fit Data Data a b h g = one_flash chip m fit Data a b h g

pub erase_twice : EraseTwice
erase_twice chip m fit f b h =
    in_one m f b b ∙ ap (with_flash m f) (filled_twice (block_size f) (blocks chip f) (flash_of m f) (fit f) b.0 h)

-- ---- on a stand-in ----

module _ (chip : Chip) (k : known chip ≡ true) where
  -- a stand-in that waits, with that memory erased
  abbrev after : State → Memory → State
  after s m = rest Command Idle s.options m

  erased : (s : State) → waits chip s ≡ true → (f : Flash) (b : Block) → Free chip s.options f b
      → hears chip s (erase_frame f b) ≡ out (after s (erase_block s.memory f b)) ack
  erased s w f b v = hears_erase_free chip (known_sized chip k) s w f b v.there v.free

  -- two erases, one after the other
  module _ (s : State) (w : waits chip s ≡ true) where
    both_erased : (f g : Flash) (a b : Block) → Free chip s.options f a → Free chip s.options g b
        → in_turn chip s (erase_frame f a) (erase_frame g b) ≡ record { answers = ack ∷ ack ∷ []; state = after s (erase_block (erase_block s.memory f a) g b) }
    both_erased f g a b v u =
        let m = erase_block s.memory f a in
        let y = erase_frame g b in
        ap (λ (z : Out). record { answers = z.answer ∷ (hears chip z.state y).answer ∷ []; state = (hears chip z.state y).state }) (erased s w f a v)
        ∙ ap (λ (z : Out). record { answers = ack ∷ z.answer ∷ []; state = z.state }) (erased (after s m) (rest_waits chip s.options m (waiting_open chip s w)) g b u)

    either_order : Fit chip s.memory → (f g : Flash) (a b : Block) → Free chip s.options f a → Free chip s.options g b
        → EitherOrder chip s (erase_frame f a) (erase_frame g b)
    either_order fit f g a b v u =
        let x = both_erased f g a b v u in
        let y = both_erased g f b a u v in
        record {
          told = ap (λ (z : Heard). z.answers) x;
          turned = ap (λ (z : Heard). z.answers) y;
          end =
              ap (λ (z : Heard). z.state) x
              ∙ ap (after s) (erases_commute chip s.memory fit f g a b v.there u.there)
              ∙ sym (ap (λ (z : Heard). z.state) y);
        }

    as_once : Fit chip s.memory → (f : Flash) (b : Block) → Free chip s.options f b → AsOnce chip s (erase_frame f b)
    as_once fit f b v =
        let x = both_erased f f b b v v in
        record {
          told = ap (λ (z : Heard). z.answers) x;
          end =
              ap (λ (z : Heard). z.state) x
              ∙ ap (after s) (erase_twice chip s.memory fit f b v.there)
              ∙ sym (ap (λ (z : Out). z.state) (erased s w f b v));
        }

pub erases_heard : ErasesHeard
erases_heard chip k s w fit f g a b v u = (either_order chip k s w fit f g a b v u, as_once chip k s w fit f a v)

pub erases_from_power_on : ErasesFromPowerOn
erases_from_power_on chip k o m fit bytes w =
    erases_heard chip k (feed chip (powered o m) bytes).state w (feed_kept chip (powered o m) fit bytes)
