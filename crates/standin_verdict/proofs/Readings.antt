-- The information of a command frame: the reading of its code, and blocks that are there. Assumes nothing.
use mathlib.Core.Path.{◌≡◌, refl, sym, ap, ◌∙◌}
use mathlib.Core.Bool.{Bool, true, false, cond, ◌&&◌}
use mathlib.Core.List.{List, [], ◌∷◌}
use Prim.Native.Nat.{ℕ, ◌<◌}
use lib.Dec.{leb, eqb}
use borrow.Author.Tests.{ne_eqb}
use Rattle.rules.specs.declared.Chip.{Chip}
use Rattle.rules.specs.declared.Flash.{Flash}
use Rattle.rules.specs.declared.Block.{Block}
use Rattle.rules.specs.Answers.{Found, In, Nowhere, Range, Blocks, Invalid, Decoded, Is, Bad, Judged, Faulty, Ordered}
use Rattle.rules.specs.declared.Options.{Options}
use Rattle.rules.specs.declared.Phase.{Phase}
use Rattle.rules.specs.declared.Order.{Order}
use Rattle.rules.specs.declared.Order.TheVariants.{Verify, BlankCheck, Program, BaudRate, Checksum}
use Rattle.rules.specs.Faults.{Fault}
use Rattle.rules.specs.Chip.{Memory, byte_at, blocks, erase_address, range}
use Rattle.rules.specs.First.{first_fault}
use Rattle.rules.specs.Frame.{status_byte}
use Rattle.rules.specs.Command.{Entry, code_of, sad_of, ead_of, tar_of, over_blocks, paired, at_block, commands, read_as, decoded, frame_checks, order_checks, unless, judged_order, judged}
use Rattle.chip_finder.proofs.ThereAndBack.{erase_inside, range_inside}
use Rattle.standin_verdict.specs.Inside.{InRange, Inside}

-- the reading of a code that is a number
pub at_code : (chip : Chip) (f : List ℕ) (r k : ℕ) → r ≡ code_of f → r ≡ k
    → (d : Decoded) → d ≡ read_as commands k chip f → d ≡ decoded chip f
at_code chip f r k e q d h = h ∙ ap (λ (n : ℕ). read_as commands n chip f) (sym q ∙ e)

-- a code that no entry has
abbrev pub Other : ℕ → List Entry → Type 0
Other code [] = Unit {0}
Other code (e ∷ es) = (e.code ≡ code → ⊥) × Other code es

pub unlisted : (es : List Entry) (code : ℕ) → Other code es → (chip : Chip) (f : List ℕ) → Bad ≡ read_as es code chip f
unfolding read_as
unlisted [] code o chip f = refl
unlisted (e ∷ es) code o chip f = rw (ne_eqb e.code code o.0) (unlisted es code o.1 chip f)

-- ---- the blocks of an order are there ----

abbrev Read : Chip → Decoded → Type 0
Read chip (Is order) = Inside chip order
Read chip Bad = Unit {0}

abbrev pub Sound : Chip → Judged → Type 0
Sound chip (Faulty v) = Unit {0}
Sound chip (Ordered order) = Inside chip order

module _ (chip : Chip) where
  over_read : (order : Flash → Block → Block → Order) → ((f : Flash) (a b : Block) → InRange chip f a b → Inside chip (order f a b))
      → (r : Range) → ((f : Flash) (a b : Block) → r ≡ Blocks f a b → InRange chip f a b) → Read chip (over_blocks order r)
  over_read order is (Blocks f a b) there = is f a b (there f a b refl)
  over_read order is Invalid there = tt

  at_read : (r : Found) → ((f : Flash) (b : Block) → r ≡ In f b → b.0 < blocks chip f) → Read chip (at_block r)
  at_read (In f b) there = there f b refl
  at_read Nowhere there = tt

  or_bad : (t : Bool) (d : Decoded) → Read chip d → Read chip (cond t d Bad)
  or_bad true d r = r
  or_bad false d r = tt

  -- every reading of the table
  abbrev All : List ℕ → List Entry → Type 0
  All f [] = Unit {0}
  All f (e ∷ es) = Read chip (e.reads chip f) × All f es

  all_read : (f : List ℕ) (es : List Entry) (code : ℕ) → All f es → Read chip (read_as es code chip f)
  unfolding read_as
  all_read f [] code all = tt
  all_read f (e ∷ es) code all = go (eqb e.code code) (all_read f es code all.1)
    where
      go : (t : Bool) → Read chip (read_as es code chip f) → Read chip (cond t (e.reads chip f) (read_as es code chip f))
      go true later = all.0
      go false later = later

  decoded_read : (f : List ℕ) → Read chip (decoded chip f)
  unfolding commands
  decoded_read f =
      all_read f commands (code_of f) (tt, (over_read Verify (λ g a b i. i) (range chip (sad_of f) (ead_of f)) (range_inside chip (sad_of f) (ead_of f)), (at_read (erase_address chip (sad_of f)) (erase_inside chip (sad_of f)), (or_bad (leb (tar_of f) 1) (paired (λ g a b. BlankCheck g a b (tar_of f)) chip f) (over_read (λ g a b. BlankCheck g a b (tar_of f)) (λ g a b i. i) (range chip (sad_of f) (ead_of f)) (range_inside chip (sad_of f) (ead_of f))), (over_read Program (λ g a b i. i) (range chip (sad_of f) (ead_of f)) (range_inside chip (sad_of f) (ead_of f)), (or_bad (leb (byte_at f 3) 3 && leb 0x10 (byte_at f 4) && leb (byte_at f 4) 0x37) (Is BaudRate) tt, (tt, (tt, (tt, (tt, (tt, (tt, (over_read Checksum (λ g a b i. i) (range chip (sad_of f) (ead_of f)) (range_inside chip (sad_of f) (ead_of f)), tt)))))))))))))

  unless_sound : (v : Fault) (j : Judged) → Sound chip j → Sound chip (unless v j)
  unfolding unless
  unless_sound v j s = go (eqb (status_byte v) 0x06)
    where
      go : (t : Bool) → Sound chip (cond t j (Faulty v))
      go true = s
      go false = tt

  order_sound : (o : Options) (m : Memory) (f : List ℕ) (d : Decoded) → Read chip d → Sound chip (judged_order o m f d)
  unfolding judged_order
  order_sound o m f (Is order) s = unless_sound (first_fault (order_checks o m f order)) (Ordered order) s
  order_sound o m f Bad s = tt

  pub judged_sound : (phase : Phase) (o : Options) (m : Memory) (f : List ℕ) → Sound chip (judged chip phase o m f)
  unfolding judged
  judged_sound phase o m f =
      unless_sound (first_fault (frame_checks phase f)) (judged_order o m f (decoded chip f)) (order_sound o m f (decoded chip f) (decoded_read f))
