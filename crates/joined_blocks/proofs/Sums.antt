-- Sums of neighbouring ranges add up. Assumes nothing.
use mathlib.Core.Path.{◌≡◌, sym, ap, ◌∙◌}
use mathlib.Core.List.{List, [], ◌∷◌, ◌++◌}
use Prim.Native.Nat.{ℕ, zero, suc, ◌+◌, ◌-◌, ◌*◌, ◌%◌, ◌<◌, ◌≤◌}
use native.Mathlib.Nat.{add-mul, zero-mul}
use native.Mathlib.Omega.{arith}
use lib.ListN.{take, drop}
use lib.Seq.{take-add, drop-drop}
use Rattle.rules.specs.declared.Flash.{Flash}
use Rattle.rules.specs.declared.Flash.TheVariants.{Code, Data}
use Rattle.rules.specs.declared.Kind.TheVariants.{Sum}
use Rattle.rules.specs.declared.Block.{Block}
use Rattle.rules.specs.declared.Step.{Step}
use Rattle.rules.specs.Chip.{Memory, total, checksum, block_size, flash_of, blocks_from, block, blocks, first_byte, last_byte}
use Rattle.rules.specs.StandIn.{Out}
use Rattle.chip_finder.proofs.ThereAndBack.{range_there, range_inside, range_back}
use Rattle.joined_laws.specs.Hears.{hears}
use Rattle.joined_laws.proofs.Run.{known_sized}
use Rattle.joined_laws.proofs.FramesHeard.{hears_sum}
use Rattle.joined_blocks.specs.Sums.{sum_of, added, behind, sum_frame, sum_told, added_from, SumsAdd, SumsAddAsked, SumsByBlocks, SumsAddTold}

-- ---- bytes ----

total_append : (xs ys : List ℕ) → total (xs ++ ys) ≡ total xs + total ys
unfolding total
total_append [] ys = omega arith
total_append (x ∷ xs) ys = omega (arith, total_append xs ys)

-- what comes to 0 with the bytes' sum is their checksum
zero_with : (xs : List ℕ) → (checksum xs + total xs) % 65536 ≡ 0
unfolding checksum
zero_with xs = omega arith

only_checksum : (xs : List ℕ) (c : ℕ) → c < 65536 → (c + total xs) % 65536 ≡ 0 → c ≡ checksum xs
unfolding checksum
only_checksum xs c h e = omega arith

both_zero : (p q x y : ℕ) → (p + x) % 65536 ≡ 0 → (q + y) % 65536 ≡ 0 → (added p q + (x + y)) % 65536 ≡ 0
both_zero p q x y e g = omega arith

added_small : (p q : ℕ) → added p q < 65536
added_small p q = omega arith

checksum_append : (xs ys : List ℕ) → checksum (xs ++ ys) ≡ added (checksum xs) (checksum ys)
checksum_append xs ys =
    let p = checksum xs in
    let q = checksum ys in
    sym (only_checksum (xs ++ ys) (added p q) (added_small p q) (rw (total_append xs ys) (both_zero p q (total xs) (total ys) (zero_with xs) (zero_with ys))))

-- ---- parts in a row, over their size and number ----

-- n parts from part number i on
abbrev row : ℕ → ℕ → ℕ → List ℕ → List ℕ
row size i n flash = take (n * size) (drop (i * size) flash)

row_split : (size i k n : ℕ) (flash : List ℕ) → row size i (k + n) flash ≡ row size i k flash ++ row size (i + k) n flash
row_split size i k n flash =
    ap (λ (z : ℕ). take z (drop (i * size) flash)) (add-mul k n size)
    ∙ take-add (k * size) (n * size) (drop (i * size) flash)
    ∙ ap (λ (z : List ℕ). row size i k flash ++ take (n * size) z) (drop-drop (k * size) (i * size) flash ∙ ap (λ (z : ℕ). drop z flash) (sym (add-mul i k size)))

rows_add : (size i k n : ℕ) (flash : List ℕ) → checksum (row size i (k + n) flash) ≡ added (checksum (row size i k flash)) (checksum (row size (i + k) n flash))
rows_add size i k n flash =
    ap checksum (row_split size i k n flash) ∙ checksum_append (row size i k flash) (row size (i + k) n flash)

-- ---- by blocks ----

pub sums_add : SumsAdd
sums_add m f a b c h g =
    let k = blocks_from a b in
    let n = blocks_from (behind b) c in
    let e : blocks_from a c ≡ k + n = omega arith in
    let s : a.0 + k ≡ b.0 + 1 = omega arith in
    ap (λ (z : ℕ). checksum (row (block_size f) a.0 z (flash_of m f))) e
    ∙ rows_add (block_size f) a.0 k n (flash_of m f)
    ∙ ap (λ (z : ℕ). added (sum_of m f a b) (checksum (row (block_size f) z n (flash_of m f)))) s

-- ---- by addresses ----

-- one byte behind the last of a block is the first of the block behind
neighbours : (f : Flash) (b c : Block) → (first_byte f c).0 ≡ (last_byte f b).0 + 1 → c.0 ≡ b.0 + 1
neighbours Code b c e = omega arith
neighbours Data b c e = omega arith

pub sums_add_asked : SumsAddAsked
sums_add_asked chip k m f sad mid next ead a b c d p q e =
    let x = range_back chip sad mid f a b p in
    let y = range_back chip next ead f c d q in
    let i = range_inside chip sad mid f a b p in
    let j = range_inside chip next ead f c d q in
    let s : c.0 ≡ b.0 + 1 = neighbours f b c (ap (λ z. z.0) (sym y.0) ∙ e ∙ ap (λ z. z.0 + 1) x.1) in
    let at : behind b ≡ c = ap block (sym s) in
    let there = range_there chip (known_sized chip k).apart f a d (omega arith) j.1 in
    (rw (x.0, y.1) there, sums_add m f a b d i.0 (omega arith) ∙ ap (λ (z : Block). added (sum_of m f a b) (sum_of m f z d)) at)

-- ---- block by block ----

by_blocks : (m : Memory) (f : Flash) (n left : ℕ) → checksum (row (block_size f) n left (flash_of m f)) ≡ added_from m f n left
unfolding added_from checksum total
by_blocks m f n zero = rw (zero-mul (block_size f))
by_blocks m f n (suc left) =
    let one : n + 1 - n ≡ 1 = omega arith in
    let more : suc left ≡ 1 + left = omega arith in
    ap (λ (z : ℕ). checksum (row (block_size f) n z (flash_of m f))) more
    ∙ rows_add (block_size f) n 1 left (flash_of m f)
    ∙ ap (λ (z : ℕ). added (checksum (row (block_size f) n z (flash_of m f))) (checksum (row (block_size f) (n + 1) left (flash_of m f)))) (sym one)
    ∙ ap (added (sum_of m f (block n) (block n))) (by_blocks m f (n + 1) left)

pub sums_by_blocks : SumsByBlocks
sums_by_blocks m f first last = by_blocks m f first.0 (blocks_from first last)

-- ---- as a stand-in answers ----

pub sums_add_told : SumsAddTold
sums_add_told chip k s w f a b c h g there =
    record {
      low = sum_of s.memory f a b;
      high = sum_of s.memory f (behind b) c;
      first = told a b h (omega arith);
      second = told (behind b) c (omega arith) there;
      joined = told a c (omega arith) there ∙ ap sum_told (sums_add s.memory f a b c h g);
    }
  where
    asks : Block → Block → Step
    asks x y = record { kind = Sum; flash = f; first = x; last = y; flags = record { sf1 = 0; sf2 = 0 }; body = 0 }

    told : (x y : Block) → x.0 ≤ y.0 → y.0 < blocks chip f → (hears chip s (sum_frame f x y)).answer ≡ sum_told (sum_of s.memory f x y)
    told x y o t = ap (λ (z : Out). z.answer) (hears_sum chip (known_sized chip k) s w (asks x y) o t)
