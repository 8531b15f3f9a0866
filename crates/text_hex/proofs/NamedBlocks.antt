-- Laws of the blocks named and of the sheet made of them. Assumes nothing.
use mathlib.Core.Path.{◌≡◌, refl, sym, ap, ◌∙◌}
use mathlib.Core.Bool.{Bool, true, false, cond}
use mathlib.Core.List.{List, [], ◌∷◌, ◌++◌, append_assoc}
use Prim.Native.Nat.{ℕ, zero, suc, ◌+◌, ◌-◌, ◌*◌, ◌<◌, ◌≤◌}
use native.Mathlib.Nat.{zero-mul, suc-mul}
use native.Mathlib.Omega.{arith}
use native.Mathlib.Numerals.{add-one}
use lib.ListN.{length, get_or, drop, length-append, drop_of_length-le}
use lib.Seq.{drop-cons}
use borrow.Author.Tests.{lt-ltb, le-ltb}
use denote.Ref.{Bor}
use mathlib.Core.Logic.{◌⊎◌, inl, inr}
use Rattle.std.proofs.Math.Seq.{take-nil}
use Rattle.std.specs.Prelude.{Option, Some, None}
use Rattle.std.specs.Option.{MatchOption, unwrap_or}
use Rattle.std.specs.List.{filter, range_with_len, slice_range}
use Rattle.rules.specs.declared.Flash.{Flash}
use Rattle.rules.specs.declared.Flash.TheVariants.{Code, Data}
use Rattle.rules.specs.declared.hex.HexRefusal.{HexRefusal}
use Rattle.rules.specs.declared.hex.HexRefusal.TheVariants.{NoEnd, ManySteps, ManyBytes, ShortBuffer}
use Rattle.rules.specs.Answers as read
use Rattle.rules.specs.Answers.{Sheet, Refused}
use Rattle.rules.specs.First.{first}
use Rattle.rules.specs.Chip.{Memory, small, blocks, block_size, flash_of, word_bytes, over, part_of}
use Rattle.rules.specs.Sheet.{most_steps, entry_size}
use Rattle.rules.specs.Hex.{no_cells, any_given, reading, hex_read, Named, named, block_cells, named_from, blocks_named, cell_byte, cell_bytes, body_of, entry_of, entries_of, bodies_of, steps_of, sheet_of, sheet_made, making_of, made_of, hex_made}
use Rattle.chip_finder.proofs.Parts.{inside, length_part}
use Rattle.text_out.specs.Out.{Out, add}
use Rattle.text_out.proofs.Appended.{add_append, add_none}

module _ (m : Memory) (f : Flash) (i : ℕ) where
  pub one_named : any_given (block_cells m f i) ≡ true → named_from m f i 1 ≡ named f i ∷ []
  unfolding named_from
  one_named e = rw e

  pub not_named : any_given (block_cells m f i) ≡ false → named_from m f i 1 ≡ []
  unfolding named_from
  not_named e = rw e

  -- one block, and those behind it
  from_one : (n : ℕ) → named_from m f i (suc n) ≡ named_from m f i 1 ++ named_from m f (i + 1) n
  unfolding named_from
  from_one n = go (any_given (block_cells m f i)) (named_from m f (i + 1) n)
    where
      go : (x : Bool) (later : List Named) → cond x (named f i ∷ later) later ≡ cond x (named f i ∷ []) [] ++ later
      go true later = refl
      go false later = refl

  pub from_here : (n : ℕ) → i < n → named_from m f i (n - i) ≡ named_from m f i 1 ++ named_from m f (i + 1) (n - (i + 1))
  from_here n h = let e : n - i ≡ suc (n - (i + 1)) = omega arith in rw e (from_one (n - (i + 1)))

  pub from_end : (n : ℕ) → n ≤ i → named_from m f i (n - i) ≡ []
  unfolding named_from
  from_end n h = let e : n - i ≡ 0 = omega arith in rw e

  -- before any others
  pub from_here_later : (n : ℕ) → i < n → (later : List Named)
      → named_from m f i 1 ++ (named_from m f (i + 1) (n - (i + 1)) ++ later) ≡ named_from m f i (n - i) ++ later
  from_here_later n h later =
      sym (append_assoc (named_from m f i 1) (named_from m f (i + 1) (n - (i + 1))) later)
      ∙ ap (λ (x : List Named). x ++ later) (sym (from_here n h))

-- so many are named as stand in the list of them
pub named_length : (m : Memory) (f : Flash) (i n : ℕ) → length (filter (λ k. any_given (block_cells m f k)) (range_with_len i n)) ≡ length (named_from m f i n)
unfolding named_from
named_length m f i zero = refl
named_length m f i (suc n) = go (any_given (block_cells m f i)) (named_length m f (i + 1) n)
  where
    later : List ℕ
    later = filter (λ k. any_given (block_cells m f k)) (range_with_len (i + 1) n)

    go : (x : Bool) → length later ≡ length (named_from m f (i + 1) n) → length (cond x (i ∷ later) later) ≡ length (cond x (named f i ∷ named_from m f (i + 1) n) (named_from m f (i + 1) n))
    go true e = ap suc e
    go false e = e

-- a block, as the code takes it; none past the last
module _ (size i : ℕ) (t : List ℕ) (past : length t < i * size + size → length t ≤ i * size) where
  pub block_got : (o : Option (Bor (List ℕ))) (none : Bor (List ℕ)) → none.now ≡ []
      → MatchOption o ((i * size + size < i * size) ⊎ (length t < i * size + size)) (λ x. (i * size ≤ i * size + size) × (i * size + size ≤ length t) × (x.now ≡ slice_range t (i * size) (i * size + size)) × (length x.now + i * size ≡ i * size + size))
      → (unwrap_or o none).now ≡ part_of size i t
  unfolding part_of
  block_got None none z (inl h) = absurd (omega arith)
  block_got None none z (inr h) = z ∙ rw (drop_of_length-le t (past h), take-nil size)
  block_got (Some x) none z h = let e : i * size + size - i * size ≡ size = omega arith in h.2 ∙ rw e

-- ---- the entries and the bodies of one block, and those behind it ----

module _ (f : Flash) (i : ℕ) (later : List Named) (o : Out) where
  pub entries_one : (offset size : ℕ) → size ≡ block_size f
      → add (entries_of (offset + 2 * size) later) (add (entry_of 3 (named f i) (offset + size)) (add (entry_of 2 (named f i) offset) (add (entry_of 1 (named f i) offset) o)))
      ≡ add (entries_of offset (named f i ∷ later)) o
  unfolding entries_of
  entries_one offset size e = rw e (simp add_append)

  pub bodies_one : (m : Memory) → add (bodies_of m later) (add (body_of m (named f i)) (add (body_of m (named f i)) o)) ≡ add (bodies_of m (named f i ∷ later)) o
  unfolding bodies_of
  bodies_one m = simp add_append

pub entries_none : (offset : ℕ) (o : Out) → o ≡ add (entries_of offset []) o
unfolding entries_of
entries_none offset o = sym (add_none o)

pub bodies_none : (m : Memory) (o : Out) → o ≡ add (bodies_of m []) o
unfolding bodies_of
bodies_none m o = sym (add_none o)

-- the cells of a body one by one
module _ (cs : List ℕ) (i : ℕ) (o : Out) where
  pub cells_more : i < length cs → add (cell_bytes (drop i cs)) o ≡ add (cell_bytes (drop (i + 1) cs)) (add (cell_byte (get_or cs i 0) ∷ []) o)
  unfolding cell_bytes add
  cells_more h = rw (drop-cons cs i 0, add-one)

  pub cells_end : length cs ≤ i → o ≡ add (cell_bytes (drop i cs)) o
  unfolding cell_bytes add
  cells_end h = rw (drop_of_length-le cs h)

-- ---- the whole of a sheet ----

module _ (m : Memory) (n : ℕ) (e : n ≡ length (blocks_named m)) (o : Out) where
  pub sheet_put : add (bodies_of m (blocks_named m)) (add (entries_of (2 + 36 * n) (blocks_named m)) (add (word_bytes (3 * n)) o)) ≡ add (sheet_of m) o
  unfolding sheet_of
  sheet_put =
      let s : 3 * n ≡ steps_of m = omega arith in
      let t : 2 + 36 * n ≡ 2 + entry_size * steps_of m = omega arith in
      rw (t, s) (simp add_append)

-- its size
entries_length : (offset : ℕ) (bs : List Named) → length (entries_of offset bs) ≡ 36 * length bs
unfolding entries_of entry_of
entries_length offset [] = refl
entries_length offset (b ∷ bs) = let e = entries_length (offset + 2 * block_size b.flash) bs in omega arith

bodies_append : (m : Memory) (xs ys : List Named) → length (bodies_of m (xs ++ ys)) ≡ length (bodies_of m xs) + length (bodies_of m ys)
unfolding bodies_of
bodies_append m [] ys = omega arith
bodies_append m (b ∷ xs) ys = let e = bodies_append m xs ys in simp length-append (omega arith)

cells_length : (cs : List ℕ) → length (cell_bytes cs) ≡ length cs
unfolding cell_bytes
cells_length [] = refl
cells_length (c ∷ cs) = ap suc (cells_length cs)

module _ (m : Memory) (f : Flash) (size : ℕ) (s : size ≡ block_size f) (fit : length (flash_of m f) ≡ blocks small f * block_size f) where
  bodies_length : (n i : ℕ) → i + n ≤ blocks small f → length (bodies_of m (named_from m f i n)) ≡ length (named_from m f i n) * (size + size)
  unfolding named_from bodies_of
  bodies_length zero i h = sym (zero-mul (size + size))
  bodies_length (suc n) i h = go (any_given (block_cells m f i)) (named_from m f (i + 1) n) (bodies_length n (i + 1) (omega arith))
    where
      b : length (cell_bytes (block_cells m f i)) ≡ size
      b = cells_length (block_cells m f i) ∙ length_part (block_size f) i (flash_of m f) (inside (block_size f) (blocks small f) i fit (omega arith)) ∙ sym s

      go : (x : Bool) (l : List Named) → length (bodies_of m l) ≡ length l * (size + size) → length (bodies_of m (cond x (named f i ∷ l) l)) ≡ length (cond x (named f i ∷ l) l) * (size + size)
      go true l e = let t = suc-mul (length l) (size + size) in simp length-append (omega (arith, b, e, t))
      go false l e = e

module _ (m : Memory) (fit : length m.code ≡ 32768) (fits : length m.«data» ≡ 2048) (c d : ℕ)
    (e : c ≡ length (named_from m Code 0 16)) (g : d ≡ length (named_from m Data 0 8)) where
  pub named_count : c + d ≡ length (blocks_named m)
  unfolding blocks_named
  named_count = simp length-append (omega arith)

  all_bodies : length (bodies_of m (blocks_named m)) ≡ 4096 * c + 512 * d
  unfolding blocks_named
  all_bodies =
      let x = bodies_length m Code 2048 refl fit 16 0 (omega arith) in
      let y = bodies_length m Data 256 refl fits 8 0 (omega arith) in
      omega (arith, x, y, bodies_append m (named_from m Code 0 16) (named_from m Data 0 8))

  pub sheet_length : 2 + 36 * (c + d) + 4096 * c + 512 * d ≡ length (sheet_of m)
  unfolding sheet_of
  sheet_length =
      let ns = blocks_named m in
      let t = entries_of (2 + entry_size * steps_of m) ns in
      let u = length-append (word_bytes (steps_of m)) t in
      let v = length-append (word_bytes (steps_of m) ++ t) (bodies_of m ns) in
      omega (arith, u, v, entries_length (2 + entry_size * steps_of m) ns, all_bodies, named_count)

-- ---- what is made ----

module _ (m : Memory) (room : ℕ) (s buf : List ℕ) where
  refused_as_lem : (h : HexRefusal) → sheet_made m room ≡ Refused h → making_of (sheet_made m room) s buf ≡ record { made = Refused h; out = buf }
  unfolding making_of
  refused_as_lem h e = rw e

  pub many_steps : most_steps < steps_of m → making_of (sheet_made m room) s buf ≡ record { made = Refused ManySteps; out = buf }
  unfolding sheet_made first
  many_steps h = refused_as_lem ManySteps (simp (lt-ltb _ _ h))

  module _ (few : steps_of m ≤ most_steps) where
    pub many_bytes : 65536 < length (sheet_of m) → making_of (sheet_made m room) s buf ≡ record { made = Refused ManyBytes; out = buf }
    unfolding sheet_made first
    many_bytes h = refused_as_lem ManyBytes (simp (le-ltb _ _ few, lt-ltb _ _ h))

    module _ (fits : length (sheet_of m) ≤ 65536) where
      pub short_buffer : room < length (sheet_of m) → making_of (sheet_made m room) s buf ≡ record { made = Refused ShortBuffer; out = buf }
      unfolding sheet_made first
      short_buffer h = refused_as_lem ShortBuffer (simp (le-ltb _ _ few, le-ltb _ _ fits, lt-ltb _ _ h))

      is_made : length (sheet_of m) ≤ room → sheet_made m room ≡ Sheet (length (sheet_of m))
      unfolding sheet_made first
      is_made h = simp (le-ltb _ _ few, le-ltb _ _ fits, le-ltb _ _ h)

      pub with_room : length (sheet_of m) ≤ room → making_of (sheet_made m room) s buf ≡ record { made = Sheet (length (sheet_of m)); out = over s buf }
      unfolding making_of
      with_room h = rw (is_made h)

-- ---- the call, by what the text was read to ----

-- by what came of the text in cells of which none was given
pub read_to : (text : List ℕ) (none k : Memory) (x r : read.HexRead) → none ≡ no_cells → reading x k ≡ hex_read text none → x ≡ r → hex_read text no_cells ≡ reading r k
read_to text none k x r a e f = ap (hex_read text) (sym a) ∙ sym e ∙ ap (λ (y : read.HexRead). reading y k) f

module _ (text buf : List ℕ) (k : Memory) where
  pub no_end : hex_read text no_cells ≡ reading read.On k → hex_made text buf ≡ record { made = Refused NoEnd; out = buf }
  unfolding hex_made made_of
  no_end e = rw e

  pub text_refused : (h : HexRefusal) → hex_read text no_cells ≡ reading (read.Refused h) k → hex_made text buf ≡ record { made = Refused h; out = buf }
  unfolding hex_made made_of
  text_refused h e = rw e

  pub text_ended : hex_read text no_cells ≡ reading read.Ended k → hex_made text buf ≡ making_of (sheet_made k (length buf)) (sheet_of k) buf
  unfolding hex_made made_of
  text_ended e = rw e
