-- Laws of what a line says, an outcome each, and of bytes stored in a flash. Assumes nothing.
use mathlib.Core.Path.{◌≡◌, refl}
use mathlib.Core.Bool.{Bool, true, false, cond}
use mathlib.Core.List.{List}
use Prim.Native.Nat.{ℕ, ◌+◌, ◌-◌, ◌<◌, ◌≤◌}
use lib.ListN.{length, get_or, drop}
use borrow.Author.Tests.{eq-eqb, ne_eqb, lt-ltb, le-ltb}
use Rattle.rules.specs.declared.Flash.{Flash}
use Rattle.rules.specs.declared.Flash.TheVariants.{Code, Data}
use Rattle.rules.specs.Chip.{small, same, block, first_byte}
use Rattle.rules.specs.Text.{ascii}
use Rattle.rules.specs.Lines.{between, starts_with, is_row, row_bytes}
use Rattle.chip_finder.specs.LentFlashes.{memory}
use Rattle.text_read.specs.Answers as number
use Rattle.text_read.specs.Bytes.{is_bytes, Stored, stored}
use Rattle.text_read.specs.Numerals.{hex_of}
use Rattle.text_read.specs.Chips.{chip_named}
use Rattle.std.specs.Prelude.{Some, None}
use Rattle.std.specs.Bool.{then_some}
use Rattle.text_script.specs.declared.script_line.Line.{Line as Said}
use Rattle.text_script.specs.declared.script_line.Line.TheVariants as said
use Rattle.text_script.specs.Answers.{Bad, OfChip, Store, PowerOn, Bytes, Show, Sheet, Play}
use Rattle.text_script.specs.Script.{place_of, placed, store_of, field_of, with_options, options_of, chip_of, handed_of, word_of, row_line, line_of}
use Rattle.text_script.specs.Chips.{stored_in}

-- ---- a place in a flash ----

module _ (f : Flash) (size a n : ℕ) where
  pub below : a < (first_byte f (block 0)).0 → place_of f size a n ≡ Bad
  unfolding place_of
  below h = simp (lt-ltb _ _ h)

  pub outside : (first_byte f (block 0)).0 ≤ a → size < a - (first_byte f (block 0)).0 + n → place_of f size a n ≡ Bad
  unfolding place_of
  outside h g = simp (le-ltb _ _ h, lt-ltb _ _ g)

  pub inside : (first_byte f (block 0)).0 ≤ a → a - (first_byte f (block 0)).0 + n ≤ size → place_of f size a n ≡ Store f (a - (first_byte f (block 0)).0)
  unfolding place_of
  inside h g = simp (le-ltb _ _ h, le-ltb _ _ g)

module _ (f : Flash) (size : ℕ) (t : List ℕ) where
  pub no_row : is_bytes (drop 10 t) ≡ false → store_of f size t ≡ Bad
  unfolding store_of
  no_row e = simp e

  pub no_address : is_bytes (drop 10 t) ≡ true → hex_of 5 (between 5 10 t) ≡ number.Bad → store_of f size t ≡ Bad
  unfolding store_of placed
  no_address e g = simp (e, g)

  pub at_address : (a : ℕ) → is_bytes (drop 10 t) ≡ true → hex_of 5 (between 5 10 t) ≡ number.Value a → store_of f size t ≡ place_of f size a (length (row_bytes (drop 10 t)))
  unfolding store_of placed
  at_address a e g = simp (e, g)

-- ---- options ----

module _ (s n : ℕ) (t : List ℕ) where
  pub field_past : length t ≤ s → field_of s n t ≡ number.Bad
  unfolding field_of
  field_past h = simp (le-ltb _ _ h)

  pub field_no : s < length t → (get_or t s 0 ≡ 0x20 → ⊥) → field_of s n t ≡ number.Bad
  unfolding field_of
  field_no h e = simp (lt-ltb _ _ h, ne_eqb _ _ e)

  pub field_some : s < length t → get_or t s 0 ≡ 0x20 → field_of s n t ≡ hex_of n (between 0 n (drop (s + 1) t))
  unfolding field_of
  field_some h e = simp (lt-ltb _ _ h, eq-eqb _ _ e)

module _ (t : List ℕ) where
  pub options_other : (length t ≡ 23 → ⊥) → options_of t ≡ Bad
  unfolding options_of
  options_other n = simp (ne_eqb _ _ n)

  pub options_four : length t ≡ 23 → options_of t ≡ with_options (field_of 7 2 t) (field_of 10 2 t) (field_of 13 4 t) (field_of 18 4 t)
  unfolding options_of
  options_four e = simp (eq-eqb _ _ e)

  -- ---- a word ----

  module _ (a : same t (ascii "!") ≡ false) where
    module _ (b : same t (ascii "?") ≡ false) where
      module _ (c : same t (ascii "play") ≡ false) where
        pub word_fresh : same t (ascii "fresh") ≡ true → word_of t ≡ OfChip small
        unfolding word_of
        word_fresh e = rw (a, b, c, e)

        module _ (d : same t (ascii "fresh") ≡ false) where
          pub word_chip : starts_with (ascii "chip ") t ≡ true → word_of t ≡ chip_of (chip_named (drop 5 t))
          unfolding word_of
          word_chip e = rw (a, b, c, d, e)

          module _ (f : starts_with (ascii "chip ") t ≡ false) where
            pub word_frame : starts_with (ascii "frame") t ≡ true → word_of t ≡ handed_of (drop 5 t)
            unfolding word_of
            word_frame e = rw (a, b, c, d, f, e)

            pub word_none : starts_with (ascii "frame") t ≡ false → word_of t ≡ Bad
            unfolding word_of
            word_none e = rw (a, b, c, d, f, e)

      pub word_play : same t (ascii "play") ≡ true → word_of t ≡ Play
      unfolding word_of
      word_play e = rw (a, b, e)

    pub word_show : same t (ascii "?") ≡ true → word_of t ≡ Show
    unfolding word_of
    word_show e = rw (a, e)

  pub word_on : same t (ascii "!") ≡ true → word_of t ≡ PowerOn
  unfolding word_of
  word_on e = rw e

-- ---- a row ----

chosen : {A : Type 0} (b : Bool) (x : A) → then_some b x ≡ cond b (Some x) None
chosen true x = refl
chosen false x = refl

-- a good row says so, and another is bad
pub handed_said : (r : List ℕ) → then_some (is_row r) said.Frame ≡ handed_of r
unfolding handed_of
handed_said r = chosen (is_row r) said.Frame

pub row_said : (x : Said) (r : List ℕ) → then_some (is_bytes r) x ≡ row_line (Some x) r
unfolding row_line
row_said x r = chosen (is_bytes r) x

-- ---- a line, by what it begins with ----

module _ (m n : ℕ) (t : List ℕ) where
  pub says_sent : starts_with (ascii ">") t ≡ true → line_of m n t ≡ row_line Bytes (drop 1 t)
  unfolding line_of
  says_sent e = rw e

  module _ (a : starts_with (ascii ">") t ≡ false) where
    pub says_sheet : starts_with (ascii "sheet") t ≡ true → line_of m n t ≡ row_line Sheet (drop 5 t)
    unfolding line_of
    says_sheet e = rw (a, e)

    module _ (b : starts_with (ascii "sheet") t ≡ false) where
      pub says_options : starts_with (ascii "options ") t ≡ true → line_of m n t ≡ options_of t
      unfolding line_of
      says_options e = rw (a, b, e)

      module _ (c : starts_with (ascii "options ") t ≡ false) where
        pub says_code : starts_with (ascii "code ") t ≡ true → line_of m n t ≡ store_of Code m t
        unfolding line_of
        says_code e = rw (a, b, c, e)

        module _ (d : starts_with (ascii "code ") t ≡ false) where
          pub says_data : starts_with (ascii "data ") t ≡ true → line_of m n t ≡ store_of Data n t
          unfolding line_of
          says_data e = rw (a, b, c, d, e)

          pub says_word : starts_with (ascii "data ") t ≡ false → line_of m n t ≡ word_of t
          unfolding line_of
          says_word e = rw (a, b, c, d, e)

-- ---- bytes stored in a flash ----

module _ (f : Flash) (at : ℕ) (bs c d : List ℕ) (s : Stored) where
  pub stored_code : f ≡ Code → s ≡ stored at bs c → memory s.bytes d ≡ stored_in f at bs (memory c d)
  unfolding stored_in
  stored_code e g = rw (e, g)

  pub stored_data : f ≡ Data → s ≡ stored at bs d → memory c s.bytes ≡ stored_in f at bs (memory c d)
  unfolding stored_in
  stored_data e g = rw (e, g)
