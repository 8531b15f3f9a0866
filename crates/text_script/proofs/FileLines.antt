-- Laws of a chip file from a place on, with the end that `line_end` finds: one for each outcome. Assumes nothing.
use mathlib.Core.Path.{◌≡◌, refl, sym, ap}
use mathlib.Core.Bool.{true, false}
use mathlib.Core.List.{List, [], ◌∷◌}
use Prim.Native.Nat.{ℕ, ◌+◌, ◌-◌, ◌<◌, ◌≤◌}
use native.Mathlib.Omega.{arith}
use lib.ListN.{length, take, drop, replicate, length-drop, drop_of_length-le}
use borrow.Author.Tests.{lt-ltb, le-ltb}
use Rattle.rules.specs.declared.Chip.{Chip}
use Rattle.rules.specs.declared.Flash.{Flash}
use Rattle.rules.specs.declared.Options.{Options}
use Rattle.rules.specs.Chip.{Memory, small, known, flash_size, blank_byte}
use Rattle.rules.specs.Lines.{lines_of, first_line}
use Rattle.rules.specs.Options.{fresh_options}
use Rattle.text_read.proofs.Lines.{next_line, last_line}
use Rattle.std.specs.Prelude.{Some}
use Rattle.text_script.specs.declared.script_line.Line.{Line as Said}
use Rattle.text_script.specs.Answers.{States, BadLine}
use Rattle.text_script.specs.Script.{line_of}
use Rattle.text_script.specs.ChipFiles.{Stating, stating, lent_of, fresh_in, is_stating, stated_by, said_in, FileRead, file_read, lines_state, file_states}

-- ---- how much of the room is the chip's ----

module _ (chip : Chip) (f : Flash) (room : ℕ) where
  pub lent_none : known chip ≡ false → lent_of chip f room ≡ 0
  unfolding lent_of
  lent_none e = simp e

  pub lent_short : known chip ≡ true → room < flash_size chip f → lent_of chip f room ≡ room
  unfolding lent_of
  lent_short e h = simp (e, lt-ltb _ _ h)

  pub lent_whole : known chip ≡ true → flash_size chip f ≤ room → lent_of chip f room ≡ flash_size chip f
  unfolding lent_of
  lent_whole e h = simp (e, le-ltb _ _ h)

-- ---- one line ----

pub fresh_as : (chip : Chip) (o : Options) (x y : List ℕ) (m : Memory) → o ≡ fresh_options
    → x ≡ replicate (length m.code) blank_byte
    → y ≡ replicate (length m.«data») blank_byte
    → stating (record { chip = chip; options = o }) (record { code = x; «data» = y }) ≡ fresh_in chip m
fresh_as chip o x y m e f g = rw (e, f, g)

-- a line that is known says what it says
pub stated_as : (a k : Said) → a ≡ k → (t : List ℕ) (s : Stating) → stated_by (Some k) t s ≡ stated_by (Some a) t s
stated_as a k e t s = ap (λ (x : Said). stated_by (Some x) t s) (sym e)

pub said_as : (a c x y : ℕ) (t : List ℕ) → a ≡ x → c ≡ y → line_of a c t ≡ line_of x y t
said_as a c x y t e f = rw (e, f)

-- ---- the lines ----

pub from_fresh : (t : List ℕ) (m : Memory) (s : Stating) → s ≡ fresh_in small m → file_states t m ≡ lines_state (lines_of t).ended (lines_of t).rest 0 s
unfolding file_states
from_fresh t m s e = ap (lines_state (lines_of t).ended (lines_of t).rest 0) (sym e)

abbrev pub onward : List ℕ → ℕ → ℕ → Stating → FileRead
onward t at n s = lines_state (lines_of (drop at t)).ended (lines_of (drop at t)).rest n s

module _ (t : List ℕ) (at n : ℕ) (s : Stating) where
  pub file_end : length t ≤ at → onward t at n s ≡ file_read (States s.stated) s.memory
  unfolding lines_state lines_of
  file_end h = rw (drop_of_length-le t h)

  module _ (end : ℕ) (e : end ≡ at + length (first_line (drop at t))) where
    abbrev line_at : List ℕ
    line_at = take (end - at) (drop at t)

    pub file_unended : at < length t → length t ≤ end → onward t at n s ≡ file_read (BadLine (n + 1)) s.memory
    unfolding lines_state
    file_unended k g = rw (last_line t at end e g) (some (drop at t) (omega (arith, length-drop at t)))
      where
        some : (r : List ℕ) → 0 < length r → lines_state [] r n s ≡ file_read (BadLine (n + 1)) s.memory
        some [] j = absurd (omega arith)
        some (b ∷ r) j = refl

    pub file_bad : end < length t → is_stating (said_in s line_at) ≡ false → onward t at n s ≡ file_read (BadLine (n + 1)) s.memory
    unfolding lines_state
    file_bad k b = rw (next_line t at end e k, b)

    pub file_more : end < length t → is_stating (said_in s line_at) ≡ true → onward t at n s ≡ onward t (end + 1) (n + 1) (stated_by (said_in s line_at) line_at s)
    unfolding lines_state
    file_more k b = rw (next_line t at end e k, b)
