-- Laws of the head of a sheet, by its form; and the old reader. Assumes nothing.
use mathlib.Core.Path.{◌≡◌, refl}
use mathlib.Core.Bool.{Bool, true, false, cond}
use mathlib.Core.List.{List}
use Prim.Native.Nat.{ℕ, ◌≤◌}
use native.Mathlib.Omega.{arith}
use lib.Dec.{eqb, ltb}
use lib.ListN.{length, get_or-eq_default}
use borrow.Author.Tests.{ltb-true, eqb-true, lt-ltb, ne_eqb}
use Rattle.rules.specs.declared.Refusal.TheVariants as r
use Rattle.rules.specs.Answers.{Refused}
use Rattle.rules.specs.First.{first}
use Rattle.rules.specs.Chip.{byte_at, word_at, small}
use Rattle.rules.specs.Sheet.{form_two, chip_number, against, head_size, count, most_bytes, last_kind}
use Rattle.rules.proofs.Choices.{both}
use Rattle.sheet_forms.specs.OldReader.{old_verdict, OldReader}

-- ---- by the form ----

module _ (s : List ℕ) (form : form_two s ≡ false) where
  pub head_one : head_size s ≡ 2
  unfolding head_size
  head_one = rw (form, head_size)

  pub count_one : count s ≡ word_at s 0
  unfolding count
  count_one = rw form

  pub most_one : most_bytes s ≡ 65536
  unfolding most_bytes
  most_one = rw (form, most_bytes)

  pub kinds_one : last_kind s ≡ 4
  unfolding last_kind
  kinds_one = rw (form, last_kind)

  pub against_one : against s ≡ small
  unfolding against
  against_one = rw form

module _ (s : List ℕ) (form : form_two s ≡ true) where
  pub head_two : head_size s ≡ 6
  unfolding head_size
  head_two = rw (form, head_size)

  pub count_two : count s ≡ word_at s 4
  unfolding count
  count_two = rw form

  pub most_two : most_bytes s ≡ 65540
  unfolding most_bytes
  most_two = rw (form, most_bytes)

  pub kinds_two : last_kind s ≡ 6
  unfolding last_kind
  kinds_two = rw (form, last_kind)

  pub against_two : chip_number s ≡ 1 → against s ≡ small
  unfolding against
  against_two e = rw (form, e)

pub some_head : (s : List ℕ) → 2 ≤ head_size s
some_head s = go (form_two s) refl
  where
    go : (b : Bool) → form_two s ≡ b → 2 ≤ head_size s
    go true e = omega (arith, head_two s e)
    go false e = omega (arith, head_one s e)

-- a first byte that is not FEh
pub not_two : (s : List ℕ) → byte_at s 0 ≤ 64 → form_two s ≡ false
unfolding form_two
not_two s h = rw (ne_eqb (byte_at s 0) 0xFE (λ e. omega arith))

-- ---- the old reader ----

two_bytes : (s : List ℕ) → form_two s ≡ true → (byte_at s 0 ≡ 0xFE) × (byte_at s 1 ≡ 0x02)
unfolding form_two
two_bytes s form =
    let b = both (eqb (byte_at s 0) 0xFE) (eqb (byte_at s 1) 0x02) form in
    (eqb-true (byte_at s 0) 0xFE b.0, eqb-true (byte_at s 1) 0x02 b.1)

pub old_reader : OldReader
unfolding old_verdict first
old_reader s form = (word, go (ltb 65536 (length s)) refl)
  where
    word : word_at s 0 ≡ 766
    word = let b = two_bytes s form in omega (arith, b.0, b.1)

    -- a byte that is not 0 stands in the sheet
    there : (b : Bool) → ltb (length s) 2 ≡ b → b ≡ false
    there false e = refl
    there true e =
        let n : length s ≤ 1 = omega (arith, ltb-true (length s) 2 e) in
        absurd (omega (arith, (two_bytes s form).1, get_or-eq_default s 0 n))

    go : (b : Bool) → ltb 65536 (length s) ≡ b → old_verdict s ≡ Refused (cond b r.J1 r.J2)
    go true e = rw (there (ltb (length s) 2) refl, e)
    go false e = rw (there (ltb (length s) 2) refl, e, lt-ltb 64 (word_at s 0) (omega (arith, word)))
