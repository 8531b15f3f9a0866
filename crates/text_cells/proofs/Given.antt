-- Laws of cells: given or not, and bytes put into them. Assumes nothing.
use mathlib.Core.Path.{◌≡◌, refl, ap, ◌∙◌}
use mathlib.Core.Bool.{Bool, true, false, cond}
use mathlib.Core.List.{List, [], ◌∷◌}
use Prim.Native.Nat.{ℕ, ◌+◌, ◌-◌, ◌<◌, ◌≤◌}
use lib.Dec.{leb, ltb}
use Rattle.std.specs.Prelude.{◌||◌}
use Rattle.std.specs.List.{list_any}
use native.Mathlib.Omega.{arith}
use lib.ListN.{length, take, drop}
use borrow.Author.Tests.{le-leb, lt-leb, eq-eqb, ne_eqb}
use Rattle.rules.specs.declared.Flash.{Flash}
use Rattle.rules.specs.declared.Flash.TheVariants.{Code, Data}
use Rattle.rules.specs.Answers.{HexRead, On, Refused}
use Rattle.rules.specs.declared.hex.HexRefusal.TheVariants.{Outside, Twice}
use Rattle.rules.specs.Chip.{Memory, flash_of, with_flash}
use Rattle.rules.specs.Hex.{any_given, put_bytes, taken, lies_in, bytes_in, bytes_at}
use Rattle.rules.proofs.Choices.{and_false}
use Rattle.text_cells.specs.OneFlash.{Held, held_in}

pub given_any : (cs : List ℕ) → any_given cs ≡ list_any (λ x. ltb x 256) cs
unfolding any_given
given_any [] = refl
given_any (c ∷ cs) = go (ltb c 256) (given_any cs)
  where
    go : (x : Bool) → any_given cs ≡ list_any (λ y. ltb y 256) cs → cond x true (any_given cs) ≡ (x || list_any (λ y. ltb y 256) cs)
    go true e = refl
    go false e = e

-- ---- the bytes of a record in one flash ----

module _ (n at : ℕ) (bs cs : List ℕ) where
  pub held_twice : any_given (take (length bs) (drop at cs)) ≡ true → held_in n at bs cs ≡ record { read = Refused (Twice n); cells = cs }
  unfolding held_in
  held_twice e = simp e

  pub held_put : any_given (take (length bs) (drop at cs)) ≡ false → held_in n at bs cs ≡ record { read = On; cells = put_bytes at bs cs }
  unfolding held_in
  held_put e = simp e

-- a flash put back
same_flash_lem : (m : Memory) (f : Flash) → with_flash m f (flash_of m f) ≡ m
same_flash_lem m Code = refl
same_flash_lem m Data = refl

module _ (f : Flash) (n at : ℕ) (bs : List ℕ) (u : ℕ) (m : Memory) (r : HexRead) (cs : List ℕ) where
  pub held_in_lem : ◌≡◌ {A = Held} (record { read = r; cells = cs }) (held_in n at bs (flash_of m f)) → taken r u (with_flash m f cs) ≡ bytes_in f n at bs u m
  unfolding held_in bytes_in
  held_in_lem e = go (any_given (take (length bs) (drop at (flash_of m f)))) (put_bytes at bs (flash_of m f)) e
    where
      go : (x : Bool) (new : List ℕ) → ◌≡◌ {A = Held} (record { read = r; cells = cs }) (cond x (record { read = Refused (Twice n); cells = flash_of m f }) (record { read = On; cells = new }))
          → taken r u (with_flash m f cs) ≡ cond x (taken (Refused (Twice n)) u m) (taken On u (with_flash m f new))
      go true new q = ap (λ (h : Held). taken h.read u (with_flash m f h.cells)) q ∙ ap (λ (k : Memory). taken (Refused (Twice n)) u k) (same_flash_lem m f)
      go false new q = ap (λ (h : Held). taken h.read u (with_flash m f h.cells)) q

-- ---- the bytes of a record from an address on ----

module _ (n a : ℕ) (bs : List ℕ) (u : ℕ) (m : Memory) where
  pub at_none : length bs ≡ 0 → bytes_at n a bs u m ≡ taken On u m
  unfolding bytes_at
  at_none h = simp (eq-eqb _ _ h)

  module _ (some : length bs ≡ 0 → ⊥) where
    pub at_code : a + length bs ≤ 0x8000 → bytes_at n a bs u m ≡ bytes_in Code n a bs u m
    unfolding bytes_at
    at_code h =
        let s : leb 0 a ≡ true = le-leb 0 a (omega arith) in
        let e : leb (a + length bs) 0x8000 ≡ true = le-leb _ _ h in
        let z : a - 0 ≡ a = omega arith in
        rw (ne_eqb (length bs) 0 some, s, e, z)

    module _ (past : 0x8000 < a + length bs) where
      no_code : lies_in Code a (length bs) ≡ false
      no_code = let e : leb (a + length bs) 0x8000 ≡ false = lt-leb _ _ past in rw e (and_false (leb 0 a))

      pub at_data : 0xF1000 ≤ a → a + length bs ≤ 0xF1800 → bytes_at n a bs u m ≡ bytes_in Data n (a - 0xF1000) bs u m
      unfolding bytes_at
      at_data h g =
          let s : leb 0xF1000 a ≡ true = le-leb _ _ h in
          let e : leb (a + length bs) 0xF1800 ≡ true = le-leb _ _ g in
          rw (ne_eqb (length bs) 0 some, no_code, s, e)

      no_data : lies_in Data a (length bs) ≡ false → bytes_at n a bs u m ≡ taken (Refused (Outside n)) u m
      unfolding bytes_at
      no_data e = rw (ne_eqb (length bs) 0 some, no_code, e)

      pub at_gap : a < 0xF1000 → bytes_at n a bs u m ≡ taken (Refused (Outside n)) u m
      at_gap h = no_data (let e : leb 0xF1000 a ≡ false = lt-leb _ _ h in rw e)

      pub at_end : 0xF1800 < a + length bs → bytes_at n a bs u m ≡ taken (Refused (Outside n)) u m
      at_end h = no_data (let e : leb (a + length bs) 0xF1800 ≡ false = lt-leb _ _ h in rw e (and_false (leb 0xF1000 a)))
