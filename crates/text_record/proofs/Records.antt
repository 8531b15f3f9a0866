-- Laws of a line by itself: one for each outcome; and how long a record of bytes is. Assumes nothing.
use Rattle.std.proofs.Common.{◌≡◌, ℕ, ◌+◌, ◌%◌, ◌<◌, Bool, true, false, cond, not, eqb, leb, List, length, get_or, drop, sym, refl, ap, ◌∙◌, arith, length-drop, length-take, get_or-drop, get_or-take, eq-eqb, ne_eqb, eqb-true}
use Rattle.rules.specs.HexLines.{HexLine, Bytes, End, Upper, BadForm, WrongSum, OtherType}
use Rattle.rules.specs.First.{first}
use Rattle.rules.specs.Chip.{byte_at, total}
use Rattle.rules.specs.Lines.{is_pairs, pair_bytes}
use Rattle.rules.specs.Hex.{length_of, offset_of, type_of, data_of, type_form, typed, record_kind, line_kind}
use Rattle.rules.proofs.Choices.{picked}

-- ---- the types ----

module _ (t : ℕ) where
  pub typed_bytes : t ≡ 0 → typed t ≡ Bytes
  unfolding typed
  typed_bytes e = simp (eq-eqb _ _ e)

  module _ (z : t ≡ 0 → ⊥) where
    pub typed_end : t ≡ 1 → typed t ≡ End
    unfolding typed
    typed_end e = simp (ne_eqb _ _ z, eq-eqb _ _ e)

    module _ (o : t ≡ 1 → ⊥) where
      pub typed_upper : t ≡ 4 → typed t ≡ Upper
      unfolding typed
      typed_upper e = simp (ne_eqb _ _ z, ne_eqb _ _ o, eq-eqb _ _ e)

      pub typed_other : (t ≡ 4 → ⊥) → typed t ≡ OtherType
      unfolding typed
      typed_other n = simp (ne_eqb _ _ z, ne_eqb _ _ o, ne_eqb _ _ n)

-- with the type, length and offset that the code has
module _ (bs : List ℕ) (t : ℕ) (e : t ≡ type_of bs) (n : ℕ) (f : n ≡ length_of bs) where
  pub form_bytes : (a : ℕ) → a ≡ offset_of bs → t ≡ 0 → type_form bs ≡ leb (a + n) 0x10000
  unfolding type_form
  form_bytes a g h = rw (← e, ← f, ← g) (simp (eq-eqb _ _ h))

  module _ (z : t ≡ 0 → ⊥) where
    pub form_end : t ≡ 1 → type_form bs ≡ eqb n 0
    unfolding type_form
    form_end h = rw (← e, ← f) (simp (ne_eqb _ _ z, eq-eqb _ _ h))

    module _ (o : t ≡ 1 → ⊥) where
      pub form_upper : t ≡ 4 → type_form bs ≡ eqb n 2
      unfolding type_form
      form_upper h = rw (← e, ← f) (simp (ne_eqb _ _ z, ne_eqb _ _ o, eq-eqb _ _ h))

      pub form_other : (t ≡ 4 → ⊥) → type_form bs ≡ true
      unfolding type_form
      form_other h = rw (← e, ← f) (simp (ne_eqb _ _ z, ne_eqb _ _ o, ne_eqb _ _ h))

-- ---- a record ----

module _ (bs : List ℕ) where
  pub other_length : (length bs ≡ length_of bs + 5 → ⊥) → record_kind bs ≡ BadForm
  unfolding record_kind first
  other_length h = simp (ne_eqb _ _ h)

  module _ (h : length bs ≡ length_of bs + 5) where
    pub other_form : type_form bs ≡ false → record_kind bs ≡ BadForm
    unfolding record_kind first
    other_form f = simp (eq-eqb _ _ h, f)

    module _ (f : type_form bs ≡ true) where
      pub other_sum : (total bs % 256 ≡ 0 → ⊥) → record_kind bs ≡ WrongSum
      unfolding record_kind first
      other_sum s = simp (eq-eqb _ _ h, f, ne_eqb _ _ s)

      pub well_typed : total bs % 256 ≡ 0 → record_kind bs ≡ typed (type_of bs)
      unfolding record_kind first
      well_typed s = simp (eq-eqb _ _ h, f, eq-eqb _ _ s)

-- ---- a line ----

module _ (l : List ℕ) where
  pub no_colon : (byte_at l 0 ≡ 0x3A → ⊥) → line_kind l ≡ BadForm
  unfolding line_kind
  no_colon n = simp (ne_eqb _ _ n)

  pub no_pairs : byte_at l 0 ≡ 0x3A → is_pairs (drop 1 l) ≡ false → line_kind l ≡ BadForm
  unfolding line_kind
  no_pairs e f = simp (eq-eqb _ _ e, f)

  pub of_pairs : byte_at l 0 ≡ 0x3A → is_pairs (drop 1 l) ≡ true → line_kind l ≡ record_kind (pair_bytes (drop 1 l))
  unfolding line_kind
  of_pairs e f = simp (eq-eqb _ _ e, f)

-- ---- a record of bytes has its length ----

abbrev formed : HexLine → ℕ
formed BadForm = 0
formed WrongSum = 1
formed OtherType = 1
formed Bytes = 1
formed End = 1
formed Upper = 1

not_bad : Bytes ≡ BadForm → ⊥
not_bad e = let z : ◌≡◌ {A = ℕ} 1 0 = ap formed e in omega arith

record_length : (bs : List ℕ) → record_kind bs ≡ Bytes → length bs ≡ length_of bs + 5
unfolding record_kind first
record_length bs e = go (eqb (length bs) (length_of bs + 5)) refl _ e
  where
    go : (x : Bool) → eqb (length bs) (length_of bs + 5) ≡ x → (k : HexLine) → cond (not x) BadForm k ≡ Bytes → length bs ≡ length_of bs + 5
    go true p k q = eqb-true _ _ p
    go false p k q = absurd (not_bad (sym q))

pub bytes_length : (l : List ℕ) → line_kind l ≡ Bytes → length (pair_bytes (drop 1 l)) ≡ length_of (pair_bytes (drop 1 l)) + 5
unfolding line_kind
bytes_length l e =
    let bs = pair_bytes (drop 1 l) in
    let p = picked (eqb (byte_at l 0) 0x3A) (cond (is_pairs (drop 1 l)) (record_kind bs) BadForm) BadForm Bytes e not_bad in
    let q = picked (is_pairs (drop 1 l)) (record_kind bs) BadForm Bytes p.1 not_bad in
    record_length bs q.1

module _ (bs : List ℕ) where
  pub data_length : length bs ≡ length_of bs + 5 → length (data_of bs) ≡ length_of bs
  data_length h = omega (arith, length-take (length_of bs) (drop 4 bs), length-drop 4 bs)

  pub data_at : (i : ℕ) → i < length (data_of bs) → get_or (data_of bs) i 0 ≡ get_or bs (4 + i) 0
  data_at i h =
      let g : i < length_of bs = omega (arith, length-take (length_of bs) (drop 4 bs)) in
      get_or-take (length_of bs) (drop 4 bs) i 0 g ∙ get_or-drop 4 bs i 0
