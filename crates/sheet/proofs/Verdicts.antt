-- Laws of the verdict: one for each answer, in the order of the rules. Assumes nothing.
use mathlib.Core.Path.{◌≡◌}
use mathlib.Core.Bool.{true, false}
use mathlib.Core.List.{List}
use Prim.Native.Nat.{ℕ, ◌<◌, ◌≤◌}
use lib.Dec.{ltb, leb}
use lib.ListN.{length}
use borrow.Author.Tests.{lt-ltb, le-ltb, ltb-false, le-leb, lt-leb, eq-eqb, ne_eqb}
use Rattle.rules.specs.declared.Chip.{Chip}
use Rattle.rules.specs.declared.Refusal.{Refusal}
use Rattle.rules.specs.declared.Refusal.TheVariants as r
use Rattle.rules.specs.Answers.{Accepted, Refused}
use Rattle.rules.specs.Chip.{known}
use Rattle.rules.specs.First.{first}
use Rattle.rules.proofs.Choices.{or_true, and_false}
use Rattle.rules.proofs.Sheet.{unbroken}
use Rattle.rules.specs.Sheet.{against, head_size, count, table_end, most_bytes, last_kind, kind_at, zero_at, offset_at, offset_due, body_end, J1, J2, J3, J4, J6, J9, J11, J12, J13, J14, head_verdict, entry_verdict, entries_verdict, sheet_verdict, verdict, step_at}
use Rattle.sheet.specs.Answers.{Is, NoStep}
use Rattle.sheet.specs.Reading.{reading_at}

-- ---- the head ----

module _ (s : List ℕ) where
  pub too_short : length s < head_size s → head_verdict s ≡ Refused r.J1
  unfolding head_verdict first
  too_short h = rw (lt-ltb (length s) (head_size s) h)

  pub too_long : most_bytes s < length s → head_verdict s ≡ Refused r.J1
  unfolding head_verdict first
  too_long h = rw (lt-ltb (most_bytes s) (length s) h, or_true (ltb (length s) (head_size s)))

  module _ (low : head_size s ≤ length s) (high : length s ≤ most_bytes s) where
    size_kept : J1 s ≡ false
    size_kept = rw (le-ltb (length s) (head_size s) low, le-ltb (most_bytes s) (length s) high)

    pub too_many : 64 < count s → head_verdict s ≡ Refused r.J2
    unfolding head_verdict first
    too_many h = rw (size_kept, lt-ltb 64 (count s) h)

    module _ (few : count s ≤ 64) where
      pub chip_broken : J11 s ≡ true → head_verdict s ≡ Refused r.J11
      unfolding head_verdict first
      chip_broken h = rw (size_kept, le-ltb 64 (count s) few, h)

      module _ (named : J11 s ≡ false) where
        pub cut_short : length s < table_end s → head_verdict s ≡ Refused r.J3
        unfolding head_verdict first
        cut_short h =
            rw (size_kept, le-ltb 64 (count s) few, named, lt-ltb (length s) (table_end s) h)

        pub head_allowed : table_end s ≤ length s → head_verdict s ≡ Accepted
        unfolding head_verdict first
        head_allowed h =
            rw (size_kept, le-ltb 64 (count s) few, named, le-ltb (length s) (table_end s) h)

-- an accepted head says that the table is there
pub table_there : (s : List ℕ) → head_verdict s ≡ Accepted → table_end s ≤ length s
unfolding head_verdict first
table_there s e =
    let a = unbroken (J1 s) _ _ e in
    let b = unbroken (J2 s) _ _ a.1 in
    let d = unbroken (J11 s) _ _ b.1 in
    ltb-false (length s) (table_end s) (unbroken (J3 s) _ _ d.1).0

-- ---- an entry ----

module _ (chip : Chip) (s : List ℕ) (i : ℕ) where
  pub kind_under : kind_at s i < 1 → entry_verdict chip s i ≡ Refused r.J4
  unfolding entry_verdict first
  kind_under h = rw (lt-leb 1 (kind_at s i) h)

  pub kind_over : last_kind s < kind_at s i → entry_verdict chip s i ≡ Refused r.J4
  unfolding entry_verdict first
  kind_over h = rw (lt-leb (kind_at s i) (last_kind s) h, and_false (leb 1 (kind_at s i)))

  module _ (low : 1 ≤ kind_at s i) (high : kind_at s i ≤ last_kind s) where
    kind_kept : J4 s i ≡ false
    kind_kept = rw (le-leb 1 (kind_at s i) low, le-leb (kind_at s i) (last_kind s) high)

    pub zero_broken : (zero_at s i ≡ 0 → ⊥) → entry_verdict chip s i ≡ Refused r.J5
    unfolding entry_verdict first
    zero_broken h = rw (kind_kept, ne_eqb (zero_at s i) 0 h)

    module _ (zero : zero_at s i ≡ 0) where
      pub pair_broken : J6 chip s i ≡ true → entry_verdict chip s i ≡ Refused r.J6
      unfolding entry_verdict first
      pair_broken h = rw (kind_kept, eq-eqb (zero_at s i) 0 zero, h)

      module _ (pair : J6 chip s i ≡ false) where
        pub lock_broken : J12 s i ≡ true → entry_verdict chip s i ≡ Refused r.J12
        unfolding entry_verdict first
        lock_broken h = rw (kind_kept, eq-eqb (zero_at s i) 0 zero, pair, h)

        module _ (lock : J12 s i ≡ false) where
          pub offset_broken : (offset_at s i ≡ offset_due s i → ⊥) → entry_verdict chip s i ≡ Refused r.J7
          unfolding entry_verdict first
          offset_broken h =
              rw (kind_kept, eq-eqb (zero_at s i) 0 zero, pair, lock, ne_eqb (offset_at s i) (offset_due s i) h)

          module _ (offset : offset_at s i ≡ offset_due s i) where
            pub body_broken : length s < body_end s i → entry_verdict chip s i ≡ Refused r.J8
            unfolding entry_verdict first
            body_broken h =
                rw (kind_kept, eq-eqb (zero_at s i) 0 zero, pair, lock, eq-eqb (offset_at s i) (offset_due s i) offset, lt-ltb (length s) (body_end s i) h)

            pub entry_allowed : body_end s i ≤ length s → entry_verdict chip s i ≡ Accepted
            unfolding entry_verdict first
            entry_allowed h =
                rw (kind_kept, eq-eqb (zero_at s i) 0 zero, pair, lock, eq-eqb (offset_at s i) (offset_due s i) offset, le-ltb (length s) (body_end s i) h)

-- ---- the whole sheet ----

module _ (s : List ℕ) where
  pub head_refused : (n : Refusal) → head_verdict s ≡ Refused n → sheet_verdict s ≡ Refused n
  unfolding sheet_verdict
  head_refused n h = rw h

  module _ (head : head_verdict s ≡ Accepted) where
    pub entries_refused : (n : Refusal) → entries_verdict (against s) s 0 (count s) ≡ Refused n → sheet_verdict s ≡ Refused n
    unfolding sheet_verdict
    entries_refused n h = rw (head, h)

    module _ (entries : entries_verdict (against s) s 0 (count s) ≡ Accepted) where
      pub bytes_left : J9 s ≡ true → sheet_verdict s ≡ Refused r.J9
      unfolding sheet_verdict first
      bytes_left h = rw (head, entries, h)

      module _ (end : J9 s ≡ false) where
        pub written_again : J13 s ≡ true → sheet_verdict s ≡ Refused r.J13
        unfolding sheet_verdict first
        written_again h = rw (head, entries, end, h)

        pub sheet_allowed : J13 s ≡ false → sheet_verdict s ≡ Accepted
        unfolding sheet_verdict first
        sheet_allowed h = rw (head, entries, end, h)

-- ---- the chip to be played to, and the room for its sums ----

module _ (chip : Chip) (s : List ℕ) (room : ℕ) where
  pub no_chip : known chip ≡ false → verdict chip s room ≡ Refused r.D0
  unfolding verdict first
  no_chip h = rw h

  module _ (counts : known chip ≡ true) where
    pub sheet_refused : (n : Refusal) → sheet_verdict s ≡ Refused n → verdict chip s room ≡ Refused n
    unfolding verdict first
    sheet_refused n h = rw (counts, h)

    module _ (sheet : sheet_verdict s ≡ Accepted) where
      pub for_another : J14 chip s ≡ true → verdict chip s room ≡ Refused r.J14
      unfolding verdict first
      for_another h = rw (counts, sheet, h)

      module _ (own : J14 chip s ≡ false) where
        pub no_room : room < count s → verdict chip s room ≡ Refused r.J10
        unfolding verdict first
        no_room h = rw (counts, sheet, own, lt-ltb room (count s) h)

        pub room_allowed : count s ≤ room → verdict chip s room ≡ Accepted
        unfolding verdict first
        room_allowed h = rw (counts, sheet, own, le-ltb room (count s) h)

-- ---- a step, read from a sheet that was not judged ----

module _ (s : List ℕ) (i : ℕ) where
  pub no_sheet_lem : (n : Refusal) → sheet_verdict s ≡ Refused n → reading_at s i ≡ NoStep
  unfolding reading_at
  no_sheet_lem n h = rw h

  module _ (judged : sheet_verdict s ≡ Accepted) where
    pub no_step : count s ≤ i → reading_at s i ≡ NoStep
    unfolding reading_at
    no_step h = rw (judged, le-ltb i (count s) h)

    pub step_there : i < count s → reading_at s i ≡ Is (step_at (against s) s i)
    unfolding reading_at
    step_there h = rw (judged, lt-ltb i (count s) h)
