-- Laws of the entries one after another, from any entry on and for so many left. Assumes nothing.
use mathlib.Core.Path.{◌≡◌, refl}
use mathlib.Core.List.{List}
use Prim.Native.Nat.{ℕ, ◌+◌}
use native.Mathlib.Numerals.{add-one}
use Rattle.rules.specs.declared.Chip.{Chip}
use Rattle.rules.specs.declared.Refusal.{Refusal}
use Rattle.std.specs.Prelude.{Result, Ok, Err}
use Rattle.rules.specs.Answers.{Verdict, Accepted, Refused}
use Rattle.rules.specs.Sheet.{entry_verdict, entries_verdict}
use Rattle.sheet.specs.Entry.{ended}

module _ (chip : Chip) (s : List ℕ) (i : ℕ) where
  pub none_left : (left : ℕ) → left ≡ 0 → entries_verdict chip s i left ≡ Accepted
  unfolding entries_verdict
  none_left left e = rw e

  module _ (left rest : ℕ) (more : left ≡ rest + 1) where
    pub one_refused : (n : Refusal) → entry_verdict chip s i ≡ Refused n → entries_verdict chip s i left ≡ Refused n
    unfolding entries_verdict
    one_refused n e = rw (more, add-one rest, e)

    pub one_accepted : entry_verdict chip s i ≡ Accepted → entries_verdict chip s i left ≡ entries_verdict chip s (i + 1) rest
    unfolding entries_verdict
    one_accepted e = rw (more, add-one rest, e)

-- what the entries came to, of what they are said to have come to
pub ended_well : (v : Verdict) (due end : ℕ) → ◌≡◌ {A = Result ℕ Refusal} (Ok end) (ended v due) → (v ≡ Accepted) × (end ≡ due)
unfolding ended
ended_well Accepted due end e = (refl, cc)
ended_well (Refused n) due end e = absurd cc

pub ended_badly : (v : Verdict) (due : ℕ) (n : Refusal) → ◌≡◌ {A = Result ℕ Refusal} (Err n) (ended v due) → v ≡ Refused n
unfolding ended
ended_badly Accepted due n e = absurd cc
ended_badly (Refused m) due n e = cc
