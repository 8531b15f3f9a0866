-- 02, M-106: "A form 1 reader sees a count of 766 and names J2, or J1 above its size limit". Assumes nothing.
use Rattle.std.specs.Prelude.{ℕ, ◌≡◌, true, cond, ◌||◌, List, [], ◌∷◌, ltb, length}
use Rattle.rules.specs.declared.Refusal.TheVariants as r
use Rattle.rules.specs.Answers.{Verdict, Refused}
use Rattle.rules.specs.First.{refuse, first_broken}
use Rattle.rules.specs.Chip.{word_at}
use Rattle.rules.specs.Sheet.{form_two, one, most_steps}

-- the rules that such a reader asks first: "J1 under 2 or over 65,536 bytes; J2 count over 64"
unfoldable pub old_verdict : List ℕ → Verdict
old_verdict s =
    first_broken
    (refuse r.J1 (ltb (length s) one.head || ltb one.most (length s)) ∷ refuse r.J2 (ltb most_steps (word_at s 0)) ∷ [])

-- THE OLD READER, and every sheet of form 2, whatever stands behind its first two bytes
abbrev pub OldReader : Type 0
OldReader =
    (s : List ℕ)
    → form_two s ≡ true
    → (word_at s 0 ≡ 766) × (old_verdict s ≡ Refused (cond (ltb 65536 (length s)) r.J1 r.J2))
