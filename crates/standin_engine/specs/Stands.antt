-- "The byte is not taken and state and buffers stand" (01, Status bytes and their order), literally. Assumes nothing.
use Rattle.std.specs.Prelude.{◌≡◌}
use Rattle.rules.specs.declared.numbers.Number.{Number}

-- where the number of a call's answer has a letter, the call was refused, and it stands as it was
abbrev pub Stands : {A : Type 0} → Number → A → A → Type 0
Stands answer old new = (answer.letter ≡ 0 → ⊥) → new ≡ old
