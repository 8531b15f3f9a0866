-- A search of a table from its front, at any table. Assumes nothing.
use Rattle.std.proofs.Common.{◌≡◌, ℕ, ◌+◌, ◌<◌, List, [], length, get_or, drop, add-one, drop-cons, eq-eqb, ne_eqb}
use Rattle.rules.specs.Answers.{Row}
use Rattle.rules.specs.Chip.{byte_at}
use Rattle.rules.specs.Command.{lookup}

module _ (table : List (List ℕ)) (i code : ℕ) (h : i < length table) where
  -- the row at i has the code
  pub found : byte_at (get_or table i []) 0 ≡ code
      → lookup (drop i table) code ≡ Row (byte_at (get_or table i []) 1) (byte_at (get_or table i []) 2)
  unfolding lookup
  found e = rw (drop-cons table i []) (simp (eq-eqb _ _ e))

  -- it has another
  pub passed : (byte_at (get_or table i []) 0 ≡ code → ⊥) → lookup (drop i table) code ≡ lookup (drop (i + 1) table) code
  unfolding lookup
  passed n = rw (drop-cons table i [], add-one) (simp (ne_eqb _ _ n))
