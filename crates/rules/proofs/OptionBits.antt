-- What Release makes of the option bits (02, M-102): IDEN keeps its value, every other one is 1. Assumes nothing.
use mathlib.Core.Path.{◌≡◌, ap, ◌∙◌}
use Prim.Native.Nat.{ℕ, ◌%◌}
use native.Mathlib.Omega.{arith}
use Rattle.rules.specs.declared.Options.{Options}
use Rattle.rules.specs.Chip.{block}
use Rattle.rules.specs.Options.{BTPR, SEPR, WRPR, IDEN, IFPR, SWPR, CMPR, FSPR, FSWC, FSWS, FSWE, bit, with_bit, released_word, release}

-- a bit made 1 is 1, and a bit below it stays
set_2 : (n : ℕ) → bit 2 (with_bit 2 1 n) ≡ 1
set_2 n = omega arith

set_3 : (n : ℕ) → bit 3 (with_bit 3 1 n) ≡ 1
set_3 n = omega arith

set_4 : (n : ℕ) → bit 4 (with_bit 4 1 n) ≡ 1
set_4 n = omega arith

kept_0_2 : (n : ℕ) → bit 0 (with_bit 2 1 n) ≡ bit 0 n
kept_0_2 n = omega arith

kept_0_3 : (n : ℕ) → bit 0 (with_bit 3 1 n) ≡ bit 0 n
kept_0_3 n = omega arith

kept_0_4 : (n : ℕ) → bit 0 (with_bit 4 1 n) ≡ bit 0 n
kept_0_4 n = omega arith

kept_2_4 : (n : ℕ) → bit 2 (with_bit 4 1 n) ≡ bit 2 n
kept_2_4 n = omega arith

kept_3_4 : (n : ℕ) → bit 3 (with_bit 4 1 n) ≡ bit 3 n
kept_3_4 n = omega arith

nine : (n : ℕ) → released_word n % 512 ≡ 511
nine n = omega arith

module _ (o : Options) where
  pub iden_stays : IDEN (release o) ≡ IDEN o
  unfolding release
  iden_stays = let low = with_bit 2 1 o.sf2 in kept_0_4 (with_bit 3 1 low) ∙ kept_0_3 low ∙ kept_0_2 o.sf2

  pub btpr_set : BTPR (release o) ≡ 1
  unfolding release
  btpr_set = omega arith

  pub sepr_set : SEPR (release o) ≡ 1
  unfolding release
  sepr_set = let low = with_bit 1 1 o.sf1 in kept_2_4 (with_bit 2 1 low) ∙ set_2 low

  pub wrpr_set : WRPR (release o) ≡ 1
  unfolding release
  wrpr_set = set_4 (with_bit 2 1 (with_bit 1 1 o.sf1))

  pub ifpr_set : IFPR (release o) ≡ 1
  unfolding release
  ifpr_set = omega arith

  pub swpr_set : SWPR (release o) ≡ 1
  unfolding release
  swpr_set = let low = with_bit 2 1 o.sf2 in kept_3_4 (with_bit 3 1 low) ∙ set_3 low

  pub cmpr_set : CMPR (release o) ≡ 1
  unfolding release
  cmpr_set = set_4 (with_bit 3 1 (with_bit 2 1 o.sf2))

  pub fspr_set : FSPR (release o) ≡ 1
  unfolding release
  fspr_set = omega arith

  pub fswc_set : FSWC (release o) ≡ 1
  unfolding release
  fswc_set = omega arith

  -- nine bits each, all of them 1
  pub fsws_set : FSWS (release o) ≡ block 511
  unfolding release
  fsws_set = ap block (nine o.sws)

  pub fswe_set : FSWE (release o) ≡ block 511
  unfolding release
  fswe_set = ap block (nine o.swe)
