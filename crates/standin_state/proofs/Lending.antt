-- What is lent: refused by the first rule of D0 to D3 that is broken, accepted where it is as they ask. Assumes nothing.
use mathlib.Core.Path.{◌≡◌}
use mathlib.Core.Bool.{true, false}
use mathlib.Core.List.{List}
use Prim.Native.Nat.{ℕ, ◌≤◌, ◌<◌}
use lib.Dec.{eqb}
use lib.ListN.{length}
use borrow.Author.Tests.{eqb-true, eq-eqb, ltb-false, lt-ltb, le-ltb, not-false}
use Rattle.rules.specs.declared.Chip.{Chip}
use Rattle.rules.specs.declared.Flash.TheVariants.{Code, Data}
use Rattle.rules.specs.declared.Refusal.{Refusal}
use Rattle.rules.specs.declared.Refusal.TheVariants.{D0, D1, D2, D3}
use Rattle.rules.specs.Answers.{Accepted, Refused}
use Rattle.rules.specs.Chip.{known, flash_size}
use Rattle.rules.specs.First.{first}
use Rattle.rules.specs.StandIn.{reply_room, flash_verdict, lent_verdict}
use Rattle.rules.proofs.Sheet.{unbroken, both}
use Rattle.standin_state.specs.View.{Fits}

-- ---- the code's tests, one after the other ----

module _ (chip : Chip) (code dat : ℕ) where
  pub no_chip : known chip ≡ false → Refused D0 ≡ flash_verdict chip code dat
  unfolding flash_verdict first
  no_chip e = rw e

  module _ (k : known chip ≡ true) where
    pub no_code : eqb code (flash_size chip Code) ≡ false → Refused D1 ≡ flash_verdict chip code dat
    unfolding flash_verdict first
    no_code e = rw (k, e)

    module _ (c : eqb code (flash_size chip Code) ≡ true) where
      pub no_data : eqb dat (flash_size chip Data) ≡ false → Refused D2 ≡ flash_verdict chip code dat
      unfolding flash_verdict first
      no_data e = rw (k, c, e)

      pub flashes_fit : eqb dat (flash_size chip Data) ≡ true → Accepted ≡ flash_verdict chip code dat
      unfolding flash_verdict first
      flashes_fit e = rw (k, c, e)

  module _ (reply : ℕ) where
    pub no_flash : (n : Refusal) → flash_verdict chip code dat ≡ Refused n → Refused n ≡ lent_verdict chip code dat reply
    unfolding lent_verdict
    no_flash n e = rw e

    module _ (f : flash_verdict chip code dat ≡ Accepted) where
      pub no_room : reply < reply_room → Refused D3 ≡ lent_verdict chip code dat reply
      unfolding lent_verdict first
      no_room l = rw (f, lt-ltb reply reply_room l)

      pub all_lent : reply_room ≤ reply → Accepted ≡ lent_verdict chip code dat reply
      unfolding lent_verdict first
      all_lent l = rw (f, le-ltb reply reply_room l)

-- ---- what an acceptance says ----

module _ (chip : Chip) (code dat reply : List ℕ) where
  pub lent_fits : lent_verdict chip (length code) (length dat) (length reply) ≡ Accepted → Fits chip code dat reply
  unfolding lent_verdict flash_verdict first
  lent_fits e =
      let a = both _ _ e in
      let k = unbroken _ _ _ a.0 in
      let c = unbroken _ _ _ k.1 in
      let d = unbroken _ _ _ c.1 in
      record {
        counts = not-false _ k.0;
        in_code = eqb-true _ _ (not-false _ c.0);
        in_data = eqb-true _ _ (not-false _ d.0);
        room = ltb-false _ _ (unbroken _ _ _ a.1).0;
      }

  pub fits_lent : Fits chip code dat reply → lent_verdict chip (length code) (length dat) (length reply) ≡ Accepted
  unfolding lent_verdict flash_verdict first
  fits_lent f =
      rw (f.counts, eq-eqb _ _ f.in_code, eq-eqb _ _ f.in_data, le-ltb (length reply) reply_room f.room)
