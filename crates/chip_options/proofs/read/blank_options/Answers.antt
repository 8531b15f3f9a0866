-- `chip_options::read::blank_options` meets its contract: the bits in four groups, and the tests that led to each return. Assumes nothing.
use mathlib.Core.Path.{◌≡◌, refl, ◌∙◌}
use mathlib.Core.Bool.{Bool, true, false, ◌&&◌}
use Prim.Native.Nat.{ℕ}
use lib.Dec.{eqb}
use Rattle.rules.specs.declared.Block.{Block}
use Rattle.rules.specs.declared.Options.{Options}
use Rattle.rules.specs.Options.{BTPR, SEPR, WRPR, IDEN, SWPR, CMPR, FSPR, FSWC, FSWS, FSWE, blank_options}
use Rattle.chip_options.proofs.read.blank_options.Goals.{then-blank_sf1, else-blank_sf1, then-blank_sf2, else-blank_sf2}
use Rattle.chip_options.proofs.read.blank_options.Goals as goal

in-groups : (a b c d e f g h i j : Bool)
    → (a && b && c && d && e && f && g && h && i && j) ≡ ((a && b && c) && (d && e && f) && (g && h) && (i && j))
in-groups false b c d e f g h i j = refl
in-groups true false c d e f g h i j = refl
in-groups true true false d e f g h i j = refl
in-groups true true true false e f g h i j = refl
in-groups true true true true false f g h i j = refl
in-groups true true true true true false g h i j = refl
in-groups true true true true true true false h i j = refl
in-groups true true true true true true true false i j = refl
in-groups true true true true true true true true i j = refl

module _ (o : Options) where
  abbrev sf1s : Bool
  sf1s = eqb (BTPR o) 1 && eqb (SEPR o) 1 && eqb (WRPR o) 1

  abbrev sf2s : Bool
  sf2s = eqb (IDEN o) 1 && eqb (SWPR o) 1 && eqb (CMPR o) 1

  abbrev starts : Bool
  starts = eqb (FSWS o).0 511 && eqb (FSPR o) 1

  abbrev ends : Bool
  ends = eqb (FSWE o).0 511 && eqb (FSWC o) 1

  grouped : blank_options o ≡ (sf1s && sf2s && starts && ends)
  unfolding blank_options
  grouped = in-groups (eqb (BTPR o) 1) (eqb (SEPR o) 1) (eqb (WRPR o) 1) (eqb (IDEN o) 1) (eqb (SWPR o) 1) (eqb (CMPR o) 1) (eqb (FSWS o).0 511) (eqb (FSPR o) 1) (eqb (FSWE o).0 511) (eqb (FSWC o) 1)

windowed : {a b : Block} {m n : ℕ} → a ≡ b → m ≡ n → (eqb a.0 511 && eqb m 1) ≡ (eqb b.0 511 && eqb n 1)
windowed p q = rw (p, q)

pub returns-then-blank_window : goal.returns-then-blank_window
returns-then-blank_window c =
    let o = c.args.o in
    let flags : c.if-blank_sf1.value ≡ (sf1s o && sf2s o) = elim c.if-blank_sf1.branch [ then-blank_sf1 w ↦ w.value-is ∙ rw (← c.blank_sf1.ensures, w.if-blank_sf1.true) w.blank_sf2.ensures | else-blank_sf1 w ↦ w.value-is ∙ rw (← c.blank_sf1.ensures, w.if-blank_sf1.false) ] in
    let front : c.if-blank_sf2.value ≡ (sf1s o && sf2s o && starts o) = elim c.if-blank_sf2.branch [ then-blank_sf2 w ↦ w.value-is ∙ rw (← flags, w.if-blank_sf2.true) (w.blank_window.ensures ∙ windowed w.fsws.ensures w.fspr.ensures) | else-blank_sf2 w ↦ w.value-is ∙ rw (← flags, w.if-blank_sf2.false) ] in
    rw (grouped o, ← front, c.if-blank_window.true) (c.blank_window-then-blank_window.ensures ∙ windowed c.fswe.ensures c.fswc.ensures)

pub returns-else-blank_window : goal.returns-else-blank_window
returns-else-blank_window c =
    let o = c.args.o in
    let flags : c.if-blank_sf1.value ≡ (sf1s o && sf2s o) = elim c.if-blank_sf1.branch [ then-blank_sf1 w ↦ w.value-is ∙ rw (← c.blank_sf1.ensures, w.if-blank_sf1.true) w.blank_sf2.ensures | else-blank_sf1 w ↦ w.value-is ∙ rw (← c.blank_sf1.ensures, w.if-blank_sf1.false) ] in
    let front : c.if-blank_sf2.value ≡ (sf1s o && sf2s o && starts o) = elim c.if-blank_sf2.branch [ then-blank_sf2 w ↦ w.value-is ∙ rw (← flags, w.if-blank_sf2.true) (w.blank_window.ensures ∙ windowed w.fsws.ensures w.fspr.ensures) | else-blank_sf2 w ↦ w.value-is ∙ rw (← flags, w.if-blank_sf2.false) ] in
    rw (grouped o, ← front, c.if-blank_window.false)
