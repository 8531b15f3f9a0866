-- `standin_command::orders::check_blank` meets its contract: TAR and pair, then flash, then the option bits. Assumes nothing.
use mathlib.Core.Path.{◌≡◌, sym, ap, ◌∙◌}
use mathlib.Core.Bool.{Bool, cond}
use mathlib.Core.List.{List}
use Prim.Native.Nat.{ℕ, ◌≤◌}
use lib.ListN.{length}
use lib.Dec.{leb}
use borrow.Author.Tests.{le-leb, lt-leb}
use Rattle.rules.specs.declared.Address.{Address}
use Rattle.rules.specs.declared.Chip.{Chip}
use Rattle.rules.specs.Faults.{Fault}
use Rattle.rules.specs.declared.Flash.{Flash}
use Rattle.rules.specs.declared.Flash.TheVariants.{Code, Data}
use Rattle.rules.specs.declared.Block.{Block}
use Rattle.rules.specs.Answers.{Range, Blocks, Bad}
use Rattle.rules.specs.declared.Order.TheVariants.{BlankCheck}
use Rattle.rules.specs.First.{first_fault}
use Rattle.rules.specs.Chip.{Memory, flash_size, range}
use Rattle.rules.specs.Command.{sad_of, ead_of, over_blocks, order_checks, judged_order, done}
use Rattle.rules.specs.StandIn.{silences, on_judged}
use Rattle.chip_finder.specs.LentFlashes.{memory, range_shown}
use Rattle.chip_finder.proofs.ThereAndBack.{range_inside}
use Rattle.standin_state.specs.declared.Core.{Core}
use Rattle.standin_verdict.specs.Ranges.{blank_rows}
use Rattle.standin_verdict.proofs.Ranges.{blank_rows_lem}
use Rattle.standin_command.specs.Ordered.{on_order}
use Rattle.standin_state.proofs.Handed.{same_out}
use Rattle.standin_command.proofs.Refusals.{refused_kept, blank_keeps, order_done, order_refused}
use Rattle.standin_command.proofs.Found.{shown_found}
use Rattle.standin_command.proofs.orders.check_blank.Goals as goal

-- what a pair and a TAR come to, and the verdict of the order
module _ (chip : Chip) (k : Core) (m : Memory) (f : List ℕ) (sad ead : Address) (tar : ℕ) where
  asked : (r : Range) → r ≡ range chip sad ead → tar ≤ 1
      → on_order chip k m f (over_blocks (λ g x y. BlankCheck g x y tar) r)
      ≡ on_order chip k m f (cond (leb tar 1) (over_blocks (λ g x y. BlankCheck g x y tar) (range chip sad ead)) Bad)
  asked r e h =
      ap (λ (x : Range). on_order chip k m f (over_blocks (λ g x y. BlankCheck g x y tar) x)) e
      ∙ ap (λ (t : Bool). on_order chip k m f (cond t (over_blocks (λ g x y. BlankCheck g x y tar) (range chip sad ead)) Bad)) (sym (le-leb _ _ h))

  tar_read : (t : ℕ) → tar ≡ t → on_order chip k m f (cond (leb tar 1) (over_blocks (λ g x y. BlankCheck g x y tar) (range chip sad ead)) Bad)
      ≡ on_order chip k m f (cond (leb t 1) (over_blocks (λ g x y. BlankCheck g x y t) (range chip sad ead)) Bad)
  tar_read t e = ap (λ (u : ℕ). on_order chip k m f (cond (leb u 1) (over_blocks (λ g x y. BlankCheck g x y u) (range chip sad ead)) Bad)) e

  judged : (g : Flash) (x y : Block) (v : Fault) → range chip sad ead ≡ Blocks g x y
      → length m.code ≡ flash_size chip Code → length m.«data» ≡ flash_size chip Data
      → v ≡ first_fault (blank_rows k.options (range_shown chip m g x y) g x tar)
      → v ≡ first_fault (order_checks k.options m f (BlankCheck g x y tar))
  judged g x y v e in_code in_data is =
      let i = range_inside chip sad ead g x y e in
      is ∙ ap first_fault (blank_rows_lem chip k.options m f g x y tar (shown_found chip m in_code in_data g x y i.0 i.1))

pub returns-then-tar-gt1 : goal.returns-then-tar-gt1
unfolding on_judged judged_order
returns-then-tar-gt1 c =
    let a = c.args in
    let f = a.f.now in
    let tar = c.byte_at-tar.result in
    let m = memory a.code.now a.«data».now in
    let read = tar_read a.chip a.c m f (sad_of f) (ead_of f) tar _ c.byte_at-tar.ensures in
    same_out _ _ _ _ _ _ (ap (λ (t : Bool). on_order a.chip a.c m f (cond t (over_blocks (λ g x y. BlankCheck g x y tar) (range a.chip (sad_of f) (ead_of f))) Bad)) (sym (lt-leb _ _ c.if-tar-gt1.true)) ∙ read) (c.refuse_information.ensures m)

pub returns-in-Err : goal.returns-in-Err
unfolding on_judged judged_order
returns-in-Err c =
    let a = c.args in
    let f = a.f.now in
    let tar = c.byte_at-tar.result in
    let m = memory a.code.now a.«data».now in
    let read = tar_read a.chip a.c m f (sad_of f) (ead_of f) tar _ c.byte_at-tar.ensures in
    let v = sym c.in-Err.is ∙ judged a.chip a.c m f (sad_of f) (ead_of f) tar _ _ _ _ (sym c.blocks_named.ensures ∙ c.in-Some.is) c.requires.in_code c.requires.in_data c.blank_fault.ensures in
    same_out _ _ _ _ _ _ (refused_kept _ _ m _ _ _ (ap silences v ∙ blank_keeps a.c.options m f _ _ _ tar) c.status_byte.ensures c.note_of-note.ensures ∙ (order_refused a.chip a.c m f _ _ v ∙ asked a.chip a.c m f (sad_of f) (ead_of f) tar _ (sym c.in-Some.is ∙ c.blocks_named.ensures) c.if-tar-gt1.false ∙ read)) (c.refuse_with.ensures m)

pub returns-in_default : goal.returns-in_default
unfolding on_judged judged_order done
returns-in_default c =
    let a = c.args in
    let f = a.f.now in
    let tar = c.byte_at-tar.result in
    let m = memory a.code.now a.«data».now in
    let read = tar_read a.chip a.c m f (sad_of f) (ead_of f) tar _ c.byte_at-tar.ensures in
    let v = sym c.in_default.is ∙ judged a.chip a.c m f (sad_of f) (ead_of f) tar _ _ _ _ (sym c.blocks_named.ensures ∙ c.in-Some.is) c.requires.in_code c.requires.in_data c.blank_fault.ensures in
    same_out _ _ _ _ _ _ (order_done a.chip a.c m f _ v ∙ asked a.chip a.c m f (sad_of f) (ead_of f) tar _ (sym c.in-Some.is ∙ c.blocks_named.ensures) c.if-tar-gt1.false ∙ read) (c.acknowledge.ensures m)

pub returns-in-None : goal.returns-in-None
unfolding on_judged judged_order
returns-in-None c =
    let a = c.args in
    let f = a.f.now in
    let tar = c.byte_at-tar.result in
    let m = memory a.code.now a.«data».now in
    let read = tar_read a.chip a.c m f (sad_of f) (ead_of f) tar _ c.byte_at-tar.ensures in
    same_out _ _ _ _ _ _ (asked a.chip a.c m f (sad_of f) (ead_of f) tar _ (sym c.in-None.is ∙ c.blocks_named.ensures) c.if-tar-gt1.false ∙ read) (c.refuse_information-in-None.ensures m)
