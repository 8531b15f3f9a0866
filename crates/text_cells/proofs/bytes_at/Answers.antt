-- `text_cells::bytes_at` meets its contract: the bytes of a record lie in one flash, or some outside. Assumes nothing.
use mathlib.Core.Path.{◌≡◌, sym, ◌∙◌}
use Prim.Native.Nat.{◌-◌}
use native.Mathlib.Omega.{arith}
use lib.ListN.{length}
use Rattle.rules.specs.declared.Flash.TheVariants.{Code, Data}
use Rattle.rules.specs.Lines.{pair_bytes}
use Rattle.rules.specs.Hex.{data_of}
use Rattle.chip_finder.specs.LentFlashes.{memory}
use Rattle.text_record.proofs.Records.{data_length}
use Rattle.text_cells.proofs.Given.{held_in_lem, at_none, at_code, at_data, at_gap, at_end}
use Rattle.text_cells.proofs.bytes_at.Goals as goal

pub returns-then-n-eq0 : goal.returns-then-n-eq0
returns-then-n-eq0 c =
    let a = c.args in
    let bs = pair_bytes a.row.now in
    let h = data_length bs c.requires.row_len in
    let m = memory a.code.now a.«data».now in
    λ u. sym (at_none a.number a.address (data_of bs) u m (omega arith))

pub returns-then-address-n-le-CODE_SIZE : goal.returns-then-address-n-le-CODE_SIZE
returns-then-address-n-le-CODE_SIZE c =
    let a = c.args in
    let bs = pair_bytes a.row.now in
    let h = data_length bs c.requires.row_len in
    let m = memory a.code.now a.«data».now in
    let some : length (data_of bs) ≡ 0 → ⊥ = λ z. omega arith in
    let i = c.bytes_in in
    λ u. held_in_lem Code a.number a.address (data_of bs) u m i.result _ i.ensures
    ∙ sym (at_code a.number a.address (data_of bs) u m some (omega arith))

pub returns-then-address-lt-DATA_START : goal.returns-then-address-lt-DATA_START
returns-then-address-lt-DATA_START c =
    let a = c.args in
    let bs = pair_bytes a.row.now in
    let h = data_length bs c.requires.row_len in
    let m = memory a.code.now a.«data».now in
    let some : length (data_of bs) ≡ 0 → ⊥ = λ z. omega arith in
    λ u. sym (at_gap a.number a.address (data_of bs) u m some (omega arith) (omega arith))

pub returns-then-address-n : goal.returns-then-address-n
returns-then-address-n c =
    let a = c.args in
    let bs = pair_bytes a.row.now in
    let h = data_length bs c.requires.row_len in
    let m = memory a.code.now a.«data».now in
    let some : length (data_of bs) ≡ 0 → ⊥ = λ z. omega arith in
    let i = c.bytes_in-then-address-n in
    λ u. held_in_lem Data a.number (a.address - 0xF1000) (data_of bs) u m i.result _ i.ensures
    ∙ sym (at_data a.number a.address (data_of bs) u m some (omega arith) (omega arith) (omega arith))

pub returns : goal.returns
returns c =
    let a = c.args in
    let bs = pair_bytes a.row.now in
    let h = data_length bs c.requires.row_len in
    let m = memory a.code.now a.«data».now in
    let some : length (data_of bs) ≡ 0 → ⊥ = λ z. omega arith in
    λ u. sym (at_end a.number a.address (data_of bs) u m some (omega arith) (omega arith))
