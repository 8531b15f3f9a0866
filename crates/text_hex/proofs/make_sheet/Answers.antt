-- `text_hex::make_sheet` meets its contract: the refusals in their order, or the sheet. Assumes nothing.
use native.Mathlib.Omega.{arith}
use mathlib.Core.Path.{◌≡◌, sym, ap, ◌∙◌}
use mathlib.Core.List.{List}
use Prim.Native.Nat.{ℕ}
use lib.ListN.{length}
use Rattle.rules.specs.Answers.{Sheet}
use Rattle.rules.specs.Hex.{sheet_of}
use Rattle.text_hex.specs.Gathered.{memory_of}
use Rattle.text_hex.proofs.NamedBlocks.{named_count, sheet_length, many_steps, many_bytes, short_buffer, with_room}
use Rattle.text_out.proofs.Appended.{put_over}
use Rattle.text_hex.proofs.make_sheet.Goals as goal

pub returns-then-c-d-gt64 : goal.returns-then-c-d-gt64
returns-then-c-d-gt64 c =
    let a = c.args in
    let m = memory_of a.cells.now in
    let x = c.count_named-c in
    let y = c.count_named-d in
    let n = named_count m (omega arith) (omega arith) x.result y.result x.ensures.0 y.ensures.0 in
    sym (many_steps m (length a.buf.now) (sheet_of m) a.buf.now (omega (arith, n)))

pub returns-then-size-gt65536 : goal.returns-then-size-gt65536
returns-then-size-gt65536 c =
    let a = c.args in
    let m = memory_of a.cells.now in
    let x = c.count_named-c in
    let y = c.count_named-d in
    let n = named_count m (omega arith) (omega arith) x.result y.result x.ensures.0 y.ensures.0 in
    let z = sheet_length m (omega arith) (omega arith) x.result y.result x.ensures.0 y.ensures.0 in
    sym (many_bytes m (length a.buf.now) (sheet_of m) a.buf.now (omega (arith, n)) (omega (arith, z)))

pub returns-then-buf-size : goal.returns-then-buf-size
returns-then-buf-size c =
    let a = c.args in
    let m = memory_of a.cells.now in
    let x = c.count_named-c in
    let y = c.count_named-d in
    let n = named_count m (omega arith) (omega arith) x.result y.result x.ensures.0 y.ensures.0 in
    let z = sheet_length m (omega arith) (omega arith) x.result y.result x.ensures.0 y.ensures.0 in
    sym (short_buffer m (length a.buf.now) (sheet_of m) a.buf.now (omega (arith, n)) (omega (arith, z)) (omega (arith, z)))

pub returns : goal.returns
returns c =
    let a = c.args in
    let m = memory_of a.cells.now in
    let x = c.count_named-c in
    let y = c.count_named-d in
    let n = named_count m (omega arith) (omega arith) x.result y.result x.ensures.0 y.ensures.0 in
    let z = sheet_length m (omega arith) (omega arith) x.result y.result x.ensures.0 y.ensures.0 in
    let r : c.sheet_size-size.result ≡ length (sheet_of m) = c.sheet_size-size.ensures ∙ z in
    let p = c.put_sheet in
    let o = put_over (sheet_of m) p.result a.buf.now _ p.ensures (omega (arith, z)) in
    ap (λ (i : ℕ). record { made = Sheet i; out = p.new.buf }) r
    ∙ ap (λ (q : List ℕ). record { made = Sheet (length (sheet_of m)); out = q }) o
    ∙ sym (with_room m (length a.buf.now) (sheet_of m) a.buf.now (omega (arith, n)) (omega (arith, z)) (omega (arith, z)))

pub put_sheet-requires : goal.put_sheet-requires
put_sheet-requires c =
    let a = c.args in
    let m = memory_of a.cells.now in
    let x = c.count_named-c in
    let y = c.count_named-d in
    let n = named_count m (omega arith) (omega arith) x.result y.result x.ensures.0 y.ensures.0 in
    (n, omega arith)
