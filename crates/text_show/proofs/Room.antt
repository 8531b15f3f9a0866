-- The text of every sheet has room in a buffer of 8,192 bytes. Assumes nothing.
use mathlib.Core.Path.{◌≡◌, refl, sym, ap, ◌∙◌}
use mathlib.Core.Bool.{Bool, true, false, cond, ◌&&◌}
use mathlib.Core.List.{List}
use Prim.Native.Nat.{ℕ, zero, suc, ◌+◌, ◌*◌, ◌/◌, ◌≤◌, ◌<◌}
use native.Mathlib.Omega.{arith}
use lib.Dec.{ltb, eqb}
use lib.ListN.{length, length-append}
use borrow.Author.Tests.{lt-ltb, le-ltb, ltb-true, ltb-false}
use Rattle.rules.specs.declared.Block.{Block}
use Rattle.rules.specs.declared.Chip.{Chip}
use Rattle.rules.specs.declared.Flags.{Flags}
use Rattle.rules.specs.declared.Flash.{Flash}
use Rattle.rules.specs.declared.Flash.TheVariants.{Code, Data}
use Rattle.rules.specs.declared.Kind.{Kind}
use Rattle.rules.specs.declared.Kind.TheVariants.{Erase, Write, Verify, Sum, Blank, Lock}
use Rattle.rules.specs.declared.Refusal.{Refusal}
use Rattle.rules.specs.declared.Refusal.TheVariants.{D0, D1, D2, D3, E1, J1, J2, J3, J4, J5, J6, J7, J8, J9, J10, J11, J12, J13, J14, J15, J16, P1, P2}
use Rattle.rules.specs.declared.Step.{Step}
use Rattle.rules.specs.Answers.{Verdict, Accepted, Refused}
use Rattle.rules.specs.Chip.{small, large, blocks, start, page_size, pages, pages_per_block, first_byte, last_byte}
use Rattle.rules.specs.First.{first}
use Rattle.rules.specs.Numbers.{kind_number}
use Rattle.rules.specs.Run.{most_for, most_frames, most_from}
use Rattle.rules.specs.Sheet as sheet
use Rattle.rules.specs.Sheet.{form_two, chip_number, against, count, clears, head_verdict, sheet_verdict, step_at, step_blocks, step_pages}
use Rattle.rules.specs.Text.{ascii, digits, decimal, flash_text, kind_text}
use Rattle.rules.proofs.Sheet.{sheet_allowed}
use Rattle.text_out.proofs.Decimal.{decimal_longer}
use Rattle.sheet.proofs.Accepted.{entry_sound}
use Rattle.sheet.proofs.Verdicts.{head_refused}
use Rattle.text_show.specs.Words.{hex5, form_line, chip_line}
use Rattle.text_show.specs.Steps.{blocks_text, span_text, range_line, clears_text, lock_line, step_text, steps_from, frames_line}
use Rattle.text_show.specs.Map.{marks_from, row_text, code_rows, map_text}
use Rattle.text_show.specs.Refused.{meaning, breaks, first_to_break, entry_text, rule_text, refused_text}
use Rattle.text_show.specs.Show.{job_text, judged_text, show_text}
use Rattle.text_show.proofs.Breaking.{refusal_of}

-- ---- words ----

either : (t : Bool) (x y : List ℕ) (n : ℕ) → length x ≤ n → length y ≤ n → length (cond t x y) ≤ n
either true x y n h g = h
either false x y n h g = g

-- five digits are enough for every number but that of bytes, which has six
few : (m k n : ℕ) → length (decimal m) ≡ k → 1 ≤ m → n ≤ m → length (decimal n) ≤ k
few m k n e g h = rw (← e) (decimal_longer n m g h)

five : (n : ℕ) → n ≤ 99999 → length (decimal n) ≤ 5
unfolding decimal digits
five n h = few 99999 5 n refl (omega arith) h

six : (n : ℕ) → n ≤ 999999 → length (decimal n) ≤ 6
unfolding decimal digits
six n h = few 999999 6 n refl (omega arith) h

flash_length : (f : Flash) → length (flash_text f) ≡ 4
unfolding flash_text
flash_length Code = refl
flash_length Data = refl

kind_length : (k : Kind) → length (kind_text k) ≤ 6
unfolding kind_text
kind_length Erase = omega arith
kind_length Write = omega arith
kind_length Verify = omega arith
kind_length Sum = omega arith
kind_length Blank = omega arith
kind_length Lock = omega arith

hex5_length : (n : ℕ) → length (hex5 n) ≡ 5
unfolding hex5
hex5_length n = refl

-- ---- a step ----

-- a step whose blocks are there, on the larger chip
record Small (t : Step) : Type 0 where
  forward : t.first.0 ≤ t.last.0
  there : t.last.0 < 64

few_pages : (t : Step) → Small t → step_pages t ≤ 512
few_pages t h = go t.flash (step_blocks t) (omega (arith, h.forward, h.there))
  where
    go : (f : Flash) (n : ℕ) → n ≤ 64 → n * pages_per_block f ≤ 512
    go Code n g = omega arith
    go Data n g = omega arith

blocks_length : (f : Flash) (a b : Block) → a.0 ≤ 99999 → b.0 ≤ 99999 → length (blocks_text f a b) ≤ 24
unfolding blocks_text
blocks_length f a b h g = simp length-append (omega (arith, flash_length f, five a.0 h, five b.0 g))

span_length : (f : Flash) (a b : Block) → length (span_text f a b) ≡ 11
unfolding span_text
span_length f a b = simp length-append (omega (arith, hex5_length (first_byte f a).0, hex5_length (last_byte f b).0))

range_length : (n : ℕ) (t : Step) → n ≤ 99999 → Small t → length (range_line n t) ≤ 72
unfolding range_line
range_length n t h s =
    let named = blocks_length t.flash t.first t.last (omega (arith, s.forward, s.there)) (omega (arith, s.there)) in
    let bytes = six (step_pages t * 256) (omega (arith, few_pages t s)) in
    simp length-append
    (omega (arith, five n h, kind_length t.kind, named, span_length t.flash t.first t.last, bytes))

clears_length : (f : Flags) → length (clears_text f) ≤ 13
unfolding clears_text
clears_length f = either (clears f) (ascii " clears IFPR\n") (ascii "\n") 13 (omega arith) (omega arith)

lock_length : (n : ℕ) (f : Flags) → n ≤ 99999 → length (lock_line n f) ≤ 72
unfolding lock_line
lock_length n f h = simp length-append (omega (arith, five n h, clears_length f))

step_length : (n : ℕ) (t : Step) → n ≤ 99999 → Small t → length (step_text n t) ≤ 72
unfolding step_text
step_length n t h s = either (eqb (kind_number t.kind) 6) (lock_line n t.flags) (range_line n t) 72 (lock_length n t.flags h) (range_length n t h s)

most_few : (k : Kind) (t : Step) → Small t → most_for k t ≤ 513
unfolding most_for
most_few Erase t h = omega (arith, h.forward, h.there)
most_few Write t h = omega (arith, few_pages t h)
most_few Verify t h = omega (arith, few_pages t h)
most_few Sum t h = omega arith
most_few Blank t h = omega arith
most_few Lock t h = omega arith

module _ (chip : Chip) (s : List ℕ) (n : ℕ) (steps : n ≤ 64) (sound : (i : ℕ) → i < n → Small (step_at chip s i)) where
  steps_length : (i left : ℕ) → i + left ≡ n → length (steps_from chip s i left) ≤ 72 * left
  unfolding steps_from
  steps_length i zero e = omega arith
  steps_length i (suc left) e =
      let a = step_length (i + 1) (step_at chip s i) (omega arith) (sound i (omega arith)) in
      let b = steps_length (i + 1) left (omega arith) in
      simp length-append (omega arith)

  most_sent : (i left : ℕ) → i + left ≡ n → most_from chip s i left ≤ 513 * left
  unfolding most_from most_frames
  most_sent i zero e = omega arith
  most_sent i (suc left) e =
      let t = step_at chip s i in
      omega (arith, most_few t.kind t (sound i (omega arith)), most_sent (i + 1) left (omega arith))

-- ---- the map ----

module _ (chip : Chip) (s : List ℕ) where
  marks_length : (f : Flash) (k n : ℕ) → length (marks_from chip s f k n) ≡ n
  unfolding marks_from
  marks_length f k zero = refl
  marks_length f k (suc n) = ap suc (marks_length f (k + 1) n)

  row_length : (f : Flash) (k n : ℕ) → length (row_text chip s f k n) ≡ 12 + n
  unfolding row_text
  row_length f k n = simp length-append (omega (arith, flash_length f, hex5_length (start f + k * page_size), marks_length f k n))

  rows_length : (r n : ℕ) → length (code_rows chip s r n) ≡ 76 * n
  unfolding code_rows
  rows_length r zero = omega arith
  rows_length r (suc n) = simp length-append (omega (arith, row_length Code (r * 64) 64, rows_length (r + 1) n))

  map_length : chip.code ≤ 64 → chip.«data» ≤ 32 → length (map_text chip s) ≤ 800
  unfolding map_text
  map_length h g =
      simp length-append
      (omega (arith, rows_length 0 (pages chip Code / 64), row_length Data 0 (pages chip Data)))

-- ---- an accepted sheet ----

-- the chip that a sheet names is not larger than the larger one
named_few : (s : List ℕ) → ((against s).code ≤ 64) × ((against s).«data» ≤ 32) × (0 < (against s).code)
unfolding against
named_few s = go (form_two s && eqb (chip_number s) 2)
  where
    go : (b : Bool) → ((cond b large small).code ≤ 64) × ((cond b large small).«data» ≤ 32) × (0 < (cond b large small).code)
    go true = (omega arith, omega arith, omega arith)
    go false = (omega arith, omega arith, omega arith)

blocks_few : (chip : Chip) (f : Flash) → chip.code ≤ 64 → chip.«data» ≤ 32 → blocks chip f ≤ 64
blocks_few chip Code h g = h
blocks_few chip Data h g = omega arith

chip_length : (chip : Chip) → length (chip_line chip) ≤ 39
unfolding chip_line
chip_length chip =
    either (eqb chip.code 64) (ascii "chip 2: 64 code blocks, 32 data blocks\n") (ascii "chip 1: 16 code blocks, 8 data blocks\n") 39 (omega arith) (omega arith)

job_fits : (s : List ℕ) → sheet_verdict s ≡ Accepted → length (job_text s) ≤ 8000
unfolding job_text frames_line
job_fits s ok =
    let chip = against s in
    let a = sheet_allowed s ok in
    let k = named_few s in
    let n : count s ≤ 64 = ltb-false 64 (count s) a.j2 in
    let sound : (i : ℕ) → i < count s → Small (step_at chip s i) =
    λ i h. let q = entry_sound chip s i k.2 (a.entries i h) in
    record { forward = q.forward; there = omega (arith, q.there, blocks_few chip (step_at chip s i).flash k.0 k.1) } in
    let sent = most_sent chip s (count s) n sound 0 (count s) (omega arith) in
    simp length-append
    (omega (arith, n, chip_length chip, steps_length chip s (count s) n sound 0 (count s) (omega arith), five (most_from chip s 0 (count s)) (omega (arith, sent, n)), map_length chip s k.0 k.1))

-- ---- a refused sheet ----

-- its rule is no rule of an entry, or it has at most 64 steps
first_behind : (n : Refusal) (s : List ℕ) → ((i : ℕ) → breaks n s i ≡ false) → (i left : ℕ) → first_to_break n s i left ≡ i + left
unfolding first_to_break
first_behind n s h i zero = omega arith
first_behind n s h i (suc left) = rw (h i) (first_behind n s h (i + 1) left ∙ omega arith)

entry_length : (i n : ℕ) → n ≤ 64 → length (entry_text i n) ≤ 13
unfolding entry_text
entry_length i n h = go (ltb i n) refl
  where
    go : (t : Bool) → ltb i n ≡ t → length (entry_text i n) ≤ 13
    go true e = let l = ltb-true i n e in rw e (simp length-append (omega (arith, five (i + 1) (omega arith))))
    go false e = rw e (omega arith)

no_entry : (n : Refusal) (s : List ℕ) → ((i : ℕ) → breaks n s i ≡ false) → length (entry_text (first_to_break n s 0 (count s)) (count s)) ≤ 13
unfolding entry_text
no_entry n s h =
    let e : count s ≤ first_to_break n s 0 (count s) = omega (arith, first_behind n s h 0 (count s)) in
    rw (le-ltb (first_to_break n s 0 (count s)) (count s) e) (omega arith)

-- over 64 steps it is J1 or J2
many : (s : List ℕ) → 64 < count s → sheet_verdict s ≡ Refused (cond (sheet.J1 s) J1 J2)
unfolding head_verdict first
many s h = head_refused s (cond (sheet.J1 s) J1 J2) (go (sheet.J1 s) refl)
  where
    go : (t : Bool) → sheet.J1 s ≡ t → head_verdict s ≡ Refused (cond t J1 J2)
    go true e = rw e
    go false e = rw (e, lt-ltb 64 (count s) h)

broken_entry : (s : List ℕ) (n : Refusal) → sheet_verdict s ≡ Refused n → length (entry_text (first_to_break n s 0 (count s)) (count s)) ≤ 13
unfolding breaks
broken_entry s n v = go (ltb 64 (count s)) refl
  where
    none : (t : Bool) (i : ℕ) → breaks (cond t J1 J2) s i ≡ false
    none true i = refl
    none false i = refl

    go : (t : Bool) → ltb 64 (count s) ≡ t → length (entry_text (first_to_break n s 0 (count s)) (count s)) ≤ 13
    go true e =
        let h = ltb-true 64 (count s) e in
        let is : n ≡ cond (sheet.J1 s) J1 J2 = ap refusal_of (sym v ∙ many s h) in
        rw is (no_entry (cond (sheet.J1 s) J1 J2) s (none (sheet.J1 s)))
    go false e = entry_length (first_to_break n s 0 (count s)) (count s) (ltb-false 64 (count s) e)

words_length : (n : Refusal) → length (rule_text n) + length (meaning n) ≤ 90
unfolding rule_text meaning decimal digits
words_length D0 = omega arith
words_length D1 = omega arith
words_length D2 = omega arith
words_length D3 = omega arith
words_length E1 = omega arith
words_length J1 = omega arith
words_length J2 = omega arith
words_length J3 = omega arith
words_length J4 = omega arith
words_length J5 = omega arith
words_length J6 = omega arith
words_length J7 = omega arith
words_length J8 = omega arith
words_length J9 = omega arith
words_length J10 = omega arith
words_length J11 = omega arith
words_length J12 = omega arith
words_length J13 = omega arith
words_length J14 = omega arith
words_length J15 = omega arith
words_length J16 = omega arith
words_length P1 = omega arith
words_length P2 = omega arith

refused_fits : (s : List ℕ) (n : Refusal) → sheet_verdict s ≡ Refused n → length (refused_text s n) ≤ 8000
unfolding refused_text
refused_fits s n v = simp length-append (omega (arith, words_length n, broken_entry s n v))

-- ---- THE TEXT OF A SHEET ----

pub show_fits : (s : List ℕ) → length (show_text s) ≤ 8192
unfolding show_text form_line judged_text
show_fits s = simp length-append (omega (arith, either (form_two s) (ascii "form 2\n") (ascii "form 1\n") 7 (omega arith) (omega arith), by_verdict (sheet_verdict s) refl))
  where
    by_verdict : (v : Verdict) → sheet_verdict s ≡ v → length (judged_text s v) ≤ 8000
    by_verdict Accepted e = job_fits s e
    by_verdict (Refused n) e = refused_fits s n e
