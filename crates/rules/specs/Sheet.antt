-- 01, The job sheet, and 02, M-106 and M-107: what stands in it, when it is refused and by which number, and the steps of an accepted one.
-- Assumes nothing.
use Rattle.std.specs.Prelude.{ℕ, zero, suc, ◌+◌, ◌-◌, ◌*◌, ◌/◌, ◌%◌, Bool, true, false, cond, not, ◌&&◌, ◌||◌, List, [], ◌∷◌, ltb, leb, eqb, length, take, drop}
use Rattle.rules.specs.declared.Chip.{Chip}
use Rattle.rules.specs.declared.Flash.{Flash}
use Rattle.rules.specs.declared.Flash.TheVariants.{Code}
use Rattle.rules.specs.declared.Address.{Address}
use Rattle.rules.specs.Verdicts.{Range, Blocks, Invalid, Verdict, Accepted}
use Rattle.rules.specs.declared.Refusal.TheVariants as r
use Rattle.rules.specs.declared.Kind.{Kind}
use Rattle.rules.specs.declared.Kind.TheVariants.{Erase, Write, Verify, Sum, Blank, Lock}
use Rattle.rules.specs.declared.Flags.{Flags}
use Rattle.rules.specs.declared.Step.{Step}
use Rattle.rules.specs.First.{refuse, first_broken, and_then}
use Rattle.rules.specs.Chip.{byte_at, word_at, address_at, small, large, same_counts, known, same_flash, block, block_size, blocks_from, pages_from, page_size, range, invalid}
use Rattle.rules.specs.Options.{bit}

-- ---- the two forms (02, M-106) ----

-- "Form 2 begins FEh 02h"
unfoldable pub form_two : List ℕ → Bool
form_two s = eqb (byte_at s 0) 0xFE && eqb (byte_at s 1) 0x02

-- what a form fixes: how many bytes its head has, of which the count is the last two; the most bytes of a sheet; the last kind of step
pub record Form : Type 0 where
  pub head : ℕ
  pub most : ℕ
  pub kinds : ℕ

-- "Step count n in two bytes"; "over 65,536 bytes"; "Kinds: 1 erase, 2 write, 3 verify, 4 sum"
abbrev pub one : Form
one = record { head = 2; most = 65536; kinds = 4 }

-- "FEh 02h, chip number 1 or 2, a zero byte, the count"; "at most 65,540 bytes"; "adds kind 5 .. and kind 6"
abbrev pub two : Form
two = record { head = 6; most = 65540; kinds = 6 }

abbrev pub form : List ℕ → Form
form s = cond (form_two s) two one

-- "A form 2 sheet is judged against the chip it names, a form 1 sheet .. against chip 1"
abbrev pub chip_number : List ℕ → ℕ
chip_number s = byte_at s 2

unfoldable pub against : List ℕ → Chip
against s = cond (form_two s && eqb (chip_number s) 2) large small

-- ---- what stands where ----

-- "Step count n in two bytes, low first, 0 to 64"
unfoldable pub head_size : List ℕ → ℕ
head_size s = (form s).head

unfoldable pub count : List ℕ → ℕ
count s = word_at s ((form s).head - 2)

abbrev pub most_steps : ℕ
most_steps = 64

-- "n entries of 12 bytes; the bodies"
abbrev pub entry_size : ℕ
entry_size = 12

abbrev pub entry_at : List ℕ → ℕ → ℕ
entry_at s i = head_size s + entry_size * i

abbrev pub table_end : List ℕ → ℕ
table_end s = entry_at s (count s)

unfoldable pub most_bytes : List ℕ → ℕ
most_bytes s = (form s).most

unfoldable pub last_kind : List ℕ → ℕ
last_kind s = (form s).kinds

-- "An entry: kind, SAD (3), EAD (3), a zero byte, body offset (4, low first)"
abbrev pub kind_at : List ℕ → ℕ → ℕ
kind_at s i = byte_at s (entry_at s i)

abbrev pub sad_at : List ℕ → ℕ → Address
sad_at s i = address_at s (entry_at s i + 1)

abbrev pub ead_at : List ℕ → ℕ → Address
ead_at s i = address_at s (entry_at s i + 4)

abbrev pub zero_at : List ℕ → ℕ → ℕ
zero_at s i = byte_at s (entry_at s i + 7)

abbrev pub offset_at : List ℕ → ℕ → ℕ
offset_at s i = word_at s (entry_at s i + 8) + 65536 * word_at s (entry_at s i + 10)

-- 02, M-106: "kind 6, lock, whose SAD bytes are SF1, SF2, 0 and whose EAD is 0"
abbrev pub lock_kind : ℕ
lock_kind = 6

abbrev pub flags_of : Address → Flags
flags_of sad = record { sf1 = sad.0 % 256; sf2 = sad.0 / 256 % 256 }

abbrev pub flags_at : List ℕ → ℕ → Flags
flags_at s i = flags_of (sad_at s i)

abbrev pub is_lock : List ℕ → ℕ → Bool
is_lock s i = eqb (kind_at s i) lock_kind

abbrev pub filled : List ℕ → ℕ → Bool
filled s i = eqb ((sad_at s i).0 / 65536 % 256) 0 && eqb (ead_at s i).0 0

-- "a lock that clears IFPR": bit 2 of its SF2 is 0
abbrev pub clears : Flags → Bool
clears f = eqb (bit 2 f.sf2) 0

abbrev pub is_last : List ℕ → ℕ → Bool
is_last s i = eqb (i + 1) (count s)

abbrev pub range_at : Chip → List ℕ → ℕ → Range
range_at chip s i = range chip (sad_at s i) (ead_at s i)

-- "Write and verify have a body of EAD − SAD + 1 bytes; the others none"; 02: "each .. has no body"
unfoldable pub body_length : List ℕ → ℕ → ℕ
body_length s i = cond (eqb (kind_at s i) 2 || eqb (kind_at s i) 3) ((ead_at s i).0 - (sad_at s i).0 + 1) 0

abbrev pub body_end : List ℕ → ℕ → ℕ
body_end s i = offset_at s i + body_length s i

-- "The first offset is 2 + 12n", in form 2 "6 + 12n"; "each later one is the offset before it plus the body length of that earlier entry"
unfoldable pub offset_due : List ℕ → ℕ → ℕ
offset_due s i = cond (eqb i 0) (table_end s) (body_end s (i - 1))

-- ---- the rules, each broken or not ----

-- "J1 under 2 or over 65,536 bytes; J2 count over 64; J3 table cut short"
abbrev pub J1 : List ℕ → Bool
J1 s = ltb (length s) (head_size s) || ltb (most_bytes s) (length s)

abbrev pub J2 : List ℕ → Bool
J2 s = ltb most_steps (count s)

abbrev pub J3 : List ℕ → Bool
J3 s = ltb (length s) (table_end s)

-- 02, M-106: "after J2, J11 bad chip number or zero byte"
abbrev pub J11 : List ℕ → Bool
J11 s = form_two s && not ((eqb (chip_number s) 1 || eqb (chip_number s) 2) && eqb (byte_at s 3) 0)

-- "entry by entry J4 kind, J5 zero byte, J6 address pair, J7 offset, J8 body past the end"
abbrev pub J4 : List ℕ → ℕ → Bool
J4 s i = not (leb 1 (kind_at s i) && leb (kind_at s i) (last_kind s))

abbrev pub J5 : List ℕ → ℕ → Bool
J5 s i = not (eqb (zero_at s i) 0)

-- "J6 isn't applied to kind 6"
abbrev pub J6 : Chip → List ℕ → ℕ → Bool
J6 chip s i = not (is_lock s i) && invalid (range_at chip s i)

-- 02, M-106: "J12 after J6 for kind 6 that clears IFPR and isn't last, or has wrong filler"
abbrev pub J12 : List ℕ → ℕ → Bool
J12 s i = is_lock s i && (clears (flags_at s i) && not (is_last s i) || not (filled s i))

abbrev pub J7 : List ℕ → ℕ → Bool
J7 s i = not (eqb (offset_at s i) (offset_due s i))

abbrev pub J8 : List ℕ → ℕ → Bool
J8 s i = ltb (length s) (body_end s i)

-- "then J9 bytes left over; J10 list for sums shorter than n"
abbrev pub J9 : List ℕ → Bool
J9 s = not (eqb (length s) (offset_due s (count s)))

-- ---- two writes to one page (02, M-107) ----

-- ranges are whole blocks, so a step covers a page exactly where it covers that page's block
abbrev pub covers : Range → Flash → ℕ → Bool
covers (Blocks g first last) f b = same_flash g f && leb first.0 b && leb b last.0
covers Invalid f b = false

abbrev pub writes : List ℕ → ℕ → Flash → ℕ → Bool
writes s i f b = eqb (kind_at s i) 2 && covers (range_at (against s) s i) f b

abbrev pub erases : List ℕ → ℕ → Flash → ℕ → Bool
erases s i f b = eqb (kind_at s i) 1 && covers (range_at (against s) s i) f b

-- looking back from step i: the last step before it that writes or erases the block writes it
unfoldable pub written : List ℕ → Flash → ℕ → ℕ → Bool
written s f b zero = false
written s f b (suc i) =
    let earlier = written s f b i in cond (writes s i f b) true (cond (erases s i f b) false earlier)

-- p is so of one number at least, from n on, of so many
unfoldable pub any_from : (ℕ → Bool) → ℕ → ℕ → Bool
any_from p n zero = false
any_from p n (suc left) = let later = any_from p (n + 1) left in p n || later

-- looking back from step i, some block of the range stands written
abbrev pub any_written : List ℕ → ℕ → Range → Bool
any_written s i (Blocks f first last) = any_from (λ b. written s f b i) first.0 (blocks_from first last)
any_written s i Invalid = false

-- step i writes such a block
abbrev pub writes_again : List ℕ → ℕ → Bool
writes_again s i = eqb (kind_at s i) 2 && any_written s i (range_at (against s) s i)

-- "two write steps cover the same page, with no erase step of that page's block between them .., even if the first body was all FFh"
abbrev pub J13 : List ℕ → Bool
J13 s = any_from (writes_again s) 0 (count s)

-- ---- the chip and the room ----

-- 02, M-106: "J14, just before J10, when the chip to be played to is another than the sheet's"
abbrev pub J14 : Chip → List ℕ → Bool
J14 chip s = not (same_counts chip (against s))

abbrev pub J10 : List ℕ → ℕ → Bool
J10 s room = ltb room (count s)

-- ---- the verdict: "first that applies" ----

unfoldable pub head_verdict : List ℕ → Verdict
head_verdict s =
    first_broken (refuse r.J1 (J1 s) ∷ refuse r.J2 (J2 s) ∷ refuse r.J11 (J11 s) ∷ refuse r.J3 (J3 s) ∷ [])

unfoldable pub entry_verdict : Chip → List ℕ → ℕ → Verdict
entry_verdict chip s i =
    first_broken
    (refuse r.J4 (J4 s i)
    ∷ refuse r.J5 (J5 s i)
    ∷ refuse r.J6 (J6 chip s i)
    ∷ refuse r.J12 (J12 s i)
    ∷ refuse r.J7 (J7 s i)
    ∷ refuse r.J8 (J8 s i)
    ∷ [])

-- entry i and those behind it, so many
unfoldable pub entries_verdict : Chip → List ℕ → ℕ → ℕ → Verdict
entries_verdict chip s i zero = Accepted
entries_verdict chip s i (suc left) =
    let later = entries_verdict chip s (i + 1) left in and_then (entry_verdict chip s i) later

-- the sheet's own rules, J1 to J9 and J11 to J13, judged against the chip that it names
unfoldable pub sheet_verdict : List ℕ → Verdict
sheet_verdict s =
    let entries = entries_verdict (against s) s 0 (count s) in
    let later = and_then entries (first_broken (refuse r.J9 (J9 s) ∷ refuse r.J13 (J13 s) ∷ [])) in
    and_then (head_verdict s) later

-- THE VERDICT, of a sheet for a chip and the room in the list for sums: D0 "before every J" (02, M-105), the sheet's own rules, J14, then J10
unfoldable pub verdict : Chip → List ℕ → ℕ → Verdict
verdict chip s room =
    let own = sheet_verdict s in
    and_then (first_broken (refuse r.D0 (not (known chip)) ∷ []))
    (and_then own (first_broken (refuse r.J14 (J14 chip s) ∷ refuse r.J10 (J10 s room) ∷ [])))

-- ---- the steps of an accepted sheet ----

-- "Kinds: 1 erase, 2 write, 3 verify, 4 sum"; 02, M-106: "kind 5, blank check .., and kind 6, lock"
abbrev pub kind_of : ℕ → Kind
kind_of k =
    cond (eqb k 1) Erase (cond (eqb k 2) Write (cond (eqb k 3) Verify (cond (eqb k 5) Blank (cond (eqb k lock_kind) Lock Sum))))

-- a lock names no blocks, and is given the first
unfoldable pub step_of : Kind → Range → Flags → ℕ → Step
step_of k (Blocks f a b) flags body = record { kind = k; flash = f; first = a; last = b; flags = flags; body = body }
step_of k Invalid flags body =
    record { kind = k; flash = Code; first = block 0; last = block 0; flags = flags; body = body }

unfoldable pub step_at : Chip → List ℕ → ℕ → Step
unfolding step_of
step_at chip s i = step_of (kind_of (kind_at s i)) (range_at chip s i) (flags_at s i) (offset_at s i)

abbrev pub step_blocks : Step → ℕ
step_blocks t = blocks_from t.first t.last

abbrev pub step_pages : Step → ℕ
step_pages t = pages_from t.flash t.first t.last

-- the body, and its page k
abbrev pub step_body : List ℕ → Step → List ℕ
step_body s t = take (step_blocks t * block_size t.flash) (drop t.body s)

abbrev pub body_page : List ℕ → Step → ℕ → List ℕ
body_page s t k = take page_size (drop (t.body + k * page_size) s)
