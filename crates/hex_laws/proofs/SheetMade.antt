-- The sheet made of cells, entry by entry: each block's three entries say its erase, write and verify, and the sheet is accepted. Assumes nothing.
use mathlib.Core.Path.{◌≡◌, refl, sym, ap, ◌∙◌}
use mathlib.Core.Bool.{true, false}
use mathlib.Core.List.{List, [], ◌∷◌, ◌++◌, append_assoc}
use Prim.Native.Nat.{ℕ, suc, ◌+◌, ◌-◌, ◌*◌, ◌/◌, ◌%◌, ◌<◌, ◌≤◌}
use native.Mathlib.Omega.{arith}
use lib.Dec.{ltb, eqb}
use lib.ListN.{length, take, drop, length-append, length-drop}
use lib.Seq.{take_at, drop_at, drop-drop}
use borrow.Author.Tests.{eq-eqb, ne_eqb, le-leb, ltb-true}
use Rattle.rules.specs.declared.Chip.{Chip}
use Rattle.rules.specs.Answers.{Blocks, Accepted}
use Rattle.rules.specs.Chip.{Memory, small, known, blocks, block_size, flash_of, first_byte, last_byte, range}
use Rattle.rules.specs.Sheet.{form_two, against, count, kind_at, range_at, written, any_from, writes_again, body_end, offset_due, entry_verdict, entries_verdict, verdict, kind_of, step_of, step_at}
use Rattle.rules.specs.Hex.{Named, blocks_named, block_cells, cell_bytes, body_of, entry_of, entries_of, bodies_of, steps_of, sheet_of}
use Rattle.rules.proofs.Choices.{both, and_false}
use Rattle.rules.proofs.WritesTwice.{own_flash}
use Rattle.chip_finder.proofs.Geometry.{size_bounds}
use Rattle.chip_finder.proofs.Parts.{inside, length_part}
use Rattle.chip_finder.proofs.ThereAndBack.{range_there}
use Rattle.sheet.specs.declared.table.Entry.{Entry}
use Rattle.sheet.specs.Entry.{entry_in, length_of, pair_wrong, lock_wrong}
use Rattle.sheet.proofs.Entries.{none_left, one_accepted}
use Rattle.sheet.proofs.Fields.{entry_there, says, step_said, due_first, due_later}
use Rattle.sheet.proofs.Verdicts.{entry_allowed, head_allowed, sheet_allowed, room_allowed}
use Rattle.sheet_forms.proofs.Heads.{head_one, count_one, most_one, kinds_one, against_one, not_two}
use Rattle.joined_laws.specs.Turns.{Sized, Fit}
use Rattle.joined_laws.proofs.FramesHeard.{address_back, first_held, last_held}
use Rattle.joined_laws.proofs.Run.{known_sized}
use Rattle.hex_laws.proofs.NamedOnce.{all_there, named_all_there}
use Rattle.hex_laws.proofs.OneBlock.{step_for, Three}

sized : Sized small
unfolding known
sized = known_sized small refl

-- ---- the lengths of its parts ----

entries_length : (at : ℕ) (bs : List Named) → length (entries_of at bs) ≡ 36 * length bs
unfolding entries_of entry_of
entries_length at [] = refl
entries_length at (b ∷ bs) = let e = entries_length (at + 2 * block_size b.flash) bs in omega arith

bytes_length : (cs : List ℕ) → length (cell_bytes cs) ≡ length cs
unfolding cell_bytes
bytes_length [] = refl
bytes_length (c ∷ cs) = ap suc (bytes_length cs)

pub body_length_lem : (c : Memory) → Fit small c → (b : Named) → b.block.0 < blocks small b.flash → length (body_of c b) ≡ block_size b.flash
body_length_lem c fit b h =
    let f = b.flash in
    bytes_length (block_cells c f b.block.0)
    ∙ length_part (block_size f) b.block.0 (flash_of c f) (inside (block_size f) (blocks small f) b.block.0 (fit f) h)

-- ---- one entry ----

-- what an entry of one block says
abbrev saying : ℕ → Named → ℕ → Entry
saying kind b at =
    record { kind = kind; sad = first_byte b.flash b.block; ead = last_byte b.flash b.block; zero = 0; offset = at }

module _ (s : List ℕ) (form : form_two s ≡ false) (i kind at : ℕ) (b : Named) (more : List ℕ) (h : b.block.0 < blocks small b.flash) (few : at ≤ 65536)
    (e : drop (2 + 12 * i) s ≡ entry_of kind b at ++ more) where
  entry_said : saying kind b at ≡ entry_in s i
  unfolding entry_of
  entry_said =
      let f = b.flash in
      let low = address_back (first_byte f b.block) (first_held small sized b.block f h) in
      let high = address_back (last_byte f b.block) (last_held small sized b.block f h) in
      let offset : at % 256 + 256 * (at / 256 % 256) + 65536 * (at / 65536 % 256 + 256 * (at / 65536 / 256 % 256)) ≡ at = omega arith in
      sym (rw (low, high, offset)) ∙ entry_there s i (entry_of kind b at ++ more) (sym e ∙ ap (λ (n : ℕ). drop (n + 12 * i) s) (sym (head_one s form)))

  entry_range : range small (first_byte b.flash b.block) (last_byte b.flash b.block) ≡ Blocks b.flash b.block b.block
  entry_range = range_there small sized.apart b.flash b.block b.block (omega arith) h

  entry_kind : kind_at s i ≡ kind
  entry_kind = sym (ap (λ (x : Entry). x.kind) entry_said)

  entry_ranged : range_at (against s) s i ≡ Blocks b.flash b.block b.block
  entry_ranged =
      ap (λ (c : Chip). range_at c s i) (against_one s form)
      ∙ sym (ap (λ (x : Entry). range small x.sad x.ead) entry_said)
      ∙ entry_range

  -- J13: only a write can break it, and the entry before a write erases its block
  not_again : (kind ≡ 2 → ⊥) → writes_again s i ≡ false
  not_again n = rw (entry_kind, ne_eqb kind 2 n)

  entry_step : step_at small s i ≡ step_for (kind_of kind) b.flash b.block at
  unfolding step_of
  entry_step = sym (step_said small s i (saying kind b at) entry_said) ∙ rw entry_range

  entry_end : body_end s i ≡ at + length_of kind (first_byte b.flash b.block) (last_byte b.flash b.block)
  entry_end = sym (says s i (saying kind b at) entry_said).end

  entry_good : 1 ≤ kind → kind ≤ 3 → offset_due s i ≡ at → body_end s i ≤ length s → entry_verdict small s i ≡ Accepted
  unfolding pair_wrong lock_wrong
  entry_good low high due end =
      let x = says s i (saying kind b at) entry_said in
      let other = ne_eqb kind 6 (λ z. omega (arith, high, z)) in
      entry_allowed small s i (omega (arith, x.kind)) (omega (arith, x.kind, kinds_one s form)) (sym x.zero)
      (sym (x.pair small) ∙ rw (other, entry_range))
      (sym x.lock ∙ rw other)
      (sym x.offset ∙ sym due)
      end

-- an entry that erases the block, and behind it one that writes it
erased_before : (s : List ℕ) (form : form_two s ≡ false) (i at : ℕ) (b : Named) (more rest : List ℕ) → b.block.0 < blocks small b.flash → at ≤ 65536
    → drop (2 + 12 * i) s ≡ entry_of 1 b at ++ more → drop (2 + 12 * (i + 1)) s ≡ entry_of 2 b at ++ rest → writes_again s (i + 1) ≡ false
unfolding written any_from
erased_before s form i at b more rest h few e f =
    let one : b.block.0 + 1 - b.block.0 ≡ 1 = omega arith in
    let n : i + 1 ≡ suc i = omega arith in
    let o = le-leb b.block.0 b.block.0 (omega arith) in
    rw (entry_ranged s form (i + 1) 2 at b rest h few f, one, n, entry_kind s form i 1 at b more h few e, entry_ranged s form i 1 at b more h few e, own_flash b.flash, o)
    (and_false (eqb (kind_at s (suc i)) 2))

-- a body of one block
one_body : (b : Named) → (last_byte b.flash b.block).0 - (first_byte b.flash b.block).0 + 1 ≡ block_size b.flash
one_body b = let s = size_bounds b.flash in omega arith

-- ---- from a block on ----

-- entry i and those behind it are of these blocks, and their bodies stand from that place on
pub record Ahead (c : Memory) (s : List ℕ) (i at : ℕ) (bs : List Named) : Type 0 where
  pub more : List ℕ
  pub table : drop (2 + 12 * i) s ≡ entries_of at bs ++ more
  pub bodies : drop at s ≡ bodies_of c bs
  pub low : at ≤ length s
  pub due : offset_due s i ≡ at
  pub all : i + 3 * length bs ≡ count s
  pub there : all_there bs ≡ true

-- the first of them: its entries are accepted, they say its three steps, and behind them stand those of the others
pub record Next (c : Memory) (s : List ℕ) (i at : ℕ) (b : Named) (bs : List Named) : Type 0 where
  pub here : b.block.0 < blocks small b.flash
  pub erase : entry_verdict small s i ≡ Accepted
  pub write : entry_verdict small s (i + 1) ≡ Accepted
  pub verify : entry_verdict small s (i + 1 + 1) ≡ Accepted
  pub three : Three s i b (body_of c b)
  pub once : (writes_again s i ≡ false) × (writes_again s (i + 1) ≡ false) × (writes_again s (i + 1 + 1) ≡ false)
  pub later : Ahead c s (i + 1 + 1 + 1) (at + block_size b.flash + block_size b.flash) bs

-- twelve bytes on
twelve_on : (s : List ℕ) (i kind at : ℕ) (b : Named) (more : List ℕ) → drop (2 + 12 * i) s ≡ entry_of kind b at ++ more → drop (2 + 12 * (i + 1)) s ≡ more
unfolding entry_of
twelve_on s i kind at b more e =
    let n : 2 + 12 * (i + 1) ≡ 2 + 12 * i + 12 = omega arith in
    ap (λ (k : ℕ). drop k s) n ∙ sym (drop-drop 12 (2 + 12 * i) s) ∙ ap (drop 12) e

-- a body on
body_on : (s : List ℕ) (at size : ℕ) (body rest : List ℕ) → length body ≡ size → drop at s ≡ body ++ rest
    → (take size (drop at s) ≡ body) × (drop (at + size) s ≡ rest)
body_on s at size body rest l e =
    (ap (take size) e ∙ take_at body rest size l, sym (drop-drop size at s) ∙ ap (drop size) e ∙ drop_at body rest size l)

-- the entry behind an entry
due_next : (s : List ℕ) (i at : ℕ) → body_end s i ≡ at → offset_due s (i + 1) ≡ at
due_next s i at e =
    let n : i + 1 - 1 ≡ i = omega arith in
    due_later s (i + 1) (λ z. omega arith) ∙ ap (body_end s) n ∙ e

module _ (c : Memory) (fit : Fit small c) (s : List ℕ) (form : form_two s ≡ false) (few : length s ≤ 65536) where
  pub next : (i at : ℕ) (b : Named) (bs : List Named) → Ahead c s i at (b ∷ bs) → Next c s i at b bs
  unfolding entries_of bodies_of all_there length_of
  next i at b bs a =
      let size = block_size b.flash in
      let body = body_of c b in
      let h = both (ltb b.block.0 (blocks small b.flash)) (all_there bs) a.there in
      let here = ltb-true b.block.0 (blocks small b.flash) h.0 in
      let l = body_length_lem c fit b here in
      let rest = entries_of (at + 2 * size) bs ++ a.more in
      let t1 : drop (2 + 12 * i) s ≡ entry_of 1 b at ++ (entry_of 2 b at ++ (entry_of 3 b (at + size) ++ rest)) = a.table ∙ split3 (entry_of 1 b at) (entry_of 2 b at) (entry_of 3 b (at + size)) (entries_of (at + 2 * size) bs) a.more in
      let t2 = twelve_on s i 1 at b (entry_of 2 b at ++ (entry_of 3 b (at + size) ++ rest)) t1 in
      let t3 = twelve_on s (i + 1) 2 at b (entry_of 3 b (at + size) ++ rest) t2 in
      let t4 = twelve_on s (i + 1 + 1) 3 (at + size) b rest t3 in
      let two : drop at s ≡ body ++ (body ++ bodies_of c bs) = a.bodies ∙ append_assoc body body (bodies_of c bs) in
      let w = body_on s at size body (body ++ bodies_of c bs) l two in
      let v = body_on s (at + size) size body (bodies_of c bs) l w.1 in
      let long : length s - at ≡ size + (size + length (bodies_of c bs)) = sym (length-drop at s) ∙ ap length two ∙ length-append body (body ++ bodies_of c bs) ∙ (let q = length-append body (bodies_of c bs) in omega arith) in
      let low = a.low in
      let some = (size_bounds b.flash).0 in
      let k = one_body b in
      let e1 : body_end s i ≡ at = entry_end s form i 1 at b _ here (omega arith) t1 ∙ omega arith in
      let e2 : body_end s (i + 1) ≡ at + size = entry_end s form (i + 1) 2 at b _ here (omega arith) t2 ∙ omega arith in
      let e3 : body_end s (i + 1 + 1) ≡ at + size + size = entry_end s form (i + 1 + 1) 3 (at + size) b _ here (omega arith) t3 ∙ omega arith in
      let d2 = due_next s i at e1 in
      let d3 = due_next s (i + 1) (at + size) e2 in
      let twice : at + 2 * size ≡ at + size + size = omega arith in
      record {
        here = here;
        erase = entry_good s form i 1 at b _ here (omega arith) t1 (omega arith) (omega arith) a.due (omega arith);
        write = entry_good s form (i + 1) 2 at b _ here (omega arith) t2 (omega arith) (omega arith) d2 (omega arith);
        verify = entry_good s form (i + 1 + 1) 3 (at + size) b _ here (omega arith) t3 (omega arith) (omega arith) d3 (omega arith);
        three = record {
          at = at;
          other = at + size;
          erase = entry_step s form i 1 at b _ here (omega arith) t1;
          write = entry_step s form (i + 1) 2 at b _ here (omega arith) t2;
          verify = entry_step s form (i + 1 + 1) 3 (at + size) b _ here (omega arith) t3;
          inside = omega arith;
          writes = w.0;
          compares = v.0;
        };
        once = (
          not_again s form i 1 at b _ here (omega arith) t1 (λ z. omega (arith, z)),
          erased_before s form i at b _ _ here (omega arith) t1 t2,
          not_again s form (i + 1 + 1) 3 (at + size) b _ here (omega arith) t3 (λ z. omega (arith, z)),
        );
        later = record {
          more = a.more;
          table = rw (← twice) t4;
          bodies = v.1;
          low = omega arith;
          due = due_next s (i + 1 + 1) (at + size + size) e3;
          all = (let q = a.all in omega arith);
          there = h.1;
        };
      }
    where
      split3 : (x y z u v : List ℕ) → (x ++ y ++ z ++ u) ++ v ≡ x ++ (y ++ (z ++ (u ++ v)))
      split3 x y z u v = append_assoc (x ++ y ++ z) u v ∙ append_assoc (x ++ y) z (u ++ v) ∙ append_assoc x y (z ++ (u ++ v))

  -- all of them are accepted, and the last body ends with the sheet
  entries_good : (bs : List Named) (i at : ℕ) → Ahead c s i at bs → (entries_verdict small s i (3 * length bs) ≡ Accepted) × (length s ≡ offset_due s (count s))
  unfolding bodies_of
  entries_good [] i at a =
      let n : i ≡ count s = (let q = a.all in omega arith) in
      let l : length s - at ≡ 0 = sym (length-drop at s) ∙ ap length a.bodies in
      let d : offset_due s (count s) ≡ at = ap (offset_due s) (sym n) ∙ a.due in
      (none_left small s i 0 refl, let q = a.low in omega arith)
  entries_good (b ∷ bs) i at a =
      let n = next i at b bs a in
      let r = entries_good bs (i + 1 + 1 + 1) (at + block_size b.flash + block_size b.flash) n.later in
      let left = 3 * length bs in
      let k : 3 * length (b ∷ bs) ≡ left + 1 + 1 + 1 = omega arith in (
        ap (entries_verdict small s i) k
            ∙ one_accepted small s i (left + 1 + 1 + 1) (left + 1 + 1) refl n.erase
            ∙ one_accepted small s (i + 1) (left + 1 + 1) (left + 1) refl n.write
            ∙ one_accepted small s (i + 1 + 1) (left + 1) left refl n.verify
            ∙ r.0,
        r.1,
      )

  -- no step writes a block that stands written
  none_again : (bs : List Named) (i at : ℕ) → Ahead c s i at bs → any_from (writes_again s) i (3 * length bs) ≡ false
  unfolding any_from
  none_again [] i at a = refl
  none_again (b ∷ bs) i at a =
      let n = next i at b bs a in
      let k : 3 * length (b ∷ bs) ≡ suc (suc (suc (3 * length bs))) = omega arith in
      let r = none_again bs (i + 1 + 1 + 1) (at + block_size b.flash + block_size b.flash) n.later in
      ap (any_from (writes_again s) i) k ∙ rw (n.once.0, n.once.1, n.once.2, r)

-- ---- the whole sheet ----

module _ (c : Memory) (fit : Fit small c) (steps : steps_of c ≤ 64) (few : length (sheet_of c) ≤ 65536) where
  abbrev s : List ℕ
  s = sheet_of c

  abbrev ns : List Named
  ns = blocks_named c

  abbrev table : List ℕ
  table = entries_of (2 + 12 * steps_of c) ns

  -- its count is at most 64, so it is of form 1
  pub form_one_lem : form_two s ≡ false
  unfolding sheet_of
  form_one_lem = not_two s (omega (arith, steps))

  pub steps_counted : count s ≡ steps_of c
  unfolding sheet_of
  steps_counted = count_one s form_one_lem ∙ omega (arith, steps)

  pub all_ahead : Ahead c s 0 (2 + 12 * steps_of c) ns
  unfolding sheet_of
  all_ahead =
      let n = steps_of c in
      let e = entries_length (2 + 12 * n) ns in
      let head = n % 256 ∷ n / 256 % 256 ∷ table in
      let l : length head ≡ 2 + 12 * n = omega arith in
      let whole : length s ≡ length head + length (bodies_of c ns) = length-append head (bodies_of c ns) in
      record {
        more = bodies_of c ns;
        table = refl;
        bodies = drop_at head (bodies_of c ns) (2 + 12 * n) l;
        low = omega arith;
        due = due_first s 0 refl ∙ rw (head_one s form_one_lem, steps_counted);
        all = omega (arith, steps_counted);
        there = named_all_there c;
      }

  -- THE MADE SHEET IS ACCEPTED, given room for sums
  pub sheet_good : (room : ℕ) → count s ≤ room → verdict small s room ≡ Accepted
  unfolding known
  sheet_good room r =
      let a = all_ahead in
      let g = entries_good c fit s form_one_lem few ns 0 (2 + 12 * steps_of c) a in
      let n : 3 * length ns ≡ count s = sym steps_counted in
      let two = head_one s form_one_lem in
      let own = against_one s form_one_lem in
      let head =
      head_allowed s (let q = a.low in omega (arith, two)) (omega (arith, few, most_one s form_one_lem)) (let k = steps_counted in omega arith) (rw form_one_lem)
      (rw (two, steps_counted) a.low) in
      let once = ap (any_from (writes_again s) 0) (sym n) ∙ none_again c fit s form_one_lem few ns 0 (2 + 12 * steps_of c) a in
      let entries : entries_verdict small s 0 (count s) ≡ Accepted = ap (entries_verdict small s 0) (sym n) ∙ g.0 in
      room_allowed small s room refl (sheet_allowed s head (rw own entries) (rw (eq-eqb _ _ g.1)) once) (rw own) r
