-- Laws of the fields of the head and of an entry: those of an entry are those of the bytes from it on. Assumes nothing.
use mathlib.Core.Path.{◌≡◌, refl, sym, ap, ◌∙◌}
use mathlib.Core.Bool.{Bool, true, false, cond, ◌||◌}
use mathlib.Core.List.{List, ◌++◌}
use Prim.Native.Nat.{ℕ, zero, suc, ◌+◌, ◌-◌, ◌*◌, ◌<◌, ◌≤◌}
use native.Mathlib.Omega.{arith}
use lib.Dec.{eqb, ltb}
use borrow.Author.Tests.{eq-eqb, ne_eqb, eqb-false, ltb-true, ltb-false}
use lib.ListN.{length, take, drop, get_or, replicate, length-drop, length-replicate, get_or-append, get_or-replicate, get_or-eq_default}
use lib.Seq.{take_all, drop-drop, get_or-drop, get_or-append_right}
use Rattle.std.proofs.lemmas.List.{get_or-take}
use Rattle.std.specs.Simd.{first_chunks}
use Rattle.rules.specs.declared.Address.{Address}
use Rattle.rules.specs.declared.Chip.{Chip}
use Rattle.rules.specs.Chip.{byte_at, word_at, address_at, range}
use Rattle.rules.specs.Sheet.{form_two, form, head_size, count, table_end, most_bytes, last_kind, entry_at, kind_at, zero_at, offset_at, flags_of, is_last, J6, J12, body_length, body_end, offset_due, kind_of, step_of, step_at}
use Rattle.sheet.specs.declared.table.Entry.{Entry}
use Rattle.sheet.specs.declared.table.Head.{Head}
use Rattle.sheet.specs.Entry.{entry_in, fields_of, length_of, end_of, pair_wrong, lock_wrong}
use Rattle.sheet.specs.Head.{head_in, form_of}

-- ---- the head ----

-- a sheet of bytes says no more than 65,535 steps
pub few_steps : (s : List ℕ) → ((i : ℕ) → byte_at s i < 256) → count s < 65536
unfolding count
few_steps s bytes = let at = (form s).head - 2 in omega (arith, bytes at, bytes (at + 1))

-- the head that is read, by the form
abbrev head_formed : Bool → ℕ → Head
head_formed b n = record { two = b; size = (form_of b).head; count = n }

pub head_formed_lem : (s : List ℕ) (b : Bool) (n : ℕ) → form_two s ≡ b → n ≡ word_at s ((form_of b).head - 2) → head_formed b n ≡ head_in s
unfolding head_size count
head_formed_lem s b n h e = ap (head_formed b) e ∙ sym (ap (λ (x : Bool). head_formed x (word_at s ((form_of x).head - 2))) h)

-- what a head that was read says of the sheet
pub record Heads (s : List ℕ) (head : Head) : Type 0 where
  pub two : head.two ≡ form_two s
  pub size : head.size ≡ head_size s
  pub steps : head.count ≡ count s
  pub most : (form_of head.two).most ≡ most_bytes s
  pub kinds : (form_of head.two).kinds ≡ last_kind s

pub heads : (s : List ℕ) (head : Head) → head ≡ head_in s → Heads s head
unfolding most_bytes last_kind
heads s head h =
    record {
      two = ap (λ x. x.two) h;
      size = ap (λ x. x.size) h;
      steps = ap (λ x. x.count) h;
      most = ap (λ x. (form_of x.two).most) h;
      kinds = ap (λ x. (form_of x.two).kinds) h;
    }

-- ---- what is cut from a place on ----

pub from : (n : ℕ) (s : List ℕ) → take (length s - n) (drop n s) ≡ drop n s
from n s = take_all (length s - n) (drop n s) (rw length-drop (omega arith))

pub length_from : (n : ℕ) (s : List ℕ) → length (take (length s - n) (drop n s)) ≡ length s - n
length_from n s = ap length (from n s) ∙ length-drop n s

-- ---- a field, by its place behind a place ----

module _ (n : ℕ) (s : List ℕ) where
  byte_there : (k m : ℕ) → n + k ≡ m → byte_at (drop n s) k ≡ byte_at s m
  byte_there k m e = get_or-drop n s k 0 ∙ ap (λ x. byte_at s x) e

  word_there : (k m : ℕ) → n + k ≡ m → word_at (drop n s) k ≡ word_at s m
  word_there k m e = rw (byte_there k m e, byte_there (k + 1) (m + 1) (omega arith))

  address_there : (k m : ℕ) → n + k ≡ m → address_at (drop n s) k ≡ address_at s m
  address_there k m e = rw (byte_there k m e, byte_there (k + 1) (m + 1) (omega arith), byte_there (k + 2) (m + 2) (omega arith))

-- the fields of an entry
pub entry_there : (s : List ℕ) (i : ℕ) (e : List ℕ) → e ≡ drop (entry_at s i) s → fields_of e ≡ entry_in s i
entry_there s i e h =
    let n = entry_at s i in
    cc (h, byte_there n s 0 n (omega arith), address_there n s 1 (n + 1) refl, address_there n s 4 (n + 4) refl, byte_there n s 7 (n + 7) refl, word_there n s 8 (n + 8) refl, word_there n s 10 (n + 10) refl)

-- those of bytes that are the same as far as an entry reaches
pub same_fields : (e f : List ℕ) → ((k : ℕ) → k < 12 → byte_at e k ≡ byte_at f k) → fields_of e ≡ fields_of f
same_fields e f h =
    rw (h 0 (omega arith), h 1 (omega arith), h 2 (omega arith), h 3 (omega arith), h 4 (omega arith), h 5 (omega arith), h 6 (omega arith), h 7 (omega arith), h 8 (omega arith), h 9 (omega arith), h 10 (omega arith), h 11 (omega arith))

-- those of an entry that is cut short, with zeros behind it
zeros : (n k j : ℕ) → ◌≡◌ {A = ℕ} (get_or (drop k (replicate n 0)) j 0) 0
zeros n k j = get_or-drop k (replicate n 0) j 0 ∙ go (ltb (k + j) n) refl
  where
    go : (t : Bool) → ltb (k + j) n ≡ t → ◌≡◌ {A = ℕ} (get_or (replicate n 0) (k + j) 0) 0
    go true h = get_or-replicate n (k + j) 0 0 (ltb-true (k + j) n h)
    go false h = let l = ltb-false (k + j) n h in get_or-eq_default (replicate n 0) 0 (rw (length-replicate {A = ℕ} n 0) (omega arith))

behind : (e z : List ℕ) (k : ℕ) → ((j : ℕ) → get_or z j 0 ≡ 0) → byte_at (e ++ z) k ≡ byte_at e k
behind e z k h = go (ltb k (length e)) refl
  where
    go : (t : Bool) → ltb k (length e) ≡ t → byte_at (e ++ z) k ≡ byte_at e k
    go true l = get_or-append e z 0 k (ltb-true k (length e) l)
    go false l =
        let o = ltb-false k (length e) l in
        get_or-append_right e z k 0 o ∙ h (k - length e) ∙ sym (get_or-eq_default e 0 o)

pub cut_fields : (e : List ℕ) (n k : ℕ) → fields_of (e ++ drop k (replicate n 0)) ≡ fields_of e
cut_fields e n k = same_fields (e ++ drop k (replicate n 0)) e (λ j _. behind e (drop k (replicate n 0)) j (zeros n k))

-- the bytes of an entry in a table, cut in pieces of twelve
chunk_at : (m i : ℕ) (s d : List ℕ) → i < m → get_or (first_chunks 12 m s) i d ≡ take 12 (drop (12 * i) s)
chunk_at zero i s d h = absurd (omega arith)
chunk_at (suc m) zero s d h = refl
chunk_at (suc m) (suc i) s d h =
    let e : 12 + 12 * i ≡ 12 * suc i = omega arith in
    chunk_at m i (drop 12 s) d (omega arith) ∙ ap (take 12) (drop-drop (12 * i) 12 s ∙ ap (λ (n : ℕ). drop n s) e)

pub table_read : (s : List ℕ) (size n m i : ℕ) (d : List ℕ) → size ≡ head_size s → i < n → n ≤ m
    → fields_of (get_or (take n (first_chunks 12 m (drop size s))) i d) ≡ entry_in s i
table_read s size n m i d z l o =
    ap fields_of (get_or-take n (first_chunks 12 m (drop size s)) i d l ∙ chunk_at m i (drop size s) d (omega arith))
    ∙ same_fields (take 12 (drop (12 * i) (drop size s))) (drop (12 * i) (drop size s)) (λ k h. get_or-take 12 (drop (12 * i) (drop size s)) k 0 h)
    ∙ entry_there s i (drop (12 * i) (drop size s)) (drop-drop (12 * i) size s ∙ ap (λ (k : ℕ). drop (k + 12 * i) s) z)

-- what an entry that was read says of the sheet
pub record Says (s : List ℕ) (i : ℕ) (e : Entry) : Type 0 where
  pub kind : e.kind ≡ kind_at s i
  pub pair : (chip : Chip) → pair_wrong chip e ≡ J6 chip s i
  pub lock : lock_wrong e (is_last s i) ≡ J12 s i
  pub zero : e.zero ≡ zero_at s i
  pub offset : e.offset ≡ offset_at s i
  pub end : end_of e ≡ body_end s i

pub says : (s : List ℕ) (i : ℕ) (e : Entry) → e ≡ entry_in s i → Says s i e
unfolding length_of body_length pair_wrong lock_wrong
says s i e h =
    record {
      kind = ap (λ x. x.kind) h;
      pair = λ chip. ap (pair_wrong chip) h;
      lock = ap (λ x. lock_wrong x (is_last s i)) h;
      zero = ap (λ x. x.zero) h;
      offset = ap (λ x. x.offset) h;
      end = ap end_of h;
    }

-- the step that such an entry says
pub step_said : (chip : Chip) (s : List ℕ) (i : ℕ) (e : Entry) → e ≡ entry_in s i
    → step_of (kind_of e.kind) (range chip e.sad e.ead) (flags_of e.sad) e.offset ≡ step_at chip s i
unfolding step_at
step_said chip s i e h = ap (λ x. step_of (kind_of x.kind) (range chip x.sad x.ead) (flags_of x.sad) x.offset) h

-- ---- the length of a body ----

module _ (kind : ℕ) (sad ead : Address) where
  pub no_body : (kind ≡ 2 → ⊥) → (kind ≡ 3 → ⊥) → length_of kind sad ead ≡ 0
  unfolding length_of
  no_body h g = rw (ne_eqb kind 2 h, ne_eqb kind 3 g)

  pub one_span : 2 ≤ kind → kind ≤ 3 → length_of kind sad ead ≡ ead.0 - sad.0 + 1
  unfolding length_of
  one_span h g = go (eqb kind 2) refl
    where
      go : (t : Bool) → eqb kind 2 ≡ t → cond (t || eqb kind 3) (ead.0 - sad.0 + 1) 0 ≡ ead.0 - sad.0 + 1
      go true e = refl
      go false e = let n = eqb-false kind 2 e in rw (eq-eqb kind 3 (omega arith))

-- ---- the offset that is due ----

module _ (s : List ℕ) (i : ℕ) where
  pub due_first : i ≡ 0 → offset_due s i ≡ table_end s
  unfolding offset_due
  due_first e = rw (eq-eqb i 0 e)

  pub due_later : (i ≡ 0 → ⊥) → offset_due s i ≡ body_end s (i - 1)
  unfolding offset_due
  due_later n = rw (ne_eqb i 0 n)
