-- The meaning of a step, one block or page on. Assumes nothing.
use mathlib.Core.Path.{◌≡◌, refl, sym, ap, ◌∙◌}
use mathlib.Core.Bool.{Bool, true, false, cond, not, ◌&&◌}
use mathlib.Core.List.{List, [], ◌∷◌, ◌++◌}
use Prim.Native.Nat.{ℕ, zero, suc, ◌+◌, ◌-◌, ◌*◌, ◌<◌, ◌≤◌, min}
use native.Mathlib.Omega.{arith}
use lib.Dec.{leb, eqb}
use lib.ListN.{length, take, drop, length-drop}
use lib.Seq.{take-add, drop-drop, length-take-le}
use borrow.Author.Tests.{eqb-true, eqb-false, leb-false, eq-eqb, ne_eqb}
use Rattle.rules.specs.declared.Options.{Options}
use Rattle.rules.specs.declared.Pages.{Pages}
use Rattle.rules.specs.Faults.{Difference}
use Rattle.rules.specs.declared.Kind.{Kind}
use Rattle.rules.specs.declared.Kind.TheVariants.{Erase, Write, Verify, Sum, Blank, Lock}
use Rattle.rules.specs.declared.Step.{Step}
use Rattle.rules.specs.Chip.{Memory, block, flash_of, block_size, first_page, page_size, page_of, part_of, blank, same, erase_block, bytes_from, checksum}
use Rattle.rules.specs.Options.{erase_protected, security_set}
use Rattle.rules.specs.First.{rule, first, first_fault}
use Rattle.rules.specs.Frame.{status_byte}
use Rattle.rules.specs.StandIn.{page_fault, page_written, page_guarded, later, compared}
use Rattle.rules.specs.Sheet.{step_blocks, step_pages, step_body, body_page}
use Rattle.rules.specs.Meaning.{tried, erase_from, write_from, done, erase_done, write_pieces, write_done, step_done, step_meaning, options_by, options_after}
use Rattle.chip_finder.proofs.Geometry.{blocks_in_pages}
use Rattle.joined_laws.specs.Turns.{pages_at, write_on, same_from, verify_on, leaves, step_leaves}

-- ---- erase ----

module _ (o : Options) (t : Step) (m : Memory) (a : ℕ) where
  abbrev here : Memory
  here = erase_block m t.flash (block (t.first.0 + a))

  pub erase_on : (left : ℕ) → erase_protected o t.flash (block (t.first.0 + a)) ≡ false
      → erase_from o t m a (suc left) ≡ erase_from o t here (a + 1) left
  unfolding erase_from
  erase_on left e = rw e

  pub erase_last_lem : erase_protected o t.flash (block (t.first.0 + a)) ≡ false
      → erase_done (erase_from o t m a 1) ≡ done here 0x06 0 (a + 1) 0
  unfolding erase_from erase_done
  erase_last_lem e = rw e

  pub erase_stops : (left : ℕ) → erase_protected o t.flash (block (t.first.0 + a)) ≡ true
      → erase_done (erase_from o t m a (suc left)) ≡ done m 0x10 a (a + 1) 0
  unfolding erase_from erase_done
  erase_stops left e = rw e

-- ---- the page behind ----

pub later_page : (t : Step) (a k left now st : ℕ) → k ≡ suc left → later (pages_at t a k now) st ≡ pages_at t (a + 1) left st
later_page t a k left now st e =
    let f = t.flash in
    let n : first_page f t.first + a + 1 ≡ first_page f t.first + (a + 1) = omega arith in
    let l : k - 1 ≡ left = omega arith in
    rw (n, l)

-- ---- write ----

-- a page that failed: how many pages are sure, and how many frames were sent
module _ (p : ℕ) (m : Memory) (n st : ℕ) (bad : st ≡ 0x06 → ⊥) where
  failed : (pieces frames : ℕ) → write_pieces (n + 1) p ≡ pieces → 1 + min (n + 1 + 1) p ≡ frames
      → write_done p (tried m n st) ≡ done m st pieces frames 0
  unfolding write_done
  failed pieces frames e f = rw (ne_eqb st 0x06 bad, e, f)

  failed_last : n + 1 ≡ p → write_done p (tried m n st) ≡ done m st (n - 1) (2 + n) 0
  failed_last e = failed (n - 1) (2 + n) (rw (eq-eqb (n + 1) p e) (go (leb 2 p) refl)) (omega arith)
    where
      go : (b : Bool) → leb 2 p ≡ b → cond b (p - 2) (n + 1 - 1) ≡ n - 1
      go true h = omega arith
      go false h = let l = leb-false 2 p h in omega arith

  failed_early : n + 1 < p → write_done p (tried m n st) ≡ done m st n (3 + n) 0
  failed_early l =
      let k : n + 1 - 1 ≡ n = omega arith in
      failed n (3 + n) (rw (ne_eqb (n + 1) p (λ e. omega arith)) k) (omega arith)

module _ (o : Options) (s : List ℕ) (t : Step) (m : Memory) (a left now : ℕ) where
  abbrev page : Pages
  page = pages_at t a left now

  abbrev shown : List ℕ
  shown = page_of m page.flash page.page

  -- the write status of page a, and the memory after it
  abbrev pub status_of : ℕ
  status_of = status_byte (page_fault (page_guarded o page) shown)

  abbrev pub memory_after : Memory
  memory_after = page_written (page_guarded o page) m page (body_page s t a)

  write_from_lem : (more : ℕ)
      → write_from o s t m a (suc more) ≡ cond (eqb status_of 0x06) (write_from o s t memory_after (a + 1) more) (tried memory_after a status_of)
  unfolding write_from page_fault page_written first
  write_from_lem more = go (page_guarded o page) refl (blank shown) refl
    where
      go : (g : Bool) → page_guarded o page ≡ g → (b : Bool) → blank shown ≡ b
          → write_from o s t m a (suc more) ≡ cond (eqb status_of 0x06) (write_from o s t memory_after (a + 1) more) (tried memory_after a status_of)
      go true e b h = rw e
      go false e true h = rw (e, h)
      go false e false h = rw (e, h)

  pub write_on_lem : (more : ℕ) → write_on o s t m a (suc more) 0x06 ≡ write_on o s t memory_after (a + 1) more status_of
  write_on_lem more =
      let n : a + 1 - 1 ≡ a = omega arith in
      rw (n, write_from_lem more)

  -- the last page is told with its own status
  pub write_last : a + 1 ≡ step_pages t
      → write_on o s t m a 1 0x06 ≡ done memory_after status_of (cond (eqb status_of 0x06) 0 (a - 1)) (2 + a) 0
  unfolding write_from write_done
  write_last e = rw (write_from_lem 0) (go (eqb status_of 0x06) refl)
    where
      go : (b : Bool) → eqb status_of 0x06 ≡ b
          → write_done (step_pages t) (cond b (tried memory_after (a + 1) 0x06) (tried memory_after a status_of)) ≡ done memory_after status_of (cond b 0 (a - 1)) (2 + a) 0
      go true h =
          let f : 1 + step_pages t ≡ 2 + a = omega arith in
          rw (eqb-true status_of 0x06 h, f)
      go false h = failed_last (step_pages t) memory_after a status_of (eqb-false status_of 0x06 h) e

-- a page that failed is told at the next one, page a
pub write_told : (o : Options) (s : List ℕ) (t : Step) (m : Memory) (a left st : ℕ) → (st ≡ 0x06 → ⊥) → 1 ≤ a → a < step_pages t
    → write_on o s t m a left st ≡ done m st (a - 1) (2 + a) 0
write_told o s t m a left st n low high =
    let f : 3 + (a - 1) ≡ 2 + a = omega arith in
    rw (ne_eqb st 0x06 n, failed_early (step_pages t) m (a - 1) st n (omega arith), f)

-- ---- verify ----

same_append : (a b c d : List ℕ) → length a ≡ length c → same (a ++ b) (c ++ d) ≡ (same a c && same b d)
unfolding same
same_append [] b [] d e = refl
same_append [] b (y ∷ c) d e = absurd (omega arith)
same_append (x ∷ a) b [] d e = absurd (omega arith)
same_append (x ∷ a) b (y ∷ c) d e = go (same_append a b c d (omega arith)) (eqb x y)
  where
    go : same (a ++ b) (c ++ d) ≡ (same a c && same b d) → (t : Bool)
        → cond t (same (a ++ b) (c ++ d)) false ≡ (cond t (same a c) false && same b d)
    go h true = h
    go h false = refl

-- pages in a row, from byte x of one list and byte y of another
pages_same : (xs ys : List ℕ) (x y n : ℕ) → x + (page_size + n) ≤ length xs → y + (page_size + n) ≤ length ys
    → same (take (page_size + n) (drop x xs)) (take (page_size + n) (drop y ys))
    ≡ (same (take page_size (drop x xs)) (take page_size (drop y ys)) && same (take n (drop (x + page_size) xs)) (take n (drop (y + page_size) ys)))
pages_same xs ys x y n h g =
    let l : length (take page_size (drop x xs)) ≡ page_size = length-take-le page_size (drop x xs) (rw length-drop (omega arith)) in
    let r : length (take page_size (drop y ys)) ≡ page_size = length-take-le page_size (drop y ys) (rw length-drop (omega arith)) in
    rw (take-add page_size n (drop x xs), take-add page_size n (drop y ys), drop-drop page_size x xs, drop-drop page_size y ys)
    (same_append (take page_size (drop x xs)) _ (take page_size (drop y ys)) _ (l ∙ sym r))

module _ (s : List ℕ) (t : Step) (m : Memory) where
  abbrev flash : List ℕ
  flash = flash_of m t.flash

  abbrev from : ℕ
  from = first_page t.flash t.first

  same_from_lem : (left a : ℕ) → (from + a) * page_size + left * page_size ≤ length flash → t.body + a * page_size + left * page_size ≤ length s
      → same (take (left * page_size) (drop ((from + a) * page_size) flash)) (take (left * page_size) (drop (t.body + a * page_size) s)) ≡ same_from s t m a left
  unfolding same_from same part_of
  same_from_lem zero a h g = refl
  same_from_lem (suc left) a h g =
      let n : suc left * page_size ≡ page_size + left * page_size = omega arith in
      let x : (from + a) * page_size + page_size ≡ (from + (a + 1)) * page_size = omega arith in
      let y : t.body + a * page_size + page_size ≡ t.body + (a + 1) * page_size = omega arith in
      rw (n, pages_same flash s ((from + a) * page_size) (t.body + a * page_size) (left * page_size) (omega arith) (omega arith), x, y, same_from_lem left (a + 1) (omega arith) (omega arith))

  -- the bytes of the blocks, and the body
  pub same_all : from * page_size + step_pages t * page_size ≤ length flash → t.body + step_pages t * page_size ≤ length s
      → same (bytes_from m t.flash t.first t.last) (step_body s t) ≡ same_from s t m 0 (step_pages t)
  same_all h g =
      let n : step_blocks t * block_size t.flash ≡ step_pages t * page_size = sym (blocks_in_pages t.flash (step_blocks t)) in
      let x : t.first.0 * block_size t.flash ≡ (from + 0) * page_size = omega (arith, blocks_in_pages t.flash t.first.0) in
      let y : t.body ≡ t.body + 0 * page_size = omega arith in
      rw (n, x)
      (ap (λ (k : ℕ). same (take (step_pages t * page_size) (drop ((from + 0) * page_size) flash)) (take (step_pages t * page_size) (drop k s))) y
      ∙ same_from_lem (step_pages t) 0 (omega arith) (omega arith))

  module _ (a left now : ℕ) where
    -- the status after page a: 0Fh from the first difference on
    abbrev pub compared_at : ℕ
    compared_at = compared m (pages_at t a left now) (body_page s t a)

    abbrev equal : Bool
    equal = same (page_of m t.flash (from + a)) (body_page s t a)

    pub compared_as : compared_at ≡ cond (eqb now 0x06 && equal) 0x06 0x0F
    unfolding compared first
    compared_as = go (eqb now 0x06 && equal)
      where
        go : (b : Bool) → status_byte (first_fault (rule Difference (not b) ∷ [])) ≡ cond b 0x06 0x0F
        go true = refl
        go false = refl

    pub verify_on_lem : (more : ℕ) → verify_on s t m a (suc more) now ≡ verify_on s t m (a + 1) more compared_at
    unfolding same_from
    verify_on_lem more = rw compared_as (ap (λ (b : Bool). done m (cond b 0x06 0x0F) 0 (1 + step_pages t) 0) (go (eqb now 0x06) equal))
      where
        go : (b c : Bool) → (b && (c && same_from s t m (a + 1) more)) ≡ (eqb (cond (b && c) 0x06 0x0F) 0x06 && same_from s t m (a + 1) more)
        go true true = refl
        go true false = refl
        go false c = refl

    pub verify_last : a + 1 ≡ step_pages t → verify_on s t m a 1 now ≡ done m compared_at 0 (2 + a) 0
    unfolding same_from
    verify_last e =
        let f : 1 + step_pages t ≡ 2 + a = omega arith in
        rw (compared_as, f) (ap (λ (b : Bool). done m (cond b 0x06 0x0F) 0 (2 + a) 0) (go (eqb now 0x06) equal))
      where
        go : (b c : Bool) → (b && (c && true)) ≡ (b && c)
        go true true = refl
        go true false = refl
        go false c = refl

-- ---- what a step leaves, by its kind: only a lock changes the options ----

module _ (o : Options) (s : List ℕ) (t : Step) (m : Memory) where
  pub erase_means : t.kind ≡ Erase → step_leaves o s t m ≡ leaves (erase_done (erase_from o t m 0 (step_blocks t))) o
  unfolding step_meaning step_done options_after options_by
  erase_means k = rw k

  pub write_means : t.kind ≡ Write → step_leaves o s t m ≡ leaves (write_on o s t m 0 (step_pages t) 0x06) o
  unfolding step_meaning step_done options_after options_by
  write_means k = rw k

  pub verify_means : t.kind ≡ Verify → first_page t.flash t.first * page_size + step_pages t * page_size ≤ length (flash_of m t.flash)
      → t.body + step_pages t * page_size ≤ length s → step_leaves o s t m ≡ leaves (verify_on s t m 0 (step_pages t) 0x06) o
  unfolding step_meaning step_done options_after options_by
  verify_means k h g =
      ap (λ (x : Kind). leaves (step_done x o s t m) (options_by x t o)) k
      ∙ ap (λ (b : Bool). leaves (done m (cond b 0x06 0x0F) 0 (1 + step_pages t) 0) o) (same_all s t m h g)

  pub sum_means : t.kind ≡ Sum
      → step_leaves o s t m ≡ leaves (done m 0x06 0 1 (checksum (bytes_from m t.flash t.first t.last))) o
  unfolding step_meaning step_done options_after options_by
  sum_means k = rw k

  pub blank_means : t.kind ≡ Blank
      → step_leaves o s t m ≡ leaves (done m (cond (blank (bytes_from m t.flash t.first t.last)) 0x06 0x1B) 0 1 0) o
  unfolding step_meaning step_done options_after options_by
  blank_means k = rw k

  pub lock_means : t.kind ≡ Lock → step_leaves o s t m ≡ leaves (done m 0x06 0 1 0) (security_set t.flags.sf1 t.flags.sf2 o)
  unfolding step_meaning step_done options_after options_by
  lock_means k = rw k
