-- 02, M-107: J13 applies precisely where two write steps cover the same page and no erase step of that page's block stands between them; and
-- so not where no two write steps share a block. Assumes nothing.
use mathlib.Core.Path.{◌≡◌, refl, sym, ap, ◌∙◌}
use mathlib.Core.Bool.{Bool, true, false, cond, ◌&&◌, ◌||◌, false≢true}
use mathlib.Core.List.{List}
use Prim.Native.Nat.{ℕ, zero, suc, ◌+◌, ◌-◌, ◌*◌, ◌≤◌, ◌<◌}
use native.Mathlib.Omega.{arith}
use lib.Dec.{eqb, leb, ltb}
use borrow.Author.Tests.{eqb-true, eqb-false, eq-eqb, leb-true, ltb-true, le-leb, lt-ltb}
use Rattle.rules.specs.declared.Flash.{Flash}
use Rattle.rules.specs.declared.Flash.TheVariants.{Code, Data}
use Rattle.rules.specs.declared.Block.{Block}
use Rattle.rules.specs.Answers.{Range, Blocks, Invalid}
use Rattle.rules.specs.Chip.{same_flash, pages_per_block, first_page, pages_from, block_of_page, blocks_from}
use Rattle.rules.specs.Sheet.{count, kind_at, range_at, against, covers, writes, erases, written, any_from, any_written, writes_again, J13}
use Rattle.rules.proofs.Choices.{both}

-- ---- the sentence ----

-- a range covers that page of that flash
abbrev pub covers_page : Range → Flash → ℕ → Bool
covers_page (Blocks g first last) f p =
    same_flash g f && leb (first_page f first) p && ltb p (first_page f first + pages_from f first last)
covers_page Invalid f p = false

abbrev pub WritesPage : List ℕ → ℕ → Flash → ℕ → Type 0
WritesPage s i f p = (kind_at s i ≡ 2) × (covers_page (range_at (against s) s i) f p ≡ true)

abbrev pub ErasesBlock : List ℕ → ℕ → Flash → Block → Type 0
ErasesBlock s i f b = (kind_at s i ≡ 1) × (covers (range_at (against s) s i) f b.0 ≡ true)

-- "two write steps cover the same page, with no erase step of that page's block between them"
pub record Twice (s : List ℕ) : Type 0 where
  pub flash : Flash
  pub page : ℕ
  pub first : ℕ
  pub later : ℕ
  pub order : first < later
  pub there : later < count s
  pub once : WritesPage s first flash page
  pub again : WritesPage s later flash page
  pub between : (k : ℕ) → first < k → k < later → ErasesBlock s k flash (block_of_page flash page) → ⊥

-- ---- of one number at least ----

pub record Some (p : ℕ → Bool) (n left : ℕ) : Type 0 where
  pub number : ℕ
  pub low : n ≤ number
  pub high : number < n + left
  pub holds : p number ≡ true

pub some_of : (p : ℕ → Bool) (n left : ℕ) → any_from p n left ≡ true → Some p n left
unfolding any_from
some_of p n zero e = absurd (false≢true e)
some_of p n (suc left) e = go (p n) refl e (some_of p (n + 1) left)
  where
    go : (b : Bool) → p n ≡ b → (b || any_from p (n + 1) left) ≡ true → (any_from p (n + 1) left ≡ true → Some p (n + 1) left)
        → Some p n (suc left)
    go true h g later = record { number = n; low = omega arith; high = omega arith; holds = h }
    go false h g later =
        let x = later g in record { number = x.number; low = omega (arith, x.low); high = omega (arith, x.high); holds = x.holds }

pub of_some : (p : ℕ → Bool) (n left k : ℕ) → n ≤ k → k < n + left → p k ≡ true → any_from p n left ≡ true
unfolding any_from
of_some p n zero k a b e = absurd (omega arith)
of_some p n (suc left) k a b e = go (p n) (eqb n k) refl refl (of_some p (n + 1) left k)
  where
    go : (t u : Bool) → p n ≡ t → eqb n k ≡ u → (n + 1 ≤ k → k < n + 1 + left → p k ≡ true → any_from p (n + 1) left ≡ true)
        → (t || any_from p (n + 1) left) ≡ true
    go true u h g later = refl
    go false true h g later = absurd (false≢true (sym h ∙ ap p (eqb-true n k g) ∙ e))
    go false false h g later = let d = eqb-false n k g in later (omega arith) (omega arith) e

-- ---- looking back ----

-- the last step before step i that writes or erases the block
pub record Back (s : List ℕ) (f : Flash) (b i : ℕ) : Type 0 where
  pub step : ℕ
  pub before : step < i
  pub wrote : writes s step f b ≡ true
  pub since : (k : ℕ) → step < k → k < i → erases s k f b ≡ false

pub looked_back : (s : List ℕ) (f : Flash) (b i : ℕ) → written s f b i ≡ true → Back s f b i
unfolding written
looked_back s f b zero e = absurd (false≢true e)
looked_back s f b (suc i) e = go (writes s i f b) (erases s i f b) refl refl e (looked_back s f b i)
  where
    go : (w x : Bool) → writes s i f b ≡ w → erases s i f b ≡ x → cond w true (cond x false (written s f b i)) ≡ true
        → (written s f b i ≡ true → Back s f b i) → Back s f b (suc i)
    go true x h g d earlier = record { step = i; before = omega arith; wrote = h; since = λ k l m. absurd (omega arith) }
    go false true h g d earlier = absurd (false≢true d)
    go false false h g d earlier =
        let y = earlier d in
        record { step = y.step; before = omega (arith, y.before); wrote = y.wrote; since = λ k l m. at k (eqb k i) refl (λ n. y.since k l n) m }
      where
        at : (k : ℕ) (t : Bool) → eqb k i ≡ t → (k < i → erases s k f b ≡ false) → k < suc i → erases s k f b ≡ false
        at k true q r m = ap (λ (n : ℕ). erases s n f b) (eqb-true k i q) ∙ g
        at k false q r m = let d = eqb-false k i q in r (omega arith)

pub back_written : (s : List ℕ) (f : Flash) (b i j : ℕ) → j < i → writes s j f b ≡ true
    → ((k : ℕ) → j < k → k < i → erases s k f b ≡ false) → written s f b i ≡ true
unfolding written
back_written s f b zero j l w e = absurd (omega arith)
back_written s f b (suc i) j l w e = go (writes s i f b) (eqb j i) refl refl (back_written s f b i j)
  where
    go : (t u : Bool) → writes s i f b ≡ t → eqb j i ≡ u
        → (j < i → writes s j f b ≡ true → ((k : ℕ) → j < k → k < i → erases s k f b ≡ false) → written s f b i ≡ true)
        → cond t true (cond (erases s i f b) false (written s f b i)) ≡ true
    go true u h g earlier = refl
    go false true h g earlier = absurd (false≢true (sym h ∙ ap (λ (n : ℕ). writes s n f b) (sym (eqb-true j i g)) ∙ w))
    go false false h g earlier =
        let d = eqb-false j i g in
        rw (e i (omega arith) (omega arith)) (earlier (omega arith) w (λ k m n. e k m (omega arith)))

-- ---- the blocks of a range ----

pub same_flash_lem : (f g : Flash) → same_flash f g ≡ true → f ≡ g
unfolding same_flash
same_flash_lem Code Code e = refl
same_flash_lem Code Data e = absurd (false≢true e)
same_flash_lem Data Code e = absurd (false≢true e)
same_flash_lem Data Data e = refl

pub own_flash : (f : Flash) → same_flash f f ≡ true
unfolding same_flash
own_flash Code = refl
own_flash Data = refl

pub record Within (r : Range) (p : Flash → ℕ → Bool) : Type 0 where
  pub flash : Flash
  pub block : ℕ
  pub covered : covers r flash block ≡ true
  pub holds : p flash block ≡ true

module _ (s : List ℕ) (i : ℕ) where
  pub within : (r : Range) → any_written s i r ≡ true → Within r (λ f b. written s f b i)
  within (Blocks f first last) e =
      let x = some_of (λ b. written s f b i) first.0 (blocks_from first last) e in
      record {
        flash = f;
        block = x.number;
        covered = rw (own_flash f, le-leb first.0 x.number x.low, le-leb x.number last.0 (omega (arith, x.low, x.high)));
        holds = x.holds;
      }
  within Invalid e = absurd (false≢true e)

  pub of_within : (r : Range) (f : Flash) (b : ℕ) → covers r f b ≡ true → written s f b i ≡ true → any_written s i r ≡ true
  of_within (Blocks g first last) f b c e =
      let x = both (same_flash g f && leb first.0 b) (leb b last.0) c in
      let y = both (same_flash g f) (leb first.0 b) x.0 in
      let l = leb-true first.0 b y.1 in
      let h = leb-true b last.0 x.1 in
      of_some (λ n. written s g n i) first.0 (blocks_from first last) b l (omega (arith, l, h))
      (ap (λ (h : Flash). written s h b i) (same_flash_lem g f y.0) ∙ e)
  of_within Invalid f b c e = absurd (false≢true c)

-- ---- pages and blocks ----

-- of a page its block, and of a block its first page
abbrev block_of : Flash → ℕ → ℕ
block_of f p = (block_of_page f p).0

pages_some : (f : Flash) (a z p : ℕ) → a * pages_per_block f ≤ p → p < a * pages_per_block f + (z + 1 - a) * pages_per_block f
    → (a ≤ block_of f p) × (block_of f p ≤ z)
pages_some Code a z p l h = (omega arith, omega arith)
pages_some Data a z p l h = (omega arith, omega arith)

blocks_some : (f : Flash) (a z p : ℕ) → a ≤ block_of f p → block_of f p ≤ z
    → (a * pages_per_block f ≤ p) × (p < a * pages_per_block f + (z + 1 - a) * pages_per_block f)
blocks_some Code a z p l h = (omega arith, omega arith)
blocks_some Data a z p l h = (omega arith, omega arith)

first_page_lem : (f : Flash) (b : ℕ) → block_of f (b * pages_per_block f) ≡ b
first_page_lem Code b = omega arith
first_page_lem Data b = omega arith

pub page_covered : (r : Range) (f : Flash) (p : ℕ) → covers_page r f p ≡ true → covers r f (block_of f p) ≡ true
page_covered (Blocks g first last) f p e =
    let x = both (same_flash g f && leb (first_page f first) p) (ltb p (first_page f first + pages_from f first last)) e in
    let y = both (same_flash g f) (leb (first_page f first) p) x.0 in
    let b = pages_some f first.0 last.0 p (leb-true (first_page f first) p y.1) (ltb-true p (first_page f first + pages_from f first last) x.1) in
    rw (y.0, le-leb first.0 (block_of f p) b.0, le-leb (block_of f p) last.0 b.1)
page_covered Invalid f p e = absurd (false≢true e)

pub covered_page : (r : Range) (f : Flash) (p : ℕ) → covers r f (block_of f p) ≡ true → covers_page r f p ≡ true
covered_page (Blocks g first last) f p e =
    let x = both (same_flash g f && leb first.0 (block_of f p)) (leb (block_of f p) last.0) e in
    let y = both (same_flash g f) (leb first.0 (block_of f p)) x.0 in
    let b = blocks_some f first.0 last.0 p (leb-true first.0 (block_of f p) y.1) (leb-true (block_of f p) last.0 x.1) in
    rw (y.0, le-leb (first_page f first) p b.0, lt-ltb p (first_page f first + pages_from f first last) b.1)
covered_page Invalid f p e = absurd (false≢true e)

-- ---- THE LAW, both ways ----

module _ (s : List ℕ) where
  -- a write step of a page, by the test for its block
  page_written_lem : (i : ℕ) (f : Flash) (p : ℕ) → WritesPage s i f p → writes s i f (block_of f p) ≡ true
  page_written_lem i f p w = rw (eq-eqb (kind_at s i) 2 w.0) (page_covered (range_at (against s) s i) f p w.1)

  written_page : (i : ℕ) (f : Flash) (p : ℕ) → writes s i f (block_of f p) ≡ true → WritesPage s i f p
  written_page i f p w =
      let x = both (eqb (kind_at s i) 2) (covers (range_at (against s) s i) f (block_of f p)) w in
      (eqb-true (kind_at s i) 2 x.0, covered_page (range_at (against s) s i) f p x.1)

  -- no erase step of a block, by the test
  unerased : (k : ℕ) (f : Flash) (b : ℕ) → (ErasesBlock s k f (record { 0 = b }) → ⊥) → erases s k f b ≡ false
  unerased k f b n = go (erases s k f b) refl
    where
      go : (t : Bool) → erases s k f b ≡ t → t ≡ false
      go true h = let x = both (eqb (kind_at s k) 1) (covers (range_at (against s) s k) f b) h in absurd (n (eqb-true (kind_at s k) 1 x.0, x.1))
      go false h = refl

  not_erased : (k : ℕ) (f : Flash) (b : ℕ) → erases s k f b ≡ false → ErasesBlock s k f (record { 0 = b }) → ⊥
  not_erased k f b h e = false≢true (sym h ∙ rw (eq-eqb (kind_at s k) 1 e.0) e.1)

  pub J13_twice : J13 s ≡ true → Twice s
  J13_twice e =
      let x = some_of (writes_again s) 0 (count s) e in
      let y = both (eqb (kind_at s x.number) 2) (any_written s x.number (range_at (against s) s x.number)) x.holds in
      let z = within s x.number (range_at (against s) s x.number) y.1 in
      let b = looked_back s z.flash z.block x.number z.holds in
      let f = z.flash in
      let p = z.block * pages_per_block f in
      let h = first_page_lem f z.block in
      record {
        flash = f;
        page = p;
        first = b.step;
        later = x.number;
        order = b.before;
        there = omega (arith, x.high);
        once = written_page b.step f p (ap (λ (n : ℕ). writes s b.step f n) h ∙ b.wrote);
        again = (eqb-true (kind_at s x.number) 2 y.0, covered_page (range_at (against s) s x.number) f p (ap (λ (n : ℕ). covers (range_at (against s) s x.number) f n) h ∙ z.covered));
        between = λ k l m. not_erased k f (block_of f p) (ap (λ (n : ℕ). erases s k f n) h ∙ b.since k l m);
      }

  pub twice_J13 : Twice s → J13 s ≡ true
  twice_J13 t =
      let f = t.flash in
      let c = block_of f t.page in
      let w =
      back_written s f c t.later t.first t.order (page_written_lem t.first f t.page t.once)
      (λ k l m. unerased k f c (t.between k l m)) in
      let a =
      of_within s t.later (range_at (against s) s t.later) f c (page_covered (range_at (against s) s t.later) f t.page t.again.1) w in
      of_some (writes_again s) 0 (count s) t.later (omega arith) (omega (arith, t.there)) (rw (eq-eqb (kind_at s t.later) 2 t.again.0, a))

  -- what no sheet of which no two write steps share a block breaks
  pub once_each : ((i j : ℕ) (f : Flash) (b : ℕ) → i < j → j < count s → writes s i f b ≡ true → writes s j f b ≡ true → ⊥) → J13 s ≡ false
  once_each apart = go (J13 s) refl
    where
      go : (t : Bool) → J13 s ≡ t → t ≡ false
      go true h =
          let t = J13_twice h in
          absurd (apart t.first t.later t.flash (block_of t.flash t.page) t.order t.there (page_written_lem t.first t.flash t.page t.once) (page_written_lem t.later t.flash t.page t.again))
      go false h = refl
