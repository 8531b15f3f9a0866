-- A moved sheet has the meaning of its sheet: the same steps with the same bodies. Assumes nothing.
use mathlib.Core.Path.{◌≡◌, refl, sym, ap, ◌∙◌}
use mathlib.Core.Bool.{cond}
use mathlib.Core.List.{List}
use Prim.Native.Nat.{ℕ, zero, suc, ◌+◌, ◌*◌, ◌<◌, ◌≤◌}
use native.Mathlib.Omega.{arith}
use lib.Dec.{eqb}
use lib.ListN.{take, drop, set}
use Rattle.rules.specs.declared.Chip.{Chip}
use Rattle.rules.specs.declared.Flags.{Flags}
use Rattle.rules.specs.declared.Kind.{Kind}
use Rattle.rules.specs.declared.Kind.TheVariants.{Erase, Write, Verify, Sum, Blank, Lock}
use Rattle.rules.specs.declared.Options.{Options}
use Rattle.rules.specs.Answers.{Range, Blocks, Invalid}
use Rattle.rules.specs.declared.Step.{Step}
use Rattle.rules.specs.Chip.{Memory, page_size, block_size, block, first_page, put_page, erase_block}
use Rattle.rules.specs.Sheet.{count, kind_at, flags_at, offset_at, range_at, kind_of, step_of, step_at, step_blocks, step_pages, step_body, body_page}
use Rattle.rules.specs.Meaning.{Done, Ended, ended, erase_from, write_from, step_done, step_meaning, options_by, options_after, meaning_from, meaning}
use Rattle.rules.proofs.Sheet.{SheetAllowed}
use Rattle.sheet.specs.Entry.{entry_in}
use Rattle.sheet.proofs.Fields.{step_said}
use Rattle.sheet_forms.specs.Moves.{elsewhere, SameStep, Keeps}
use Rattle.sheet_forms.proofs.OneEntry.{with_offset}
use Rattle.sheet_forms.proofs.Shifted.{Shift, past}

-- ---- a step ----

step_elsewhere : (k : Kind) (r : Range) (f : Flags) (m n : ℕ) → step_of k r f n ≡ elsewhere (step_of k r f m) n
unfolding step_of
step_elsewhere k (Blocks f a b) g m n = refl
step_elsewhere k Invalid g m n = refl

step_body_lem : (k : Kind) (r : Range) (f : Flags) (n : ℕ) → (step_of k r f n).body ≡ n
unfolding step_of
step_body_lem k (Blocks f a b) g n = refl
step_body_lem k Invalid g n = refl

-- ---- what a step does that stands elsewhere, with the same bytes ----

module _ (s u : List ℕ) (t : Step) (n : ℕ) (same : (k : ℕ) → drop (n + k) u ≡ drop (t.body + k) s) where
  pub page_same : (k : ℕ) → body_page u (elsewhere t n) k ≡ body_page s t k
  page_same k = ap (take page_size) (same (k * page_size))

  pub body_same : step_body u (elsewhere t n) ≡ step_body s t
  body_same =
      let e : n ≡ n + 0 = omega arith in
      let f : t.body + 0 ≡ t.body = omega arith in
      ap (take (step_blocks t * block_size t.flash)) (ap (λ (k : ℕ). drop k u) e ∙ same 0 ∙ ap (λ (k : ℕ). drop k s) f)

  erase_same : (o : Options) (m : Memory) (k left : ℕ) → erase_from o (elsewhere t n) m k left ≡ erase_from o t m k left
  unfolding erase_from
  erase_same o m k zero = refl
  erase_same o m k (suc left) =
      rw (erase_same o (erase_block m t.flash (block (t.first.0 + k))) (k + 1) left)

  write_same : (o : Options) (m : Memory) (k left : ℕ) → write_from o u (elsewhere t n) m k left ≡ write_from o s t m k left
  unfolding write_from
  write_same o m k zero = refl
  write_same o m k (suc left) =
      rw (page_same k, write_same o (put_page m t.flash (first_page t.flash t.first + k) (body_page s t k)) (k + 1) left)

  kind_same : (x : Kind) (o : Options) (m : Memory) → step_done x o u (elsewhere t n) m ≡ step_done x o s t m
  unfolding step_done
  kind_same Erase o m = rw (erase_same o m 0 (step_blocks t))
  kind_same Write o m = rw (write_same o m 0 (step_pages t))
  kind_same Verify o m = rw body_same
  kind_same Sum o m = refl
  kind_same Blank o m = refl
  kind_same Lock o m = refl

  does_same : (o : Options) (m : Memory) → step_meaning o u (elsewhere t n) m ≡ step_meaning o s t m
  unfolding step_meaning
  does_same o m = kind_same t.kind o m

-- nor do the options depend on where it stands
options_kind : (x : Kind) (t : Step) (n : ℕ) (o : Options) → options_by x (elsewhere t n) o ≡ options_by x t o
unfolding options_by
options_kind Erase t n o = refl
options_kind Write t n o = refl
options_kind Verify t n o = refl
options_kind Sum t n o = refl
options_kind Blank t n o = refl
options_kind Lock t n o = refl

options_same : (t : Step) (n : ℕ) (o : Options) → options_after (elsewhere t n) o ≡ options_after t o
unfolding options_after
options_same t n o = options_kind t.kind t n o

-- ---- the meaning, a step at a time ----

-- what comes of a step, given what comes of those behind it
abbrev onward : Done → Options → ℕ → ℕ → List ℕ → Ended → Ended
onward d after i frames sums later =
    cond (eqb d.status 0x06) later (ended d.memory after d.status i (frames + d.frames) d.pieces sums)

module _ (chip : Chip) (s : List ℕ) (o : Options) (m : Memory) (i frames : ℕ) (sums : List ℕ) where
  at_end : meaning_from chip s o m i frames sums 0 ≡ ended m o 0x06 i frames 0 sums
  unfolding meaning_from
  at_end = refl

  at_step : (left : ℕ) (d : Done) (after : Options) → step_meaning o s (step_at chip s i) m ≡ d → options_after (step_at chip s i) o ≡ after
      → meaning_from chip s o m i frames sums (suc left)
      ≡ onward d after i frames sums (meaning_from chip s after d.memory (i + 1) (frames + d.frames) (set sums i d.sum) left)
  unfolding meaning_from
  at_step left d after e f = rw (e, f)

-- ---- the steps of a moved sheet ----

module _ (to : ℕ → ℕ) (s u : List ℕ) (h : Shift to s u) (a : SheetAllowed s) where
  -- step i stands where its offset has gone to
  step_moved : (chip : Chip) (i : ℕ) → i < count s → step_at chip u i ≡ elsewhere (step_at chip s i) (to (offset_at s i))
  unfolding step_at
  step_moved chip i l =
      sym (step_said chip u i (with_offset (entry_in s i) (to (offset_at s i))) (sym (h.entry i l)))
      ∙ step_elsewhere (kind_of (kind_at s i)) (range_at chip s i) (flags_at s i) (offset_at s i) (to (offset_at s i))

  -- and from there on the bytes are the same
  bytes_moved : (chip : Chip) (i : ℕ) → i < count s → (k : ℕ) → drop (to (offset_at s i) + k) u ≡ drop ((step_at chip s i).body + k) s
  unfolding step_at
  bytes_moved chip i l k =
      let p = past s a i l in
      ap (λ (n : ℕ). drop n u) (sym (h.further (offset_at s i) k p))
      ∙ h.body (offset_at s i + k) (omega arith)
      ∙ ap (λ (n : ℕ). drop (n + k) s) (sym (step_body_lem (kind_of (kind_at s i)) (range_at chip s i) (flags_at s i) (offset_at s i)))

  step_same : (chip : Chip) (i : ℕ) → i < count s → SameStep chip s u i
  step_same chip i l =
      let t = step_at chip s i in
      let n = to (offset_at s i) in
      let b = bytes_moved chip i l in
      let e = step_moved chip i l in
      record {
        is = e ∙ ap (elsewhere t) (sym (ap (λ (x : Step). x.body) e));
        body = ap (step_body u) e ∙ body_same s u t n b;
        page = λ k. ap (λ (x : Step). body_page u x k) e ∙ page_same s u t n b k;
      }

  means_from : (chip : Chip) (o : Options) (m : Memory) (i frames : ℕ) (sums : List ℕ) (left : ℕ) → i + left ≤ count s
      → meaning_from chip u o m i frames sums left ≡ meaning_from chip s o m i frames sums left
  means_from chip o m i frames sums zero l = at_end chip u o m i frames sums ∙ sym (at_end chip s o m i frames sums)
  means_from chip o m i frames sums (suc left) l =
      let t = step_at chip s i in
      let n = to (offset_at s i) in
      let e = step_moved chip i (omega arith) in
      let d = step_meaning o s t m in
      let after = options_after t o in
      let does : step_meaning o u (step_at chip u i) m ≡ d =
      ap (λ (x : Step). step_meaning o u x m) e ∙ does_same s u t n (bytes_moved chip i (omega arith)) o m in
      let leaves : options_after (step_at chip u i) o ≡ after = ap (λ (x : Step). options_after x o) e ∙ options_same t n o in
      at_step chip u o m i frames sums left d after does leaves
      ∙ ap (λ (x : Ended). onward d after i frames sums x) (means_from chip after d.memory (i + 1) (frames + d.frames) (set sums i d.sum) left (omega arith))
      ∙ sym (at_step chip s o m i frames sums left d after refl refl)

  pub keeps : Keeps s u
  unfolding meaning
  keeps =
      record {
        steps = step_same;
        means =
            λ chip o m sums. ap (meaning_from chip u o m 0 0 sums) h.counted ∙ means_from chip o m 0 0 sums (count s) (omega arith);
      }
