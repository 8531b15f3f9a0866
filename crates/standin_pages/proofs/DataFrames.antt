-- What a data frame comes to: a page of Programming and a page of Verify, outcome by outcome. Assumes nothing.
use mathlib.Core.Path.{◌≡◌, refl, sym, ap, ◌∙◌}
use mathlib.Core.Bool.{Bool, true, false, cond, not, ◌&&◌}
use mathlib.Core.List.{List, [], ◌∷◌}
use Prim.Native.Nat.{ℕ, ◌+◌, ◌<◌, ◌≤◌}
use native.Mathlib.Omega.{arith}
use lib.Dec.{ltb, leb, eqb}
use lib.ListN.{length, take, drop}
use borrow.Author.Tests.{ltb-true, leb-true, eqb-true, not-false, lt-ltb, eq-eqb, ne_eqb}
use Rattle.std.proofs.Common.{Err}
use Rattle.rules.specs.declared.Chip.{Chip}
use Rattle.rules.specs.declared.Fault.{Fault as Row}
use Rattle.rules.specs.declared.Flash.{Flash}
use Rattle.rules.specs.declared.Flash.TheVariants.{Code, Data}
use Rattle.rules.specs.Faults.{EndByte, Sum, Length, Difference}
use Rattle.rules.specs.Notes.{Note}
use Rattle.rules.specs.declared.Pages.{Pages}
use Rattle.rules.specs.declared.Task.{Task}
use Rattle.rules.specs.declared.Task.TheVariants.{Programming, Verifying}
use Rattle.rules.specs.Chip.{Memory, same, flash_of, flash_size, pages, page_of, page_shown}
use Rattle.rules.specs.First.{rule, first, first_fault}
use Rattle.rules.specs.Frame.{data_start, last_end, len_of, end_of, body_of, body_size, end_due, sum_holds, pair, status_byte, note_of, data_fault}
use Rattle.rules.specs.StandIn.{State, Out, out, noted, rest, later, last_page, page_fault, page_written, page_guarded, pair_ends, on_page, compared, on_compare, ahead}
use Rattle.chip_flash.specs.Writing.{Wrote, wrote, programmed}
use Rattle.rules.proofs.Choices.{both}
use Rattle.chip_finder.proofs.Geometry.{in_pages, pages_bound}
use Rattle.chip_finder.proofs.Parts.{shown_there}
use Rattle.frame_build.specs.Buffer.{frame_in}
use Rattle.frame_build.proofs.Buffers.{length_frame}
use Rattle.frame_build.proofs.Frames.{len_in, body_in}
use Rattle.standin_state.specs.View.{Fits}
use Rattle.frame_judge.proofs.Faults.{well_byte, first_quiet}

-- each of the lent flashes has its chip's size
lent_size : (chip : Chip) (m : Memory) {reply : List ℕ} → Fits chip m.code m.«data» reply
    → (f : Flash) → length (flash_of m f) ≡ flash_size chip f
lent_size chip m fit Code = fit.in_code
lent_size chip m fit Data = fit.in_data

-- the page in hand is in its flash
module _ (chip : Chip) (p : Pages) (h : ahead chip p ≡ true) where
  some_left : 0 < p.left
  some_left = ltb-true _ _ (both (ltb 0 p.left) (leb (p.page + p.left) (pages chip p.flash)) h).0

  pub page_in_lem : p.page < pages chip p.flash
  page_in_lem =
      let e : p.page + p.left ≤ pages chip p.flash = leb-true _ _ (both (ltb 0 p.left) _ h).1 in
      omega (arith, some_left)

  -- so the pages after it can be counted
  pub countable : chip.code < 65536 → chip.«data» < 65536 → (p.page < 524288) × (0 < p.left)
  countable g d = (omega (arith, page_in_lem, pages_bound chip p.flash g d), some_left)

  -- and it is shown, and written or left
  module _ (m : Memory) {reply : List ℕ} (fit : Fits chip m.code m.«data» reply) where
    page_shown_lem : page_shown chip m p.flash p.page ≡ page_of m p.flash p.page
    page_shown_lem = shown_there _ _ _ _ (lent_size chip m fit p.flash ∙ sym (in_pages chip p.flash)) page_in_lem

    page_written_lem : (guarded : Bool) (body : List ℕ) → programmed chip guarded m p body
        ≡ wrote (status_byte (page_fault guarded (page_of m p.flash p.page))) (page_written guarded m p body)
    unfolding programmed
    page_written_lem guarded body = simp (eq-eqb _ _ (lent_size chip m fit p.flash), lt-ltb _ _ page_in_lem)

-- a data frame judged well has LEN 00h
pub len_none : (last : Bool) (f : List ℕ) → status_byte (data_fault last f) ≡ 0x06 → len_of f ≡ 0
unfolding data_fault
len_none last f e =
    let q = first_quiet (rule EndByte (not (eqb (end_of f) (end_due last))) ∷ rule Sum (not (sum_holds f)) ∷ rule (Length 0x00 (len_of f)) (not (eqb (len_of f) 0x00)) ∷ []) refl (well_byte _ e) in
    eqb-true (len_of f) 0 (not-false _ q.1.1.0)

-- so its body is 256 bytes
body_well : (last : Bool) (b : List ℕ) → status_byte (data_fault last (frame_in b)) ≡ 0x06 → body_of (frame_in b) ≡ take 256 (drop 2 b)
unfolding body_size
body_well last b e =
    let z : len_of b ≡ 0 = sym (len_in b) ∙ len_none last (frame_in b) e in
    body_in b ∙ rw z

-- 06h, or a difference
difference : (equal : Bool) → cond equal 0x06 0x0F ≡ status_byte (first_fault (rule Difference (not equal) ∷ []))
unfolding first
difference true = refl
difference false = refl

-- the answer to a page judged well: with the last one its status, and the command ends; else 06h, and the pages after it are awaited
abbrev pub told : (Pages → Task) → Pages → State → ℕ → Memory → Out
told begun p s st m =
    cond (last_page p)
    (pair_ends 0x06 st s m)
    (out (rest s.phase (begun (later p st)) s.options m) (pair 0x06 0x06))

module _ (begun : Pages → Task) (p : Pages) (s : State) (st : ℕ) (m : Memory) where
  pub told_last : last_page p ≡ true → pair_ends 0x06 st s m ≡ told begun p s st m
  told_last e = rw e

  pub told_more : last_page p ≡ false → (q : Pages) → q ≡ later p st
      → out (rest s.phase (begun q) s.options m) (pair 0x06 0x06) ≡ told begun p s st m
  told_more e q l = rw (e, l)

-- 06h is no row's byte
pub no_row : (x : Row) → status_byte (Err x) ≡ 0x06 → ⊥
no_row x e = cc (well_byte (Err x) e)

module _ (p : Pages) (s : State) (b : List ℕ) (line : ℕ) (judged : line ≡ status_byte (data_fault (last_page p) (frame_in b))) where
  module _ (note : Note) (told-so : note ≡ note_of (data_fault (last_page p) (frame_in b))) where
    -- Programming: a frame fault, or an error in the page before
    pub page_refused : (line ≡ 0x06 → ⊥) → noted note (pair_ends line p.status s s.memory) ≡ on_page p s (frame_in b)
    unfolding on_page
    page_refused n = simp (told-so, ← judged, ne_eqb _ _ n)

    pub page_stopped : line ≡ 0x06 → (p.status ≡ 0x06 → ⊥) → noted note (pair_ends line p.status s s.memory) ≡ on_page p s (frame_in b)
    unfolding on_page
    page_stopped l n = simp (told-so, ← judged, eq-eqb _ _ l, ne_eqb _ _ n)

    -- Verify: a frame fault
    pub compare_refused : (line ≡ 0x06 → ⊥) → noted note (pair_ends line 0x06 s s.memory) ≡ on_compare p s (frame_in b)
    unfolding on_compare
    compare_refused n = simp (told-so, ← judged, ne_eqb _ _ n)

  module _ (chip : Chip) {reply : List ℕ} (pre : (ahead chip p ≡ true) × Fits chip s.memory.code s.memory.«data» reply) (well : line ≡ 0x06) where
    -- else the page is written or left
    pub page_done : p.status ≡ 0x06 → (guarded : Bool) → guarded ≡ page_guarded s.options p → (st : ℕ) (m : Memory)
        → wrote st m ≡ programmed chip guarded s.memory p (take 256 (drop 2 b))
        → told Programming p s st m ≡ on_page p s (frame_in b)
    unfolding on_page
    page_done w guarded g st m e =
        let d = e ∙ page_written_lem chip p pre.0 s.memory pre.1 guarded (take 256 (drop 2 b)) in
        ap (λ (x : Wrote). told Programming p s x.status x.memory) d
        ∙ simp (← judged, eq-eqb _ _ well, eq-eqb _ _ w, body_well (last_page p) b (sym judged ∙ well), g)

    -- or it is compared
    pub compare_done : (equal : Bool) → equal ≡ same (page_shown chip s.memory p.flash p.page) (take 256 (drop 2 b))
        → (st : ℕ) → st ≡ cond (eqb p.status 0x06 && equal) 0x06 0x0F
        → told Verifying p s st s.memory ≡ on_compare p s (frame_in b)
    unfolding on_compare compared
    compare_done equal q st e =
        simp (
          ← judged,
          eq-eqb _ _ well,
          body_well (last_page p) b (sym judged ∙ well),
          e,
          q,
          page_shown_lem chip p pre.0 s.memory pre.1,
          difference,
        )

-- ---- no answer has more than 16 bytes ----

abbrev Short : List ℕ → Type 0
Short a = length a ≤ 16

pair_short : (a b : ℕ) → Short (pair a b)
pair_short a b = omega (arith, length_frame data_start last_end (a ∷ b ∷ []))

told_short : (t u : Bool) (x y z : State) (st line status : ℕ) (note : Note)
    → Short (cond t (cond u (out x (pair 0x06 st)) (out y (pair 0x06 0x06))) (noted note (out z (pair line status)))).answer
told_short true true x y z st line status note = pair_short 0x06 st
told_short true false x y z st line status note = pair_short 0x06 0x06
told_short false u x y z st line status note = pair_short line status

module _ (p : Pages) (s : State) (f : List ℕ) where
  pub page_short : Short (on_page p s f).answer
  unfolding on_page
  page_short = told_short (eqb (status_byte (data_fault (last_page p) f)) 0x06 && eqb p.status 0x06) (last_page p) _ _ _ _ _ _ _

  pub compare_short : Short (on_compare p s f).answer
  unfolding on_compare
  compare_short = told_short (eqb (status_byte (data_fault (last_page p) f)) 0x06) (last_page p) _ _ _ _ _ _ _
