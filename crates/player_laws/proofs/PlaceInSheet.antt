-- Where a player stands: a player that is not lost is in a step of the sheet, of the kind begun, with its block or page. Assumes nothing.
use mathlib.Core.Path.{◌≡◌, refl, sym, ap, ◌∙◌}
use mathlib.Core.Bool.{Bool, true, false, cond, not, ◌&&◌, false≢true}
use mathlib.Core.List.{List}
use mathlib.Core.Logic.{◌⊎◌, inl, inr}
use Prim.Native.Nat.{ℕ, ◌<◌, ◌≤◌}
use lib.Dec.{ltb, eqb}
use borrow.Author.Tests.{ltb-true, ltb-false, lt-ltb, le-ltb, eqb-true, eq-eqb, not-false}
use Rattle.rules.specs.declared.Chip.{Chip}
use Rattle.rules.specs.declared.Kind.{Kind}
use Rattle.rules.specs.declared.Kind.TheVariants.{Erase, Write, Verify, Sum, Blank, Lock}
use Rattle.rules.specs.declared.Player.{Player}
use Rattle.rules.specs.declared.Refusal.TheVariants.{P1, P2}
use Rattle.rules.specs.declared.Stage.TheVariants.{New, Ready, Block, Commanded, Page, Paged, Over}
use Rattle.rules.specs.declared.Step.{Step}
use Rattle.rules.specs.Answers.{Verdict, Accepted, Refused}
use Rattle.rules.specs.First.{and_then, first}
use Rattle.rules.specs.Numbers.{kind_number}
use Rattle.rules.specs.Sheet.{kind_of, count, step_at, step_blocks, step_pages, verdict}
use Rattle.rules.specs.Player.{step_in, command_in, page_in, lost_in, lost, frame_room, player_verdict}
use Rattle.rules.proofs.Sheet.{refused≢accepted}
use Rattle.rules.proofs.Choices.{both}

-- ---- kinds ----

-- the number tells the kind
numbered : (k : Kind) → kind_of (kind_number k) ≡ k
numbered Erase = refl
numbered Write = refl
numbered Verify = refl
numbered Sum = refl
numbered Blank = refl
numbered Lock = refl

same_kind : (a b : Kind) → kind_number a ≡ kind_number b → b ≡ a
same_kind a b e = sym (numbered b) ∙ ap kind_of (sym e) ∙ numbered a

-- the kinds that send pages
abbrev pub Paging : Kind → Type 0
Paging k = (k ≡ Write) ⊎ (k ≡ Verify)

page_in_lem : (k : Kind) (t : Step) (at : ℕ) → page_in k t at ≡ true → Paging k × (at < step_pages t)
unfolding page_in
page_in_lem Erase t at e = absurd (false≢true e)
page_in_lem Write t at e = (inl refl, ltb-true at (step_pages t) e)
page_in_lem Verify t at e = (inr refl, ltb-true at (step_pages t) e)
page_in_lem Sum t at e = absurd (false≢true e)
page_in_lem Blank t at e = absurd (false≢true e)
page_in_lem Lock t at e = absurd (false≢true e)

in_page : (k : Kind) (t : Step) (at : ℕ) → Paging k → at < step_pages t → page_in k t at ≡ true
unfolding page_in
in_page k t at (inl e) h = rw (e, lt-ltb at (step_pages t) h)
in_page k t at (inr e) h = rw (e, lt-ltb at (step_pages t) h)

-- the first command frame is there in every step that has a block
pub first_in_lem : (k : Kind) (t : Step) → 0 < step_blocks t → command_in k t 0 ≡ true
unfolding command_in
first_in_lem Erase t h = lt-ltb 0 (step_blocks t) h
first_in_lem Write t h = refl
first_in_lem Verify t h = refl
first_in_lem Sum t h = refl
first_in_lem Blank t h = refl
first_in_lem Lock t h = refl

-- ---- not lost: what is known, of any step t of n ----

module _ (n : ℕ) (t : Step) (p : Player) where
  -- of a step begun
  begun : (k : Kind) (x : Bool) → not (step_in k n t p && x) ≡ false → (p.step < n) × (t.kind ≡ k) × (x ≡ true)
  begun k x e =
      let a = both (step_in k n t p) x (not-false (step_in k n t p && x) e) in
      let b = both (ltb p.step n) (eqb (kind_number k) (kind_number t.kind)) a.0 in
      (ltb-true p.step n b.0, same_kind k t.kind (eqb-true (kind_number k) (kind_number t.kind) b.1), a.1)

  module _ (h : lost_in p.stage n t p ≡ false) where
    pub block_found : p.stage ≡ Block → (p.step < n) × (t.kind ≡ Erase) × (p.at < step_blocks t)
    unfolding lost_in command_in
    block_found g =
        let a = begun Erase (ltb p.at (step_blocks t)) (rw g at h) in
        (a.0, a.1, ltb-true p.at (step_blocks t) a.2)

    module _ {k : Kind} where
      pub commanded_found : p.stage ≡ Commanded k → (p.step < n) × (t.kind ≡ k) × (command_in k t p.at ≡ true)
      unfolding lost_in
      commanded_found g = begun k (command_in k t p.at) (rw g at h)

      paging : not (step_in k n t p && page_in k t p.at) ≡ false
          → (p.step < n) × (t.kind ≡ k) × Paging k × (p.at < step_pages t)
      paging e =
          let a = begun k (page_in k t p.at) e in
          let b = page_in_lem k t p.at a.2 in
          (a.0, a.1, b.0, b.1)

      pub page_found : p.stage ≡ Page k → (p.step < n) × (t.kind ≡ k) × Paging k × (p.at < step_pages t)
      unfolding lost_in
      page_found g = paging (rw g at h)

      pub paged_found : p.stage ≡ Paged k → (p.step < n) × (t.kind ≡ k) × Paging k × (p.at < step_pages t)
      unfolding lost_in
      paged_found g = paging (rw g at h)

module _ (chip : Chip) (s : List ℕ) (p : Player) (t : Step) (here : step_at chip s p.step ≡ t) where
  -- ---- the same, of the sheet's own step ----

  module _ (h : lost chip s p ≡ false) where
    in_step : lost_in p.stage (count s) t p ≡ false
    unfolding lost
    in_step = rw here at h

    pub block_stands : p.stage ≡ Block → (p.step < count s) × (t.kind ≡ Erase) × (p.at < step_blocks t)
    block_stands = block_found (count s) t p in_step

    module _ {k : Kind} where
      pub commanded_stands : p.stage ≡ Commanded k → (p.step < count s) × (t.kind ≡ k) × (command_in k t p.at ≡ true)
      commanded_stands = commanded_found (count s) t p in_step

      pub page_stands : p.stage ≡ Page k → (p.step < count s) × (t.kind ≡ k) × Paging k × (p.at < step_pages t)
      page_stands = page_found (count s) t p in_step

      pub paged_stands : p.stage ≡ Paged k → (p.step < count s) × (t.kind ≡ k) × Paging k × (p.at < step_pages t)
      paged_stands = paged_found (count s) t p in_step

    pub erased_stands : p.stage ≡ Commanded Erase → (p.step < count s) × (p.at < step_blocks t)
    unfolding command_in
    erased_stands g = let a = commanded_stands g in (a.0, ltb-true p.at (step_blocks t) a.2)

  -- ---- and when it is so ----

  module _ (l : p.step < count s) where
    step_in_lem : (k : Kind) → t.kind ≡ k → step_in k (count s) t p ≡ true
    step_in_lem k e = rw (lt-ltb p.step (count s) l) (eq-eqb (kind_number k) (kind_number t.kind) (ap kind_number (sym e)))

    pub stands_block : p.stage ≡ Block → t.kind ≡ Erase → p.at < step_blocks t → lost chip s p ≡ false
    unfolding lost lost_in command_in
    stands_block g e a = rw (g, here, step_in_lem Erase e, lt-ltb p.at (step_blocks t) a)

    module _ {k : Kind} (e : t.kind ≡ k) where
      pub stands_commanded : p.stage ≡ Commanded k → command_in k t p.at ≡ true → lost chip s p ≡ false
      unfolding lost lost_in
      stands_commanded g a = rw (g, here, step_in_lem k e, a)

      pub stands_page : p.stage ≡ Page k → Paging k → p.at < step_pages t → lost chip s p ≡ false
      unfolding lost lost_in
      stands_page g w a = rw (g, here, step_in_lem k e, in_page k t p.at w a)

      pub stands_paged : p.stage ≡ Paged k → Paging k → p.at < step_pages t → lost chip s p ≡ false
      unfolding lost lost_in
      stands_paged g w a = rw (g, here, step_in_lem k e, in_page k t p.at w a)

-- the three grounds of a refusal

accepted : (v : Verdict) (a b : Bool) → and_then v (cond a (Refused P1) (cond b (Refused P2) Accepted)) ≡ Accepted
    → (v ≡ Accepted) × (a ≡ false) × (b ≡ false)
accepted Accepted false false e = (refl, refl, refl)
accepted Accepted false true e = absurd (refused≢accepted _ e)
accepted Accepted true b e = absurd (refused≢accepted _ e)
accepted (Refused n) a b e = absurd (refused≢accepted _ e)

module _ (chip : Chip) (s : List ℕ) (p : Player) where
  pub stands_new : p.stage ≡ New → lost chip s p ≡ false
  unfolding lost lost_in
  stands_new g = rw g

  -- at the beginning of a step only the step has to be there
  pub ready_stands : lost chip s p ≡ false → p.stage ≡ Ready → p.step < count s
  unfolding lost lost_in
  ready_stands h g = ltb-true p.step (count s) (not-false (ltb p.step (count s)) (rw g at h))

  pub stands_ready : p.step < count s → p.stage ≡ Ready → lost chip s p ≡ false
  unfolding lost lost_in
  stands_ready l g = rw (g, lt-ltb p.step (count s) l)

  pub stands_over : p.stage ≡ Over → lost chip s p ≡ false
  unfolding lost lost_in
  stands_over g = rw g

  -- ---- a call that is not refused ----

  module _ (room sums : ℕ) where
    pub call_allowed : verdict chip s sums ≡ Accepted → frame_room ≤ room → lost chip s p ≡ false
        → player_verdict chip s p room sums ≡ Accepted
    unfolding player_verdict first
    call_allowed j r h = rw (j, le-ltb room frame_room r, h)

    pub allowed_call : player_verdict chip s p room sums ≡ Accepted
        → (verdict chip s sums ≡ Accepted) × (frame_room ≤ room) × (lost chip s p ≡ false)
    unfolding player_verdict first
    allowed_call e =
        let a = accepted (verdict chip s sums) (ltb room frame_room) (lost chip s p) e in
        (a.0, ltb-false room frame_room a.1, a.2)
