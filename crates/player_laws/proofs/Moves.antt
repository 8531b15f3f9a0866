-- The moves of a player: what a reply comes to, stage by stage, which frame is given next, and what a call does. Assumes nothing.
use mathlib.Core.Path.{◌≡◌, ap, ◌∙◌}
use mathlib.Core.Bool.{false}
use mathlib.Core.List.{List}
use mathlib.Core.Logic.{inl, inr}
use Prim.Native.Nat.{ℕ, ◌+◌}
use lib.ListN.{length}
use borrow.Author.Tests.{eq-eqb, ne_eqb}
use Rattle.rules.specs.declared.Chip.{Chip}
use Rattle.rules.specs.declared.Kind.{Kind}
use Rattle.rules.specs.declared.Kind.TheVariants.{Erase}
use Rattle.rules.specs.Answers.{Refused, End, Accepted}
use Rattle.rules.specs.declared.Player.{Player}
use Rattle.rules.specs.declared.Refusal.{Refusal}
use Rattle.rules.specs.declared.Stage.{Stage}
use Rattle.rules.specs.declared.Stage.TheVariants.{New, Ready, Block, Commanded, Page, Paged, Over}
use Rattle.rules.specs.declared.Status.{Status}
use Rattle.rules.specs.declared.Step.{Step}
use Rattle.rules.specs.Answers as v
use Rattle.rules.specs.Chip.{over}
use Rattle.rules.specs.Sheet.{step_at, step_blocks, step_pages}
use Rattle.rules.specs.Player.{well, command_reply, data_reply, is_well, absorbs, stopped, goes_on, finished, pages_sure, erased_block, opened_pages, took_once, sent_page, started, absorb_command, absorb_by, absorbed, sends, silent, first_command, block_command, page_frame, emit_by, emitted, player_verdict, calls, played, call_by, called}
use Rattle.player_laws.proofs.PlaceInSheet.{Paging}

module _ (chip : Chip) (s : List ℕ) (p : Player) where
  -- ---- a reply is taken in ----

  module _ (r sums : List ℕ) where
    pub absorb_new : p.stage ≡ New → absorbed chip s p r sums ≡ absorbs (started s) sums
    unfolding absorbed absorb_by
    absorb_new g = rw g

    -- no reply is awaited
    pub absorb_ready : p.stage ≡ Ready → absorbed chip s p r sums ≡ absorbs p sums
    unfolding absorbed absorb_by
    absorb_ready g = rw g

    pub absorb_block : p.stage ≡ Block → absorbed chip s p r sums ≡ absorbs p sums
    unfolding absorbed absorb_by
    absorb_block g = rw g

    pub absorb_ahead : {k : Kind} → p.stage ≡ Page k → absorbed chip s p r sums ≡ absorbs p sums
    unfolding absorbed absorb_by
    absorb_ahead g = rw g

    pub absorb_over : p.stage ≡ Over → absorbed chip s p r sums ≡ absorbs p sums
    unfolding absorbed absorb_by
    absorb_over g = rw g

    -- to a write or verify command
    module _ {k : Kind} (g : p.stage ≡ Commanded k) (w : Paging k) where
      opening : absorbed chip s p r sums ≡ opened_pages k p r sums
      unfolding absorbed absorb_by absorb_command
      opening = ap (λ (g : Stage). absorb_by g s (step_at chip s p.step) p r sums) g ∙ go w
        where
          go : Paging k → absorb_command k s (step_at chip s p.step) p r sums ≡ opened_pages k p r sums
          go (inl e) = rw e
          go (inr e) = rw e

      pub absorb_opened : command_reply r ≡ well → absorbed chip s p r sums ≡ goes_on (Page k) p 0 sums
      unfolding opened_pages
      absorb_opened h = opening ∙ rw h

      pub absorb_opened_stop : is_well (command_reply r) ≡ false → absorbed chip s p r sums ≡ stopped p (command_reply r) 0 sums
      unfolding opened_pages
      absorb_opened_stop n = opening ∙ rw n

    -- to the only frame of a step, by the status told and the sum
    module _ {k : Kind} (g : p.stage ≡ Commanded k) (st : Status) (sum : ℕ)
        (only : absorb_command k s (step_at chip s p.step) p r sums ≡ took_once s p st sum sums) where
      took : absorbed chip s p r sums ≡ took_once s p st sum sums
      unfolding absorbed absorb_by
      took = ap (λ (g : Stage). absorb_by g s (step_at chip s p.step) p r sums) g ∙ only

      pub absorb_once : st ≡ well → absorbed chip s p r sums ≡ finished s p sum sums
      unfolding took_once
      absorb_once w = took ∙ rw w

      pub absorb_once_stop : is_well st ≡ false → absorbed chip s p r sums ≡ stopped p st 0 sums
      unfolding took_once
      absorb_once_stop n = took ∙ rw n

    -- to the erase of a block
    module _ (g : p.stage ≡ Commanded Erase) where
      pub absorb_erase_stop : is_well (command_reply r) ≡ false → absorbed chip s p r sums ≡ stopped p (command_reply r) p.at sums
      unfolding absorbed absorb_by absorb_command erased_block
      absorb_erase_stop n = rw (g, n)

      module _ (t : Step) (here : step_at chip s p.step ≡ t) (w : command_reply r ≡ well) where
        pub absorb_erase_on : (p.at + 1 ≡ step_blocks t → ⊥) → absorbed chip s p r sums ≡ goes_on Block p (p.at + 1) sums
        unfolding absorbed absorb_by absorb_command erased_block
        absorb_erase_on n = rw (g, here, w, ne_eqb (p.at + 1) (step_blocks t) n)

        pub absorb_erase_last : p.at + 1 ≡ step_blocks t → absorbed chip s p r sums ≡ finished s p 0 sums
        unfolding absorbed absorb_by absorb_command erased_block
        absorb_erase_last e = rw (g, here, w, eq-eqb (p.at + 1) (step_blocks t) e)

    -- to a page
    module _ {k : Kind} (g : p.stage ≡ Paged k) (t : Step) (here : step_at chip s p.step ≡ t) where
      pub absorb_page_stop : is_well (data_reply r) ≡ false
          → absorbed chip s p r sums ≡ stopped p (data_reply r) (pages_sure k p.at) sums
      unfolding absorbed absorb_by sent_page
      absorb_page_stop n = rw (g, here, n)

      module _ (w : data_reply r ≡ well) where
        pub absorb_page_on : (p.at + 1 ≡ step_pages t → ⊥) → absorbed chip s p r sums ≡ goes_on (Page k) p (p.at + 1) sums
        unfolding absorbed absorb_by sent_page
        absorb_page_on n = rw (g, here, w, ne_eqb (p.at + 1) (step_pages t) n)

        pub absorb_page_last : p.at + 1 ≡ step_pages t → absorbed chip s p r sums ≡ finished s p 0 sums
        unfolding absorbed absorb_by sent_page
        absorb_page_last e = rw (g, here, w, eq-eqb (p.at + 1) (step_pages t) e)

  -- ---- the next frame is given ----

  pub emit_over : p.stage ≡ Over → emitted chip s p ≡ silent p
  unfolding emitted emit_by
  emit_over g = rw g

  module _ (t : Step) (here : step_at chip s p.step ≡ t) where
    -- the first frame of a step, whatever its kind
    pub emit_first : p.stage ≡ Ready → {k : Kind} → t.kind ≡ k → emitted chip s p ≡ sends (Commanded k) p 0 (first_command k t)
    unfolding emitted emit_by
    emit_first g e = rw (g, here, e)

    pub emit_block : p.stage ≡ Block → emitted chip s p ≡ sends (Commanded Erase) p p.at (block_command t p.at)
    unfolding emitted emit_by
    emit_block g = rw (g, here)

    pub emit_page : {k : Kind} → p.stage ≡ Page k → emitted chip s p ≡ sends (Paged k) p p.at (page_frame s t p.at)
    unfolding emitted emit_by
    emit_page g = rw (g, here)

  -- ---- a call ----

  module _ (r buffer sums : List ℕ) where
    pub call_refused : (n : Refusal) → player_verdict chip s p (length buffer) (length sums) ≡ v.Refused n
        → called chip s p r buffer sums ≡ calls p (Refused n) buffer sums
    unfolding called call_by
    call_refused n h = rw h

    pub call_played : player_verdict chip s p (length buffer) (length sums) ≡ Accepted
        → called chip s p r buffer sums ≡ played chip s p r buffer sums
    unfolding called call_by
    call_played h = rw h

    -- a finished or stopped player sends nothing, and all stands
    pub call_over : player_verdict chip s p (length buffer) (length sums) ≡ Accepted → p.stage ≡ Over
        → called chip s p r buffer sums ≡ calls p End buffer sums
    unfolding played over
    call_over h g = call_played h ∙ rw (absorb_over r sums g, emit_over g)
